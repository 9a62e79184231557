-- `walker::play` meets its contract.
use mathlib.Core.Path.{◌≡◌}
use mathlib.Core.List.{List}
use Prim.Native.Nat.{ℕ, ◌-◌, ◌*◌, ◌≤◌}
use lib.ListN.{length}
use Rattle.cells.specs.Block.{ticks_of, played}
use Rattle.cells.proofs.Playing.{Playing}
use Rattle.arity.specs.Table.{circuit}
use Rattle.calls.specs.Probes.{recorded}
use Rattle.calls.specs.Probed.{probes_of}
use Rattle.walker.specs.Ready.{base, step_of}
use Rattle.walker.specs.Probing.{Watching}
use Rattle.walker.proofs.Recording.{Recording}
use Rattle.walker.proofs.play.Given as goal

abbrev pub invariant-loop-tick : goal.invariant-loop-tick
invariant-loop-tick l =
    Playing (step_of l.walk.circuit.now) l.inputs l.walk.controls.now (played (step_of l.walk.circuit.now) (ticks_of l.n l.walk.controls.now l.ticks l.inputs) l.initial.cells) l.n l.m (l.ticks - l.tick) (l.tick * l.n) (l.tick * l.m) l.clips l.outputs l.cells × (length l.outputs ≡ length l.initial.outputs) × (length l.cells ≡ length l.initial.cells)
    × ((xs : List ℕ) → Watching l.walk.circuit.now xs (length l.initial.latest) l.walk.marks.now
    → Recording (base l.walk.circuit.now) (circuit l.walk.circuit.now) (probes_of xs) l.inputs l.walk.controls.now (recorded (base l.walk.circuit.now) (circuit l.walk.circuit.now) (probes_of xs) (ticks_of l.n l.walk.controls.now l.ticks l.inputs) l.initial.cells l.initial.latest) l.n l.count (l.ticks - l.tick) (l.tick * l.n) (l.tick * l.count) l.recording l.cells l.latest)
    × (length l.latest ≡ length l.initial.latest) × (length l.recording ≡ length l.initial.recording) × (l.clips ≤ l.tick)
