-- `flat::play_keyed` meets its contract: playing what is left gives what playing all gives.
use Prim.Native.Nat.{◌-◌, ◌≤◌}
use mathlib.Core.Path.{◌≡◌}
use lib.ListN.{length}
use Rattle.cells.specs.Block.{ticks_of, played}
use Rattle.flat.specs.Code.{input_count, decode, code_tick}
use Rattle.cells.proofs.Playing.{Playing}
use Rattle.flat.proofs.play_keyed.Given as goal

abbrev pub invariant-loop-i : goal.invariant-loop-i
invariant-loop-i l =
    Playing (code_tick (decode l.code)) l.inputs l.controls (played (code_tick (decode l.code)) (ticks_of (input_count l.code) l.controls l.ticks l.inputs) l.initial.cells) l.n l.m (l.ticks - l.i) l.read l.written l.clips l.outputs l.cells
    × ((length l.registers ≡ 2080) × ((length l.outputs ≡ length l.initial.outputs) × ((length l.cells ≡ length l.initial.cells) × (l.clips ≤ l.i))))
