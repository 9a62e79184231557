-- `beam::keep_list` meets its contract: what is still to be kept comes behind what is.
use Prim.Native.Nat.{◌+◌, ◌≤◌}
use mathlib.Core.Path.{◌≡◌}
use lib.ListN.{length, drop}
use Rattle.cells.specs.Cells.{store}
use Rattle.beam.proofs.keep_list.Given as goal

abbrev pub invariant-loop-i : goal.invariant-loop-i
invariant-loop-i l = (l.i ≤ length l.list) × (length l.cells ≡ length l.initial.cells) × (store (l.base + l.i) (drop l.i l.list) l.cells ≡ store l.base l.list l.initial.cells)
