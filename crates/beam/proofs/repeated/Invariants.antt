-- `beam::repeated` meets its contract.
use mathlib.Core.Path.{◌≡◌}
use lib.ListN.{length, take}
use Rattle.beam.proofs.Copies.{Repeats}
use Rattle.beam.proofs.repeated.Given as goal

abbrev pub invariant-loop-i : goal.invariant-loop-i
invariant-loop-i l = (length l.r ≡ 32) × Repeats l.b (take l.b l.initial.r) l.r l.i
