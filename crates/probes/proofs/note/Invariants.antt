-- `probes::note` meets its contract.
use Prim.Native.Nat.{ℕ}
use mathlib.Core.List.{List}
use lib.ListN.{length}
use Rattle.probes.specs.Marks.{Probing, Marked}
use Rattle.probes.proofs.Noting.{Noting}
use Rattle.probes.proofs.note.Given as goal

abbrev pub invariant-loop-i : goal.invariant-loop-i
invariant-loop-i l = (xs : List ℕ) → Probing xs (length l.initial.latest) → Marked xs (length l.initial.latest) l.marks → Noting xs l.marks l.node l.at l.y l.initial.latest l.i l.latest
