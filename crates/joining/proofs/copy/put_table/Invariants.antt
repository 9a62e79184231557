-- The nodes before i stand in their places.
use Rattle.joining.proofs.Copying.{Going}
use Rattle.joining.proofs.copy.put_table.Given as goal

abbrev pub invariant-loop-i : goal.invariant-loop-i
invariant-loop-i l = Going l.table l.at l.n l.fn.out l.i l.out
