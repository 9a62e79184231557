-- `probes::mark` meets its contract.
use Rattle.probes.proofs.Marking.{Marking}
use Rattle.probes.proofs.mark.Given as goal

abbrev pub invariant-loop-k : goal.invariant-loop-k
invariant-loop-k l = Marking l.probes l.k l.marks
