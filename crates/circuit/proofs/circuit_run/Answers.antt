-- `circuit::circuit_run` meets its contract.
use Rattle.circuit.proofs.Reports.{few-answer, ran-few}
use Rattle.circuit.proofs.circuit_run.Goals as goal

pub worked-requires : goal.worked-requires
worked-requires c = rw c.in-Ok.is at (few-answer _ c.run.ensures (ran-few _ _ _ _ _ _))
