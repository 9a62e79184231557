-- `circuit::circuit_walk` meets its contract.
use Rattle.circuit.proofs.Reports.{few-answer, walked-few}
use Rattle.circuit.proofs.circuit_walk.Goals as goal

pub reported-requires : goal.reported-requires
reported-requires c = few-answer _ c.walk.ensures (walked-few _ _ _ _ _ _)
