-- `circuit::circuit_walk_probed` meets its contract.
use mathlib.Core.Path.{ap}
use Rattle.calls.specs.Probed.{Probed}
use Rattle.circuit.proofs.Reports.{few-answer, probed-few}
use Rattle.circuit.proofs.circuit_walk_probed.Goals as goal

pub reported-requires : goal.reported-requires
reported-requires c = few-answer _ (ap (λ (y : Probed). y.ran) c.walk_probed.ensures) (probed-few _ _ _ _ _ _ _ _ _)
