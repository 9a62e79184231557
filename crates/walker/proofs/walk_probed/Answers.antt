-- `walker::walk_probed` meets its contract.
use mathlib.Core.Path.{refl, ◌∙◌}
use Rattle.std.proofs.lemmas.Result.{err_from_is_err_and}
use Rattle.walker.proofs.Tables.{ready, has_survey, probed_by_lem}
use Rattle.walker.proofs.walk_probed.Goals as goal

pub returns-in_err-counts : goal.returns-in_err-counts
returns-in_err-counts c =
    let p = err_from_is_err_and c.from_residual.result c.from_residual.ensures.1 in
    rw (p.1, p.2) (probed_by_lem _ _ _ _ _ _ _ _ _ c.in_err-counts.ensures.answer)

pub new-circuit-requires : goal.new-circuit-requires
new-circuit-requires c = ready _ c.in_ok-counts.ensures.answer (λ k. (c.type_inv.table k).fits) _ refl c.in_ok-counts.ensures.rows

pub walk_circuit-requires : goal.walk_circuit-requires
walk_circuit-requires c = rw c.new-circuit.ensures (has_survey _ c.in_ok-counts.ensures.answer (λ k. (c.type_inv.table k).fits))

pub returns : goal.returns
returns c =
    let walked = rw c.new-circuit.ensures at c.walk_circuit.ensures in
    walked ∙ probed_by_lem _ _ _ _ _ _ _ _ _ c.in_ok-counts.ensures.answer
