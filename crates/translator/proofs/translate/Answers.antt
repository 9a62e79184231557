-- `translator::translate` meets its contract.
use Rattle.std.proofs.lemmas.Result.{err_from_is_err_and}
use Rattle.translator.proofs.Tables.{ready, counted, translated_by_lem}
use mathlib.Core.Path.{refl, ◌∙◌}
use Rattle.translator.proofs.translate.Goals as goal

pub new-requires : goal.new-requires
new-requires c = ready _ _ c.in_ok-counts.ensures.answer (λ k. (c.type_inv.table k).fits) _ refl c.in_ok-counts.ensures.rows

pub translate_circuit-requires : goal.translate_circuit-requires
translate_circuit-requires c = rw c.new.ensures (counted _ _ c.in_ok-counts.ensures.answer (λ k. (c.type_inv.table k).fits))

pub returns-in_err-counts : goal.returns-in_err-counts
returns-in_err-counts c =
    let p = err_from_is_err_and c.from_residual.result c.from_residual.ensures.1 in
    rw (p.1, p.2) (translated_by_lem _ _ c.in_err-counts.ensures.answer)

pub returns : goal.returns
returns c = rw c.new.ensures at c.translate_circuit.ensures ∙ translated_by_lem _ _ c.in_ok-counts.ensures.answer
