-- `joining::join` meets its contract.
use Rattle.std.proofs.lemmas.Result.{err_from_is_err_and}
use Rattle.joining.proofs.Joining.{first-refused, second-refused, both_accepted}
use Rattle.joining.proofs.join.Goals as goal

pub returns-in_err-check : goal.returns-in_err-check
returns-in_err-check c =
    let p = err_from_is_err_and c.from_residual.result c.from_residual.ensures.1 in
    rw (p.1, p.2) (first-refused _ _ _ _ c.in_err-check.ensures)

pub returns-in_err-check-2 : goal.returns-in_err-check-2
returns-in_err-check-2 c =
    let p = err_from_is_err_and c.from_residual-in_err-check-2.result c.from_residual-in_err-check-2.ensures.1 in
    rw (p.1, p.2) (second-refused _ _ _ _ c.in_ok-check.ensures c.in_err-check-2.ensures)

pub returns : goal.returns
returns c = both_accepted _ _ _ _ c.in_ok-check.ensures c.in_ok-check-2.ensures c.join_circuits.ensures
