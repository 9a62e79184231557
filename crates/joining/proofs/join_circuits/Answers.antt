-- `joining::join_circuits` meets its contract.
use Rattle.std.proofs.lemmas.Result.{err_from_is_err_and}
use Rattle.joining.proofs.Joining.{too_many, refused-joined, short, done}
use Rattle.joining.proofs.join_circuits.Goals as goal

pub returns-then-total-gt-TABLE_NUMBERS : goal.returns-then-total-gt-TABLE_NUMBERS
returns-then-total-gt-TABLE_NUMBERS c = too_many _ _ _ c.requires.accepted c.requires.accepted_2 _ c.if-total-gt-TABLE_NUMBERS.true

pub returns-in_err-check : goal.returns-in_err-check
returns-in_err-check c =
    let p = err_from_is_err_and c.from_residual.result c.from_residual.ensures.1 in
    rw (p.1, p.2) (refused-joined _ _ _ c.requires.accepted c.requires.accepted_2 _ c.if-total-gt-TABLE_NUMBERS.false c.put_joined.ensures c.in_err-check.ensures)

pub returns-then-joined-total : goal.returns-then-joined-total
returns-then-joined-total c = short _ _ _ c.requires.accepted c.requires.accepted_2 _ c.if-total-gt-TABLE_NUMBERS.false c.put_joined.ensures c.in_ok-check.ensures c.if-joined-total.true

pub returns : goal.returns
returns c = done _ _ _ c.requires.accepted c.requires.accepted_2 _ c.if-total-gt-TABLE_NUMBERS.false c.put_joined.ensures c.in_ok-check.ensures c.if-joined-total.false c.put_joined-2.ensures
