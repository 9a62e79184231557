-- `number::reading::read_number` meets its contract: spaces, a minus or none, and a natural number.
use Rattle.std.proofs.Common.{◌+◌, ◌∙◌, arith}
use Rattle.number.proofs.Scan.{rest_lent}
use Rattle.number.proofs.Found.{only_spaces, no_minus, minus-other, minus-zero, minus_number}
use Rattle.number.proofs.reading.read_number.Goals as goal

pub returns-in_err-from : goal.returns-in_err-from
returns-in_err-from c = c.from_residual.ensures ∙ only_spaces _ c.in_err-from.ensures

pub returns-then-column-from-ne45 : goal.returns-then-column-from-ne45
returns-then-column-from-ne45 c =
    let t = c.args.column.now in
    let at = c.in_ok-from in
    (rw (rest_lent t at.from) at c.natural.ensures) ∙ no_minus t at.from at.ensures.1 at.ensures.0 c.if-column-from-ne45.true

pub returns-in_err-size : goal.returns-in_err-size
returns-in_err-size c =
    let t = c.args.column.now in
    let at = c.in_ok-from in
    c.from_residual-in_err-size.ensures
    ∙ minus-other t at.from at.ensures.1 at.ensures.0 c.if-column-from-ne45.false (rw (rest_lent t (at.from + 1)) at c.in_err-size.ensures)

pub returns-then-size-eq0 : goal.returns-then-size-eq0
returns-then-size-eq0 c =
    let t = c.args.column.now in
    let at = c.in_ok-from in
    minus-zero t at.from at.ensures.1 at.ensures.0 c.if-column-from-ne45.false (rw (rest_lent t (at.from + 1), c.if-size-eq0.true) at c.in_ok-size.ensures)

pub returns : goal.returns
returns c =
    let t = c.args.column.now in
    let at = c.in_ok-from in
    minus_number t at.from at.ensures.1 at.ensures.0 c.if-column-from-ne45.false c.in_ok-size.size c.wrapping_neg.result
    (rw (rest_lent t (at.from + 1)) at c.in_ok-size.ensures) (omega arith) c.if-size-eq0.false c.wrapping_neg.ensures (omega arith)
