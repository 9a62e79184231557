-- `number::rows::put_row` meets its contract: column after column by the law of one, then the line feed.
use Rattle.std.proofs.Common.{◌≡◌, ◌*◌, length, get_or, set, ap, ◌∙◌, arith}
use Rattle.number.specs.Row.{line_feed}
use Rattle.number.proofs.Room.{word_room}
use Rattle.number.proofs.RowText.{filled_next, filled-all}
use Rattle.number.proofs.rows.put_row.Goals as goal

pub put_number-requires : goal.put_number-requires
put_number-requires c =
    let l = c.loop-j in
    let r = word_room (get_or c.args.numbers.now l.j 0) (c.type_inv.numbers l.j).fits in
    omega (arith, r, l.invariant.long)

pub loop-j-preserved : goal.loop-j-preserved
loop-j-preserved c =
    let l = c.loop-j in
    filled_next _ _ l.line _ l.j c.loop-j-test.true c.put_number.auto.line c.put_number.ensures l.invariant

pub returns : goal.returns
returns c =
    let l = c.loop-j in
    let e : length c.args.numbers.now ≡ l.j = omega (arith, l.auto.j-end, c.loop-j-test.false) in
    ap (λ k. set l.line (12 * k) line_feed) e ∙ filled-all _ _ l.line l.j c.requires c.loop-j-test.false l.invariant
