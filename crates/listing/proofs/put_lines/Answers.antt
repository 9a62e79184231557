-- `listing::put_lines` meets its contract: the lines that are left complete those that are put.
use Rattle.std.proofs.Common.{◌≡◌, ◌+◌, ◌-◌, ◌*◌, arith}
use Rattle.word.proofs.Each.{words_of}
use Rattle.listing.proofs.Laying.{laying_room, laying_next}
use Rattle.listing.proofs.put_lines.Goals as goal

-- the next line lies within the numbers and the text
pub slice_bounds-put_line-end : goal.slice_bounds-put_line-end
slice_bounds-put_line-end c =
    let a = c.args in
    let l = c.loop-line in
    omega (arith, (laying_room _ a.width a.count _ a.from _ (words_of a.numbers.now (λ k. (c.type_inv.numbers k).fits)) l.line l.at c.loop-line-test.true l.invariant c.requires.room).0)

pub put_line-at-requires : goal.put_line-at-requires
put_line-at-requires c =
    let a = c.args in
    let l = c.loop-line in
    let n : a.width * l.line + a.width - a.width * l.line ≡ a.width = omega arith in
    rw n (laying_room _ a.width a.count _ a.from _ (words_of a.numbers.now (λ k. (c.type_inv.numbers k).fits)) l.line l.at c.loop-line-test.true l.invariant c.requires.room).1

pub loop-line-preserved : goal.loop-line-preserved
loop-line-preserved c =
    let a = c.args in
    let l = c.loop-line in
    let n : a.width * l.line + a.width - a.width * l.line ≡ a.width = omega arith in
    laying_next _ a.width a.count _ a.from _ (words_of a.numbers.now (λ k. (c.type_inv.numbers k).fits)) l.line l.at c.loop-line-test.true l.invariant _ _ (rw n at c.put_line-at.ensures)
