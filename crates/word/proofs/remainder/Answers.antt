-- `word::remainder` meets its contract.
use Rattle.std.proofs.Common.{eq-eqb, ne_eqb}
use Rattle.word.proofs.Forms.{remainder_form, absolute-some}
use Rattle.word.proofs.remainder.Goals as goal

pub returns-then-b-eq0 : goal.returns-then-b-eq0
returns-then-b-eq0 c =
    rw (remainder_form _ _ c.ranges.a.fits c.ranges.b.fits, eq-eqb _ _ c.if-b-eq0.true)

pub nonzero_rem-absolute : goal.nonzero_rem-absolute
nonzero_rem-absolute c =
    rw c.absolute-2.ensures
    (absolute-some _ c.ranges.b.fits c.if-b-eq0.false)

pub returns : goal.returns
returns c =
    rw (remainder_form _ _ c.ranges.a.fits c.ranges.b.fits, ne_eqb _ _ c.if-b-eq0.false, ← c.absolute.ensures, ← c.absolute-2.ensures)
    c.with_sign.ensures
