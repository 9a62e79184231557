-- `word::quotient` meets its contract.
use Rattle.std.proofs.Common.{eq-eqb, ne_eqb}
use Rattle.word.proofs.Forms.{quotient_form, absolute-some}
use Rattle.word.proofs.quotient.Goals as goal

pub returns-then-b-eq0 : goal.returns-then-b-eq0
returns-then-b-eq0 c =
    rw (quotient_form _ _ c.ranges.a.fits c.ranges.b.fits, eq-eqb _ _ c.if-b-eq0.true)

pub nonzero_div-absolute : goal.nonzero_div-absolute
nonzero_div-absolute c =
    rw c.absolute-2.ensures
    (absolute-some _ c.ranges.b.fits c.if-b-eq0.false)

pub returns : goal.returns
returns c =
    rw (quotient_form _ _ c.ranges.a.fits c.ranges.b.fits, ne_eqb _ _ c.if-b-eq0.false, ← c.absolute.ensures, ← c.absolute-2.ensures)
    c.with_sign.ensures
