-- `word::absolute` meets its contract.
use Rattle.std.proofs.Common.{sym, ◌∙◌}
use Rattle.word.proofs.Forms.{absolute-small, absolute_large, negate_form}
use Rattle.word.proofs.absolute.Goals as goal

pub returns-then-a-lt-HALF : goal.returns-then-a-lt-HALF
returns-then-a-lt-HALF c = sym (absolute-small _ c.if-a-lt-HALF.true)

pub returns-else-a-lt-HALF : goal.returns-else-a-lt-HALF
returns-else-a-lt-HALF c =
    c.negate.ensures
    ∙ negate_form _ c.ranges.a.fits
    ∙ sym (absolute_large _ c.if-a-lt-HALF.false c.ranges.a.fits)
