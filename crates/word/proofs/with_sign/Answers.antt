-- `word::with_sign` meets its contract.
use Rattle.std.proofs.Common.{◌∙◌}
use Rattle.word.proofs.Forms.{negate_form}
use Rattle.word.proofs.with_sign.Goals as goal

pub returns-else-positive : goal.returns-else-positive
returns-else-positive c = rw c.if-positive.false (c.negate.ensures ∙ negate_form _ c.ranges.m.fits)
