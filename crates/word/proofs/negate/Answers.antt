-- `word::negate` meets its contract.
use Rattle.std.proofs.Common.{arith}
use Rattle.word.proofs.Forms.{negate_form}
use Rattle.word.proofs.negate.Goals as goal

pub returns : goal.returns
returns c = rw (negate_form _ c.ranges.a.fits) (omega (arith, c.ranges.a.fits))
