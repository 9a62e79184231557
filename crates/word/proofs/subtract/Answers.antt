-- `word::subtract` meets its contract.
use Rattle.std.proofs.Common.{sym}
use Rattle.word.specs.Operation.{subtract}
use Rattle.word.specs.LowBits.Arithmetic.{difference}
use Rattle.word.proofs.Forms.{word_form}
use Rattle.word.proofs.subtract.Goals as goal

pub returns : goal.returns
unfolding subtract
returns c = sym (word_form difference _ _ c.ranges.a.fits c.ranges.b.fits)
