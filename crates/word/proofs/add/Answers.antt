-- `word::add` meets its contract.
use Rattle.std.proofs.Common.{sym}
use Rattle.word.specs.Operation.{add}
use Rattle.word.specs.LowBits.Arithmetic.{sum}
use Rattle.word.proofs.Forms.{word_form}
use Rattle.word.proofs.add.Goals as goal

pub returns : goal.returns
unfolding add
returns c = sym (word_form sum _ _ c.ranges.a.fits c.ranges.b.fits)
