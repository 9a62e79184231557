-- `word::less` meets its contract.
use Rattle.word.proofs.Forms.{less_form}
use Rattle.word.proofs.less.Goals as goal

pub returns : goal.returns
returns c = rw (less_form _ _ c.ranges.a.fits c.ranges.b.fits) c.bit.ensures
