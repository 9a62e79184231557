-- `cells::outside` meets its contract.
use mathlib.Core.Path.{sym}
use Rattle.word.proofs.Forms.{clipped_form}
use Rattle.cells.proofs.outside.Goals as goal

pub returns : goal.returns
returns c = rw c.index.ensures (sym (clipped_form _ _ c.requires))
