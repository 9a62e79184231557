-- `number::numerals::put_numeral` meets its contract: a column of the numeral's length, and a byte behind it.
use Rattle.number.proofs.Exact.{numeral-put}
use borrow.Author.Rules.{rules}
use Rattle.number.proofs.numerals.put_numeral.Goals as goal

pub returns : goal.returns
returns c = numeral-put c.args.word c.args.behind _ _ c.args.from _ (search rules) c.numeral_bytes-width.ensures c.requires c.put_number.ensures
