-- `number::numerals::numeral_bytes` meets its contract.
use mathlib.Core.Path.{ap}
use lib.ListN.{length}
use native.Mathlib.Omega.{arith}
use Rattle.number.proofs.Put.{numeral-small, numeral_large}
use Rattle.number.proofs.numerals.numeral_bytes.Goals as goal

pub returns-then-word-lt2147483648 : goal.returns-then-word-lt2147483648
returns-then-word-lt2147483648 c = let e = ap length (numeral-small c.args.word (omega arith)) in omega arith

pub returns : goal.returns
returns c = let e = ap length (numeral_large c.args.word c.wrapping_neg.result (omega arith) (omega arith) (omega (arith, c.wrapping_neg.ensures))) in omega arith
