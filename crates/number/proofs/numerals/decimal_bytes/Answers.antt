-- `number::numerals::decimal_bytes` meets its contract: the digits that are counted and those that are left are all.
use mathlib.Core.Path.{◌≡◌, ap}
use native.Mathlib.Omega.{arith}
use lib.ListN.{length}
use Rattle.number.specs.Number.{decimal}
use Rattle.number.proofs.Decimal.{decimal-small, decimal-some, decimal-length}
use Rattle.number.proofs.Put.{decimal_longer}
use Rattle.number.proofs.numerals.decimal_bytes.Goals as goal

pub overflow_add-count : goal.overflow_add-count
overflow_add-count c = omega (arith, decimal-length c.args.n 10 (omega arith) (omega arith), decimal-some c.loop-rest.rest)

pub loop-rest-preserved : goal.loop-rest-preserved
loop-rest-preserved c = let l = decimal_longer c.loop-rest.rest c.loop-rest-test.true in omega arith

pub returns : goal.returns
returns c =
    let l : length (decimal c.loop-rest.rest) ≡ 1 = ap length (decimal-small c.loop-rest.rest (omega arith)) in
    (omega arith, omega (arith, decimal-length c.args.n 10 (omega arith) (omega arith)))
