-- `number::columns::put_digits` meets its contract: what is left to be put completes the digits.
use native.Mathlib.Omega.{arith}
use Rattle.number.proofs.Decimal.{decimal-some}
use Rattle.number.proofs.Put.{putting_next, putting_last}
use Rattle.number.proofs.columns.put_digits.Goals as goal

pub overflow_sub-at : goal.overflow_sub-at
overflow_sub-at c = omega (arith, decimal-some c.loop-rest.rest)

pub bounds-line-at : goal.bounds-line-at
bounds-line-at c = omega (arith, decimal-some c.loop-rest.rest)

pub loop-rest-preserved : goal.loop-rest-preserved
loop-rest-preserved c = putting_next _ _ _ _ _ _ c.loop-rest-test.true c.loop-rest.invariant

pub overflow_sub-at-2 : goal.overflow_sub-at-2
overflow_sub-at-2 c = omega (arith, decimal-some c.loop-rest.rest)

pub bounds-line-at-2 : goal.bounds-line-at-2
bounds-line-at-2 c = omega (arith, decimal-some c.loop-rest.rest)

pub returns : goal.returns
returns c = putting_last _ _ _ _ _ _ c.loop-rest-test.false c.loop-rest.invariant
