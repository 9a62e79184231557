-- Which clocks are demands, and the demand of a product of clocks: where both are demands.
use Rattle.std.proofs.Common.{◌≡◌, ℕ, zero, suc, ◌*◌, true, false, refl, add-suc, suc-mul, mul-zero, zero-mul}
use lib.Dec.{eqb-suc-zero}
use Rattle.word.specs.Choice.{◌and◌}
use Rattle.word.specs.Operation.{demand}

-- E1: "A clock is any number but zero."
none_at_zero : demand 0 ≡ false
unfolding demand
none_at_zero = refl

any_other : (clock : ℕ) → demand (suc clock) ≡ true
unfolding demand
any_other clock = rw eqb-suc-zero

-- a product of natural numbers does not wrap, so it is 0 only where a factor is
pub demand-product : (a b : ℕ) → demand (a * b) ≡ demand a and demand b
demand-product zero b = rw (zero-mul, none_at_zero)
demand-product (suc a) zero = rw (mul-zero, none_at_zero, any_other)
demand-product (suc a) (suc b) = simp (suc-mul, add-suc, any_other)
