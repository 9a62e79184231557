-- The exceptions that the document's table of operations names.
use Rattle.std.proofs.Common.{◌≡◌, ℕ, suc, ◌-◌, ◌^◌, ℤ, pos, negsuc, refl}
use native.Mathlib.Nat.{mod-one}
use lib.Signed.{rem_z}
use Rattle.word.specs.Word.{value, low}
use Rattle.word.specs.Operation.{quotient, remainder, absolute, negate}

-- -2147483648 and -1
abbrev pub least : ℕ
least = 2 ^ 31

abbrev pub minus_one : ℕ
minus_one = 2 ^ 32 - 1

pub quotient_by_zero : (a : ℕ) → quotient a 0 ≡ 0
unfolding quotient
quotient_by_zero a = refl

pub quotient_of_least : quotient least minus_one ≡ least
unfolding quotient value low
quotient_of_least = refl

pub remainder_by_zero : (a : ℕ) → remainder a 0 ≡ 0
unfolding remainder
remainder_by_zero a = refl

none_left : (z : ℤ) → low (rem_z z (negsuc 0)) ≡ 0
unfolding low
none_left (pos n) = rw (mod-one n)
none_left (negsuc n) = rw (mod-one (suc n))

pub remainder_by_minus_one : (a : ℕ) → remainder a minus_one ≡ 0
unfolding remainder value low
remainder_by_minus_one a = none_left (value a)

pub absolute_of_least : absolute least ≡ least
unfolding absolute value low
absolute_of_least = refl

pub negate_of_least : negate least ≡ least
unfolding negate value low
negate_of_least = refl
