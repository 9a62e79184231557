-- How many samples the beam of a split or a merge has.
use Prim.Native.Nat.{ℕ, zero, suc, ◌*◌, ◌/◌}
use mathlib.Core.Path.{◌≡◌, refl, sym, ap, ◌∙◌}
use mathlib.Core.List.{List}
use native.Mathlib.Nat.{zero-mul}
use native.Mathlib.Omega.{arith}
use lib.ListN.{length, length-append}
use Rattle.signal.specs.Signal.{copies, fill, sums_from}

pub length-copies : (k : ℕ) (xs : List ℕ) → length (copies k xs) ≡ k * length xs
length-copies zero xs = sym (zero-mul (length xs))
length-copies (suc k) xs = length-append xs (copies k xs) ∙ omega (arith, length-copies k xs)

-- a split fills its right side
pub length-fill : (n b : ℕ) (xs : List ℕ) → n / b * b ≡ n → length xs ≡ b → length (fill n b xs) ≡ n
length-fill n b xs w e = length-copies (n / b) xs ∙ rw e w

pub length-sums : (n k b i : ℕ) (xs : List ℕ) → length (sums_from n k b i xs) ≡ n
length-sums zero k b i xs = refl
length-sums (suc n) k b i xs = ap suc (length-sums n k b (suc i) xs)
