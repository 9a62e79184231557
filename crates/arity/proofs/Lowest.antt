-- What the lowest number is that a test holds for.
use Prim.Native.Nat.{ℕ, zero, suc, ◌+◌, ◌≤◌, ◌<◌}
use mathlib.Core.Path.{◌≡◌, refl}
use mathlib.Core.Bool.{Bool, true, false}
use mathlib.Core.List.{List}
use native.Mathlib.Omega.{arith}
use native.Mathlib.Decide.{dec_lt, ℕ_discrete}
use lib.ListN.{length, get_or}
use borrow.Author.Tests.{lt-ltb}
use Rattle.std.specs.Prelude.{Some, position}
use Rattle.std.specs.List.{position_or_len}
use Rattle.std.proofs.lemmas.List.Sums.{fails_before_first}
use Rattle.word.specs.Choice.{pick}
use Rattle.arity.specs.Lowest.{lowest}

module _ (test : ℕ → Bool) where
  -- the test holds for it, unless it is the one behind
  pub lowest-found : (n i : ℕ) → lowest test n i < i + n → test (lowest test n i) ≡ true
  unfolding lowest
  lowest-found zero i h = absurd (omega arith)
  lowest-found (suc n) i h = go (test i) refl (lowest-found n (suc i)) h
    where
      go : (b : Bool) → test i ≡ b → (lowest test n (suc i) < suc i + n → test (lowest test n (suc i)) ≡ true)
          → pick b i (lowest test n (suc i)) < i + suc n → test (pick b i (lowest test n (suc i))) ≡ true
      go true e ih h = e
      go false e ih h = ih (omega arith)

  -- and for none below
  pub lowest-least : (n i q : ℕ) → i ≤ q → q < lowest test n i → test q ≡ false
  unfolding lowest
  lowest-least zero i q a h = absurd (omega arith)
  lowest-least (suc n) i q a h = go (test i) refl (ℕ_discrete i q) (lowest-least n (suc i) q) h
    where
      go : (b : Bool) → test i ≡ b → Dec (i ≡ q) → (suc i ≤ q → q < lowest test n (suc i) → test q ≡ false) → q < pick b i (lowest test n (suc i)) → test q ≡ false
      go true e z ih h = absurd (omega arith)
      go false e (yes z) ih h = rw (← z) e
      go false e (no z) ih h = ih (omega arith) h

  -- nothing else is
  pub lowest-is : (n i p : ℕ) → i ≤ p → p ≤ i + n → ((q : ℕ) → i ≤ q → q < p → test q ≡ false) → (p < i + n → test p ≡ true) → lowest test n i ≡ p
  unfolding lowest
  lowest-is zero i p a b f g = omega arith
  lowest-is (suc n) i p a b f g = go (ℕ_discrete i p) (lowest-is n (suc i) p)
    where
      go : Dec (i ≡ p)
          → (suc i ≤ p → p ≤ suc i + n → ((q : ℕ) → suc i ≤ q → q < p → test q ≡ false) → (p < suc i + n → test p ≡ true) → lowest test n (suc i) ≡ p)
          → pick (test i) i (lowest test n (suc i)) ≡ p
      go (yes e) ih = rw (e, g (omega arith))
      go (no e) ih = rw (f i (omega arith) (omega arith)) (ih (omega arith) (omega arith) (λ q x y. f q (omega arith) y) (λ h. g (omega arith)))

-- where no element passes
pub position-none : (test : Bool → Bool) (xs : List Bool) → ((p : ℕ) → position test xs ≡ Some p → ⊥) → (k : ℕ) → k < length xs → test (get_or xs k false) ≡ false
position-none test xs e k h = go (dec_lt (position_or_len test xs) (length xs))
  where
    go : Dec (position_or_len test xs < length xs) → test (get_or xs k false) ≡ false
    go (yes l) = absurd (e (position_or_len test xs) (rw (lt-ltb (position_or_len test xs) (length xs) l)))
    go (no l) = fails_before_first test xs k false (omega arith)
