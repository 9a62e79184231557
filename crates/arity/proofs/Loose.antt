-- The first loose node.
use Prim.Native.Nat.{ℕ, suc, ◌≤◌, ◌<◌}
use mathlib.Core.Path.{◌≡◌, sym, ◌∙◌}
use mathlib.Core.Bool.{true, false, false≢true}
use mathlib.Core.List.{List}
use native.Mathlib.Omega.{arith}
use native.Mathlib.Decide.{dec_lt}
use lib.Dec.{ltb}
use borrow.Author.Tests.{ltb-true}
use Rattle.arity.specs.Table.{nodes}
use Rattle.arity.specs.Check.{loose, first_loose}
use Rattle.arity.specs.Loose.{FirstLoose}
use Rattle.arity.proofs.Tests.{and_left, known-false}
use Rattle.arity.proofs.Lowest.{lowest-found, lowest-least, lowest-is}

module _ (t : List ℕ) where
  inside : (q : ℕ) → loose t q ≡ true → suc q < nodes t
  inside q h = ltb-true (suc q) (nodes t) (and_left (ltb (suc q) (nodes t)) _ h)

  pub not_lower : (q : ℕ) → q < first_loose t → loose t q ≡ false
  not_lower q h = lowest-least (loose t) (nodes t) 0 q (omega arith) h

  pub one-loose : first_loose t < nodes t → loose t (first_loose t) ≡ true
  one-loose h = lowest-found (loose t) (nodes t) 0 (omega arith)

  first_is_loose : (q : ℕ) → loose t q ≡ true → loose t (first_loose t) ≡ true
  first_is_loose q h = go (dec_lt q (first_loose t))
    where
      go : Dec (q < first_loose t) → loose t (first_loose t) ≡ true
      go (yes l) = absurd (false≢true (sym (not_lower q l) ∙ h))
      go (no l) = one-loose (omega (arith, inside q h))

  pub first-loose : FirstLoose t
  first-loose = record { is_loose = first_is_loose; no_lower = λ q h. not_lower q (omega arith) }

  -- where there is none
  pub none-loose : ((q : ℕ) → loose t q ≡ false) → first_loose t ≡ nodes t
  none-loose f = lowest-is (loose t) (nodes t) 0 (nodes t) (omega arith) (omega arith) (λ q a b. f q) (λ l. absurd (omega arith))

  pub tight : nodes t ≤ first_loose t → (q : ℕ) → loose t q ≡ false
  tight e q = known-false (loose t q) (λ h. false≢true (sym (not_lower q (omega (arith, inside q h))) ∙ h))
