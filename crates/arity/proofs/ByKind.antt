-- The kinds without children, those with two, and what the check's tests say of each.
use Prim.Native.Nat.{ℕ, ◌^◌, ◌≤◌, ◌<◌}
use mathlib.Core.Path.{◌≡◌, refl}
use mathlib.Core.Bool.{true}
use native.Mathlib.Omega.{arith}
use native.Mathlib.Decide.{ℕ_discrete}
use lib.Dec.{leb}
use borrow.Author.Tests.{leb-true, ltb-true, eqb-true, le-leb, eq-eqb, ne_eqb}
use Rattle.word.specs.Operation.{operands}
use Rattle.arity.specs.Tree.{Tree, ins, outs}
use Rattle.arity.specs.Tree.Composition.{recursion}
use Rattle.arity.specs.Table.{primitive_of, composition_of}
use Rattle.arity.specs.WellFormed.{Known, Fits}
use Rattle.arity.specs.Check.{first_in_range, rule}
use Rattle.arity.proofs.Tests.{and_left, and_right}
use Rattle.arity.proofs.Times.{times, multiples}

pub data Alone : ℕ → Type 0 where
  k1 : Alone 1
  k2 : Alone 2
  k3 : Alone 3
  k4 : Alone 4
  k5 : Alone 5
  k6 : Alone 6

pub data Two : ℕ → Type 0 where
  k7 : Two 7
  k8 : Two 8
  k9 : Two 9
  k10 : Two 10
  k11 : Two 11

pub alone_of : (k : ℕ) → 1 ≤ k → k ≤ 6 → Alone k
alone_of k a b = go (ℕ_discrete k 1) (ℕ_discrete k 2) (ℕ_discrete k 3) (ℕ_discrete k 4) (ℕ_discrete k 5)
  where
    go : Dec (k ≡ 1) → Dec (k ≡ 2) → Dec (k ≡ 3) → Dec (k ≡ 4) → Dec (k ≡ 5) → Alone k
    go (yes e) x y z w = rw e k1
    go (no e) (yes f) y z w = rw f k2
    go (no e) (no f) (yes g) z w = rw g k3
    go (no e) (no f) (no g) (yes h) w = rw h k4
    go (no e) (no f) (no g) (no h) (yes i) = rw i k5
    go (no e) (no f) (no g) (no h) (no i) = let w : k ≡ 6 = omega arith in rw w k6

pub two_of : (k : ℕ) → 7 ≤ k → k ≤ 11 → Two k
two_of k a b = go (ℕ_discrete k 7) (ℕ_discrete k 8) (ℕ_discrete k 9) (ℕ_discrete k 10)
  where
    go : Dec (k ≡ 7) → Dec (k ≡ 8) → Dec (k ≡ 9) → Dec (k ≡ 10) → Two k
    go (yes e) x y z = rw e k7
    go (no e) (yes f) y z = rw f k8
    go (no e) (no f) (yes g) z = rw g k9
    go (no e) (no f) (no g) (yes h) = rw h k10
    go (no e) (no f) (no g) (no h) = let w : k ≡ 11 = omega arith in rw w k11

pub is-recursion : {k : ℕ} → Two k → composition_of k ≡ recursion → k ≡ 11
is-recursion k7 e = cc e
is-recursion k8 e = cc e
is-recursion k9 e = cc e
is-recursion k10 e = cc e
is-recursion k11 e = refl

-- the check's rule of a composition is the published one
abbrev pub rule_for : ℕ → Tree → Tree → Type 0
rule_for k l r = rule k (ins l) (outs l) (ins r) (outs r) ≡ true

pub fits_of : (k : ℕ) (l r : Tree) → Two k → rule_for k l r → Fits (composition_of k) l r
fits_of k l r k7 e = eqb-true (outs l) (ins r) e
fits_of k l r k8 e = tt
fits_of k l r k9 e = times (outs l) (ins r) e
fits_of k l r k10 e = times (ins r) (outs l) e
fits_of k l r k11 e =
    (leb-true _ _ (and_left (leb (ins r) (outs l)) (leb (outs r) (ins l)) e), leb-true _ _ (and_right (leb (ins r) (outs l)) (leb (outs r) (ins l)) e))

pub rule_of_lem : (k : ℕ) (l r : Tree) → Two k → Fits (composition_of k) l r → rule_for k l r
rule_of_lem k l r k7 f = eq-eqb (outs l) (ins r) f
rule_of_lem k l r k8 f = refl
rule_of_lem k l r k9 f = multiples (outs l) (ins r) f
rule_of_lem k l r k10 f = multiples (ins r) (outs l) f
rule_of_lem k l r k11 f = rw (le-leb (ins r) (outs l) f.0, le-leb (outs r) (ins l) f.1)

-- other kinds have no rule
pub rule-other : (k : ℕ) (l r : Tree) → (7 ≤ k → k ≤ 11 → ⊥) → rule_for k l r
rule-other k l r n =
    rw (
      ne_eqb k 7 (λ e. n (omega arith) (omega arith)),
      ne_eqb k 9 (λ e. n (omega arith) (omega arith)),
      ne_eqb k 10 (λ e. n (omega arith) (omega arith)),
      ne_eqb k 11 (λ e. n (omega arith) (omega arith)),
    )

-- a field in range is known
pub known_of : (k a : ℕ) → Alone k → a < 2 ^ 32 → first_in_range k a ≡ true → Known (primitive_of k a)
known_of k a k1 w e = w
known_of k a k2 w e = omega (arith, leb-true a 15 e)
known_of k a k3 w e = ltb-true 0 (operands a) e
known_of k a k4 w e = leb-true a 4095 e
known_of k a k5 w e = tt
known_of k a k6 w e = tt
