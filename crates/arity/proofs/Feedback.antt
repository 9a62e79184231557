-- Refusal 16: the check's test of a right side is that the published rules do not give it 0 → 0.
use Prim.Native.Nat.{ℕ, ◌+◌, ◌<◌}
use mathlib.Core.Path.{◌≡◌, refl, ◌∙◌, subst₂}
use mathlib.Core.Bool.{Bool, true, false, ◌&&◌, false≢true}
use native.Mathlib.Omega.{arith}
use native.Mathlib.Decide.{ℕ_discrete}
use lib.Dec.{eqb}
use borrow.Author.Tests.{eqb-true, ne_eqb, not-false}
use Rattle.arity.specs.Tree.{Tree, Primitive, ins, outs}
use Rattle.arity.specs.Tree.Tree.{leaf, join, ondemand}
use Rattle.arity.specs.Table.{composition_of}
use Rattle.arity.specs.Rules.{Arity}
use Rattle.arity.specs.Check.{feedback}
use Rattle.arity.specs.Formed.{FeedsBack}
use Rattle.arity.proofs.Exact.{ruled}
use Rattle.arity.proofs.Tests.{and_left, and_right}
use Rattle.arity.proofs.ByKind.{Two, is-recursion}

abbrev pub feedback_for : ℕ → Tree → Type 0
feedback_for k r = feedback k (ins r) (outs r) ≡ true

-- other kinds have no feedback
pub feedback-other : (k : ℕ) (r : Tree) → (k ≡ 11 → ⊥) → feedback_for k r
feedback-other k r n = rw (ne_eqb k 11 n)

-- a node that the test fails is a recursion, and its right side 0 → 0
pub empty_right : (k : ℕ) (r : Tree) {a b : ℕ} → Arity r a b → feedback k (ins r) (outs r) ≡ false → (k ≡ 11) × Arity r 0 0
empty_right k r w f =
    let empty = eqb (ins r) 0 && eqb (outs r) 0 in
    let e = not-false (eqb k 11 && empty) f in
    let d = and_right (eqb k 11) empty e in
    let (u, x, y) = ruled w in (
      eqb-true k 11 (and_left (eqb k 11) empty e),
      subst₂ (λ (m n : ℕ). Arity r m n)
          (x ∙ eqb-true _ _ (and_left (eqb (ins r) 0) (eqb (outs r) 0) d)) (y ∙ eqb-true _ _ (and_right (eqb (ins r) 0) (eqb (outs r) 0) d)) w,
    )

pub feedback_of_lem : (k : ℕ) (r : Tree) {a b : ℕ} → Arity r a b → (k ≡ 11 → Arity r 0 0 → ⊥) → feedback_for k r
feedback_of_lem k r w n = go (feedback k (ins r) (outs r)) refl
  where
    go : (x : Bool) → feedback k (ins r) (outs r) ≡ x → feedback_for k r
    go true e = e
    go false e = let (q, z) = empty_right k r w e in absurd (n q z)

-- a recursion that passes it feeds something back
pub some-feedback : (k : ℕ) (r : Tree) → k ≡ 11 → feedback_for k r → 0 < ins r + outs r
some-feedback k r e f = go (ℕ_discrete (ins r + outs r) 0)
  where
    go : Dec (ins r + outs r ≡ 0) → 0 < ins r + outs r
    go (yes z) = let x : ins r ≡ 0 = omega arith in let y : outs r ≡ 0 = omega arith in absurd (false≢true (rw (e, x, y) at f))
    go (no z) = omega arith

pub join_feeds : (i k : ℕ) (l r : Tree) → Two k → feedback_for k r → FeedsBack (join i (composition_of k) l r)
join_feeds i k l r w f j x y e z =
    let some = some-feedback k r (is-recursion w (cc e)) f in
    let same : r ≡ y = cc e in
    let (u, a, b) = ruled z in
    omega (arith, rw same at some)

-- a tree of another kind is no recursion
pub leaf_feeds : (i : ℕ) (p : Primitive) → FeedsBack (leaf i p)
leaf_feeds i p j x y e z = let w : ◌≡◌ {A = ℕ} 0 1 = cc e in omega arith

pub ondemand_feeds : (i : ℕ) (b : Tree) → FeedsBack (ondemand i b)
ondemand_feeds i b j x y e z = let w : ◌≡◌ {A = ℕ} 0 1 = cc e in omega arith
