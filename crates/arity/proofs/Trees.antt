-- Which tree a node of a table is, where children are lower.
use Prim.Native.Nat.{ℕ, zero, suc, ◌≤◌, ◌<◌}
use mathlib.Core.Path.{◌≡◌, refl, ap, ap₂}
use mathlib.Core.Bool.{Bool, true, false}
use mathlib.Core.List.{List}
use native.Mathlib.Omega.{arith}
use native.Mathlib.Decide.{dec_le}
use borrow.Author.Tests.{leb-true, leb-false, le-leb, lt-leb}
use Rattle.word.specs.Choice.{pick}
use Rattle.arity.specs.Tree.{Tree, Primitive, Composition}
use Rattle.arity.specs.Tree.Tree.{leaf, join, ondemand}
use Rattle.arity.specs.Table.{kind_at, first_at, second_at, tree, tree_at, primitive_of, composition_of}
use Rattle.arity.specs.Formed.{Children}

-- strong induction
pub strong : (P : ℕ → Type 0) → ((i : ℕ) → ((j : ℕ) → j < i → P j) → P i) → (i : ℕ) → P i
strong P f i = f i (below i)
  where
    below : (n j : ℕ) → j < n → P j
    below zero j h = absurd (omega arith)
    below (suc n) j h = f j (λ k g. below n k (omega arith))

-- two trees made alike of equal parts
same_parts : (b b' : Bool) (i : ℕ) (p : Primitive) (c : Composition) (l l' r r' : Tree) → (b ≡ false → l ≡ l') → (b ≡ false → b' ≡ true → r ≡ r')
    → ◌≡◌ {A = Tree} (pick b (leaf i p) (pick b' (join i c l r) (ondemand i l))) (pick b (leaf i p) (pick b' (join i c l' r') (ondemand i l')))
same_parts true b' i p c l l' r r' f g = refl
same_parts false true i p c l l' r r' f g = rw (f refl, g refl refl)
same_parts false false i p c l l' r r' f g = rw (f refl)

-- what node i is
pub data View (t : List ℕ) (i : ℕ) : Type 0 where
  alone : kind_at t i ≤ 6 → tree t i ≡ leaf i (primitive_of (kind_at t i) (first_at t i)) → View t i
  two : 7 ≤ kind_at t i → kind_at t i ≤ 11 → tree t i ≡ join i (composition_of (kind_at t i)) (tree t (first_at t i)) (tree t (second_at t i)) → View t i
  one : 12 ≤ kind_at t i → tree t i ≡ ondemand i (tree t (first_at t i)) → View t i

module _ {t : List ℕ} {i : ℕ} where
  pub as_leaf : View t i → kind_at t i ≤ 6 → tree t i ≡ leaf i (primitive_of (kind_at t i) (first_at t i))
  as_leaf (alone k e) l = e
  as_leaf (two k m e) l = absurd (omega arith)
  as_leaf (one k e) l = absurd (omega arith)

  pub as_join : View t i → 7 ≤ kind_at t i → kind_at t i ≤ 11 → tree t i ≡ join i (composition_of (kind_at t i)) (tree t (first_at t i)) (tree t (second_at t i))
  as_join (alone k e) l m = absurd (omega arith)
  as_join (two k z e) l m = e
  as_join (one k e) l m = absurd (omega arith)

  pub as_ondemand : View t i → 12 ≤ kind_at t i → tree t i ≡ ondemand i (tree t (first_at t i))
  as_ondemand (alone k e) l = absurd (omega arith)
  as_ondemand (two k m e) l = absurd (omega arith)
  as_ondemand (one k e) l = e

module _ (t : List ℕ) (n : ℕ) (children : (i : ℕ) → i < n → Children t i) where
  -- any fuel above the node will do
  fuel : (f g i : ℕ) → i < n → i < f → i < g → tree_at f t i ≡ tree_at g t i
  unfolding tree_at
  fuel zero g i h p q = absurd (omega arith)
  fuel (suc f) zero i h p q = absurd (omega arith)
  fuel (suc f) (suc g) i h p q =
      same_parts _ _ i _ _ _ _ _ _
      (λ e. let w = ((children i h).first (leb-false _ _ e)).lower in fuel f g (first_at t i) (omega arith) (omega arith) (omega arith))
      (λ e e'. let w = ((children i h).second (leb-false _ _ e) (leb-true _ _ e')).lower in fuel f g (second_at t i) (omega arith) (omega arith) (omega arith))

  pub view : (i : ℕ) → i < n → View t i
  unfolding tree tree_at
  view i h = go (dec_le (kind_at t i) 6) (dec_le (kind_at t i) 11)
    where
      go : Dec (kind_at t i ≤ 6) → Dec (kind_at t i ≤ 11) → View t i
      go (yes a) b = alone a (rw (le-leb _ _ a))
      go (no a) (yes b) =
          let u = ((children i h).first (omega arith)).lower in
          let v = ((children i h).second (omega arith) b).lower in
          two (omega arith) b
          (rw (lt-leb (kind_at t i) 6 (omega arith), le-leb (kind_at t i) 11 b)
          (ap₂ (join i (composition_of (kind_at t i))) (fuel i (suc (first_at t i)) _ (omega arith) u (omega arith)) (fuel i (suc (second_at t i)) _ (omega arith) v (omega arith))))
      go (no a) (no b) =
          let u = ((children i h).first (omega arith)).lower in
          one (omega arith)
          (rw (lt-leb (kind_at t i) 6 (omega arith), lt-leb (kind_at t i) 11 (omega arith))
          (ap (ondemand i) (fuel i (suc (first_at t i)) _ (omega arith) u (omega arith))))
