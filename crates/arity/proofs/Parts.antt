-- The tree of a node is a part of the tree of each node above it: found by its number, and no larger.
use Prim.Native.Nat.{ℕ, ◌+◌, ◌≤◌, ◌<◌}
use mathlib.Core.Path.{◌≡◌, refl, sym, ap, ◌∙◌}
use mathlib.Core.Logic.{◌⊎◌, inl, inr}
use mathlib.Core.List.{List}
use native.Mathlib.Omega.{arith}
use Rattle.word.proofs.Lists.{same_number}
use Rattle.arity.specs.Tree.{Tree, Composition, need}
use Rattle.arity.specs.Tree.Tree.{leaf, join, ondemand}
use Rattle.arity.specs.Tree.Composition.{sequence, parallel, split, merge, recursion}
use Rattle.arity.specs.Table.{first_at, second_at, tree}
use Rattle.arity.specs.Nodes.{Numbered, Distinct, subtree}
use Rattle.arity.specs.Formed.{Child, Children}
use Rattle.arity.proofs.Paths.{has-number, left_not_root, right_not_root, right_not_left, body_not_root}
use Rattle.arity.proofs.Trees.{View, view}
use Rattle.arity.proofs.Trees.View.{alone, two, one}
use Rattle.arity.proofs.Once.{nodewise, distinct}

-- a part of a tree needs no more instructions
join-need : (i : ℕ) (c : Composition) (l r : Tree) → need l + need r ≤ need (join i c l r)
unfolding need
join-need i sequence l r = omega arith
join-need i parallel l r = omega arith
join-need i split l r = omega arith
join-need i merge l r = omega arith
join-need i recursion l r = omega arith

body-need : (i : ℕ) (b : Tree) → need b ≤ need (ondemand i b)
unfolding need
body-need i b = omega arith

pub part-need : (x : Tree) → Distinct x → (j : ℕ) → Numbered x j → need (subtree x j) ≤ need x
unfolding Numbered Distinct subtree
part-need (leaf i p) d j m = omega arith
part-need (join i c l r) d j (inl m) = rw (← m, same_number i) (omega arith)
part-need (join i c l r) d j (inr (inl m)) =
    rw (left_not_root i j c l r d m, has-number l j m) (omega (arith, part-need l d.0 j m, join-need i c l r))
part-need (join i c l r) d j (inr (inr m)) =
    rw (right_not_root i j c l r d m, right_not_left i j c l r d m) (omega (arith, part-need r d.1 j m, join-need i c l r))
part-need (ondemand i b) d j (inl m) = rw (← m, same_number i) (omega arith)
part-need (ondemand i b) d j (inr m) = rw (body_not_root i j b d m) (omega (arith, part-need b d.0 j m, body-need i b))

-- the tree of node j, wherever it is found
module _ (t : List ℕ) (n : ℕ) (children : (i : ℕ) → i < n → Children t i) where
  pub part : (i : ℕ) → i < n → (j : ℕ) → Numbered (tree t i) j → subtree (tree t i) j ≡ tree t j
  unfolding Numbered Distinct subtree
  part = nodewise t n children (λ i. (j : ℕ) → Numbered (tree t i) j → subtree (tree t i) j ≡ tree t j) (λ i h kid j m. step i j kid (distinct t n children i h) m (view t n children i h))
    where
      in_join : (i j : ℕ) (c : Composition) (l r : Tree) → tree t i ≡ join i c l r → Distinct (join i c l r)
          → (Numbered l j → subtree l j ≡ tree t j) → (Numbered r j → subtree r j ≡ tree t j)
          → (i ≡ j) ⊎ (Numbered l j ⊎ Numbered r j) → subtree (join i c l r) j ≡ tree t j
      in_join i j c l r e d f g (inl k) = rw (← k, same_number i) (sym e)
      in_join i j c l r e d f g (inr (inl k)) = rw (left_not_root i j c l r d k, has-number l j k) (f k)
      in_join i j c l r e d f g (inr (inr k)) = rw (right_not_root i j c l r d k, right_not_left i j c l r d k) (g k)

      in_body : (i j : ℕ) (b : Tree) → tree t i ≡ ondemand i b → Distinct (ondemand i b) → (Numbered b j → subtree b j ≡ tree t j)
          → (i ≡ j) ⊎ Numbered b j → subtree (ondemand i b) j ≡ tree t j
      in_body i j b e d f (inl k) = rw (← k, same_number i) (sym e)
      in_body i j b e d f (inr k) = rw (body_not_root i j b d k) (f k)

      step : (i j : ℕ) → ((c : ℕ) → Child t i c → (j : ℕ) → Numbered (tree t c) j → subtree (tree t c) j ≡ tree t j)
          → Distinct (tree t i) → Numbered (tree t i) j → View t i → subtree (tree t i) j ≡ tree t j
      step i j kid own m (alone a e) = let k : i ≡ j = rw e at m in ap (λ (x : Tree). subtree x j) e ∙ sym e ∙ ap (tree t) k
      step i j kid own m (two a b e) =
          ap (λ (x : Tree). subtree x j) e
          ∙ in_join i j _ (tree t (first_at t i)) (tree t (second_at t i)) e (rw e at own) (kid _ (inl (a, refl)) j) (kid _ (inr (a, b, refl)) j) (rw e at m)
      step i j kid own m (one a e) =
          ap (λ (x : Tree). subtree x j) e ∙ in_body i j (tree t (first_at t i)) e (rw e at own) (kid _ (inl (omega arith, refl)) j) (rw e at m)
