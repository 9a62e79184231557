-- A sum over the nodes of a tree whose numbers are those below n is the sum over these numbers.
use Prim.Native.Nat.{ℕ, zero, suc, ◌+◌, ◌≤◌, ◌<◌}
use mathlib.Core.Path.{◌≡◌, refl, sym, ap₂, ◌∙◌}
use mathlib.Core.Bool.{Bool, true, false, true≢false}
use mathlib.Core.Logic.{inl, inr}
use native.Mathlib.Omega.{arith}
use native.Mathlib.Decide.{ℕ_discrete}
use lib.Dec.{eqb}
use borrow.Author.Tests.{eq-eqb, ne_eqb}
use Rattle.word.specs.Choice.{pick}
use Rattle.arity.specs.Tree.{Tree, size, Composition}
use Rattle.arity.specs.Tree.Tree.{leaf, join, ondemand}
use Rattle.arity.specs.Nodes.{Numbered, Distinct, Complete, has, subtree, sum_to, cells_before}
use Rattle.arity.proofs.Paths.{has-number, number-has, left_not_root, right_not_root, right_not_left, body_not_root}
use Rattle.drawing.specs.Drawing.{total, count, cells_in}

sum_same : (f g : ℕ → ℕ) (n : ℕ) → ((j : ℕ) → j < n → f j ≡ g j) → sum_to f n ≡ sum_to g n
unfolding sum_to
sum_same f g zero h = refl
sum_same f g (suc n) h = ap₂ ◌+◌ (sum_same f g n (λ j b. h j (omega arith))) (h n (omega arith))

sum-plus : (f g : ℕ → ℕ) (n : ℕ) → sum_to (λ j. f j + g j) n ≡ sum_to f n + sum_to g n
unfolding sum_to
sum-plus f g zero = refl
sum-plus f g (suc n) = omega (arith, sum-plus f g n)

-- v at i, else 0
single : ℕ → ℕ → ℕ → ℕ
single i v j = pick (eqb i j) v 0

sum-zero : (i v n : ℕ) → n ≤ i → sum_to (single i v) n ≡ 0
unfolding sum_to single
sum-zero i v zero h = refl
sum-zero i v (suc n) h = let e : eqb i n ≡ false = ne_eqb i n (λ e. omega arith) in rw (e, sum-zero i v n (omega arith))

single-at : (i v j : ℕ) → i ≡ j → single i v j ≡ v
unfolding single
single-at i v j e = rw (eq-eqb i j e)

single_off : (i v j : ℕ) → (i ≡ j → ⊥) → single i v j ≡ 0
unfolding single
single_off i v j e = rw (ne_eqb i j e)

sum-single : (i v n : ℕ) → i < n → sum_to (single i v) n ≡ v
unfolding sum_to
sum-single i v zero h = absurd (omega arith)
sum-single i v (suc n) h = go (ℕ_discrete i n) (sum-single i v n)
  where
    go : Dec (i ≡ n) → (i < n → sum_to (single i v) n ≡ v) → sum_to (single i v) n + single i v n ≡ v
    go (yes e) ih = omega (arith, single-at i v n e, sum-zero i v n (omega arith))
    go (no e) ih = omega (arith, single_off i v n e, ih (omega arith))

module _ (f : Tree → ℕ) where
  -- what node j adds
  share : Tree → ℕ → ℕ
  share x j = pick (has x j) (f (subtree x j)) 0

  share_join : (i : ℕ) (c : Composition) (l r : Tree) → Distinct (join i c l r) → (j : ℕ)
      → share (join i c l r) j ≡ single i (f (join i c l r)) j + (share l j + share r j)
  unfolding share single has subtree Distinct
  share_join i c l r d j = go (eqb i j) refl (has l j) refl (has r j) refl
    where
      go : (a : Bool) → eqb i j ≡ a → (b : Bool) → has l j ≡ b → (e : Bool) → has r j ≡ e
          → pick (pick a true (pick b true e)) (f (pick a (join i c l r) (pick b (subtree l j) (subtree r j)))) 0
          ≡ pick a (f (join i c l r)) 0 + (pick b (f (subtree l j)) 0 + pick e (f (subtree r j)) 0)
      go true p true q e s = let z : ◌≡◌ {A = Bool} true false = sym p ∙ left_not_root i j c l r d (number-has l j q) in absurd (true≢false z)
      go true p false q true s = let z : ◌≡◌ {A = Bool} true false = sym p ∙ right_not_root i j c l r d (number-has r j s) in absurd (true≢false z)
      go true p false q false s = omega arith
      go false p true q true s = let z : ◌≡◌ {A = Bool} true false = sym q ∙ right_not_left i j c l r d (number-has r j s) in absurd (true≢false z)
      go false p true q false s = omega arith
      go false p false q true s = omega arith
      go false p false q false s = refl

  share_body : (i : ℕ) (b : Tree) → Distinct (ondemand i b) → (j : ℕ) → share (ondemand i b) j ≡ single i (f (ondemand i b)) j + share b j
  unfolding share single has subtree Distinct
  share_body i b d j = go (eqb i j) refl (has b j) refl
    where
      go : (a : Bool) → eqb i j ≡ a → (e : Bool) → has b j ≡ e
          → pick (pick a true e) (f (pick a (ondemand i b) (subtree b j))) 0 ≡ pick a (f (ondemand i b)) 0 + pick e (f (subtree b j)) 0
      go true p true q = let z : ◌≡◌ {A = Bool} true false = sym p ∙ body_not_root i j b d (number-has b j q) in absurd (true≢false z)
      go true p false q = omega arith
      go false p true q = omega arith
      go false p false q = refl

  sum_share : (x : Tree) → Distinct x → (n : ℕ) → ((j : ℕ) → Numbered x j → j < n) → sum_to (share x) n ≡ total f x
  unfolding total Numbered Distinct
  sum_share (leaf i p) d n h = sum_same (share (leaf i p)) (single i (f (leaf i p))) n (λ j k. share_leaf j) ∙ sum-single i (f (leaf i p)) n (h i refl)
    where
      share_leaf : (j : ℕ) → share (leaf i p) j ≡ single i (f (leaf i p)) j
      share_leaf j = unfold share single has subtree in refl
  sum_share (join i c l r) d n h =
      sum_same (share (join i c l r)) (λ j. single i (f (join i c l r)) j + (share l j + share r j)) n (λ j k. share_join i c l r d j)
      ∙ sum-plus (single i (f (join i c l r))) (λ j. share l j + share r j) n
      ∙ ap₂ ◌+◌ (sum-single i (f (join i c l r)) n (h i (inl refl)))
      (sum-plus (share l) (share r) n ∙ ap₂ ◌+◌ (sum_share l d.0 n (λ j m. h j (inr (inl m)))) (sum_share r d.1 n (λ j m. h j (inr (inr m)))))
  sum_share (ondemand i b) d n h =
      sum_same (share (ondemand i b)) (λ j. single i (f (ondemand i b)) j + share b j) n (λ j k. share_body i b d j)
      ∙ sum-plus (single i (f (ondemand i b))) (share b) n
      ∙ ap₂ ◌+◌ (sum-single i (f (ondemand i b)) n (h i (inl refl))) (sum_share b d.0 n (λ j m. h j (inr m)))

  pub sum-total : (n : ℕ) (x : Tree) → Complete n x → sum_to (λ j. f (subtree x j)) n ≡ total f x
  unfolding share
  sum-total n x c =
      sum_same (λ j. f (subtree x j)) (share x) n (λ j h. rw (has-number x j (c.every j h)))
      ∙ sum_share x c.distinct n c.only

-- the nodes and the cells of a complete tree
sum_ones : (n : ℕ) → sum_to (λ j. 1) n ≡ n
unfolding sum_to
sum_ones zero = refl
sum_ones (suc n) = omega (arith, sum_ones n)

pub complete-count : (n : ℕ) (x : Tree) → Complete n x → count x ≡ n
complete-count n x c = sym (sum-total (λ y. 1) n x c) ∙ sum_ones n

pub complete-cells : (n : ℕ) (x : Tree) → Complete n x → cells_before x n ≡ cells_in x
unfolding cells_before
complete-cells n x c = sum-total size n x c
