-- The path to a node: which test leads to it, where no two nodes have one number.
use Prim.Native.Nat.{ℕ}
use mathlib.Core.Path.{◌≡◌, refl}
use mathlib.Core.Bool.{Bool, true, false}
use mathlib.Core.Logic.{◌⊎◌, inl, inr}
use lib.Dec.{eqb, eqb→eq}
use Rattle.word.specs.Choice.{pick}
use Rattle.word.proofs.Lists.{same_number, other-number}
use Rattle.arity.specs.Tree.{Tree, Composition}
use Rattle.arity.specs.Tree.Tree.{leaf, join, ondemand}
use Rattle.arity.specs.Nodes.{Numbered, Distinct, has, subtree}

pub has-number : (t : Tree) (j : ℕ) → Numbered t j → has t j ≡ true
unfolding Numbered has
has-number (leaf i p) j e = rw e (same_number j)
has-number (join i c l r) j (inl e) = rw (e, same_number j)
has-number (join i c l r) j (inr (inl m)) = go (eqb i j) (has-number l j m)
  where
    go : (b : Bool) → has l j ≡ true → pick b true (pick (has l j) true (has r j)) ≡ true
    go true e = refl
    go false e = rw e
has-number (join i c l r) j (inr (inr m)) = go (eqb i j) (has l j) (has-number r j m)
  where
    go : (b d : Bool) → has r j ≡ true → pick b true (pick d true (has r j)) ≡ true
    go true d e = refl
    go false true e = refl
    go false false e = e
has-number (ondemand i b) j (inl e) = rw (e, same_number j)
has-number (ondemand i b) j (inr m) = go (eqb i j) (has-number b j m)
  where
    go : (d : Bool) → has b j ≡ true → pick d true (has b j) ≡ true
    go true e = refl
    go false e = e

pub number-has : (t : Tree) (j : ℕ) → has t j ≡ true → Numbered t j
unfolding Numbered has
number-has (leaf i p) j e = eqb→eq i j (rw e tt)
number-has (join i c l r) j e = go (eqb i j) refl (has l j) refl (number-has l j) (number-has r j) e
  where
    go : (b : Bool) → eqb i j ≡ b → (d : Bool) → has l j ≡ d → (has l j ≡ true → Numbered l j) → (has r j ≡ true → Numbered r j)
        → pick b true (pick d true (has r j)) ≡ true → (i ≡ j) ⊎ (Numbered l j ⊎ Numbered r j)
    go true p d q f g e = inl (eqb→eq i j (rw p tt))
    go false p true q f g e = inr (inl (f q))
    go false p false q f g e = inr (inr (g e))
number-has (ondemand i b) j e = go (eqb i j) refl (number-has b j) e
  where
    go : (d : Bool) → eqb i j ≡ d → (has b j ≡ true → Numbered b j) → pick d true (has b j) ≡ true → (i ≡ j) ⊎ Numbered b j
    go true p f e = inl (eqb→eq i j (rw p tt))
    go false p f e = inr (f e)

has-not : (t : Tree) (j : ℕ) → (Numbered t j → ⊥) → has t j ≡ false
has-not t j n = go (has t j) refl
  where
    go : (b : Bool) → has t j ≡ b → b ≡ false
    go true e = absurd (n (number-has t j e))
    go false e = refl

module _ (i j : ℕ) (c : Composition) (l r : Tree) (d : Distinct (join i c l r)) where
  pub left_not_root : Numbered l j → eqb i j ≡ false
  unfolding Distinct
  left_not_root m = other-number i j (λ e. d.2 (rw e at m))

  pub right_not_root : Numbered r j → eqb i j ≡ false
  unfolding Distinct
  right_not_root m = other-number i j (λ e. d.3 (rw e at m))

  pub right_not_left : Numbered r j → has l j ≡ false
  unfolding Distinct
  right_not_left m = has-not l j (λ k. d.4 j k m)

pub body_not_root : (i j : ℕ) (b : Tree) → Distinct (ondemand i b) → Numbered b j → eqb i j ≡ false
unfolding Distinct
body_not_root i j b d m = other-number i j (λ e. d.1 (rw e at m))

-- the nodes of a node's tree are nodes of the whole
pub subtree-numbers : (t : Tree) → Distinct t → (j : ℕ) → Numbered t j → (k : ℕ) → Numbered (subtree t j) k → Numbered t k
unfolding Numbered Distinct subtree
subtree-numbers (leaf i p) d j m k h = h
subtree-numbers (join i c l r) d j (inl m) k h = rw (← m, same_number i) at h
subtree-numbers (join i c l r) d j (inr (inl m)) k h = inr (inl (subtree-numbers l d.0 j m k (rw (left_not_root i j c l r d m, has-number l j m) at h)))
subtree-numbers (join i c l r) d j (inr (inr m)) k h = inr (inr (subtree-numbers r d.1 j m k (rw (right_not_root i j c l r d m, right_not_left i j c l r d m) at h)))
subtree-numbers (ondemand i b) d j (inl m) k h = rw (← m, same_number i) at h
subtree-numbers (ondemand i b) d j (inr m) k h = inr (subtree-numbers b d.0 j m k (rw (body_not_root i j b d m) at h))

pub subtree-distinct : (t : Tree) → Distinct t → (j : ℕ) → Numbered t j → Distinct (subtree t j)
unfolding Numbered Distinct subtree
subtree-distinct (leaf i p) d j m = d
subtree-distinct (join i c l r) d j (inl m) = rw (← m, same_number i) d
subtree-distinct (join i c l r) d j (inr (inl m)) = rw (left_not_root i j c l r d m, has-number l j m) (subtree-distinct l d.0 j m)
subtree-distinct (join i c l r) d j (inr (inr m)) = rw (right_not_root i j c l r d m, right_not_left i j c l r d m) (subtree-distinct r d.1 j m)
subtree-distinct (ondemand i b) d j (inl m) = rw (← m, same_number i) d
subtree-distinct (ondemand i b) d j (inr m) = rw (body_not_root i j b d m) (subtree-distinct b d.0 j m)
