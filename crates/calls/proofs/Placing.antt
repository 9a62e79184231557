-- Where no two nodes have one number and each node's cells follow those of all lower ones, no two nodes share a cell.
use Prim.Native.Nat.{ℕ, ◌+◌, ◌≤◌, ◌<◌}
use mathlib.Core.Path.{◌≡◌, refl}
use mathlib.Core.Logic.{inl, inr, ◌≢◌}
use native.Mathlib.Omega.{arith}
use native.Mathlib.Decide.{dec_le}
use Rattle.cells.proofs.Parts.{Among}
use Rattle.arity.specs.Tree.{Tree, size}
use Rattle.arity.specs.Tree.Tree.{leaf, join, ondemand}
use Rattle.arity.specs.Nodes.{Apart, Numbered, Distinct, Complete, subtree, Sized, cells_before}
use Rattle.arity.proofs.Sizes.{cells_after_node, sized}
use Rattle.calls.proofs.Holds.{Owned, Placed}

module _ (base sizes : ℕ → ℕ) (after : (j k : ℕ) → j < k → base j + sizes j ≤ base k) where
  apart : (i j : ℕ) → i ≢ j → Apart (Among (base i) (sizes i)) (Among (base j) (sizes j))
  apart i j ne k p q = go (dec_le i j)
    where
      go : Dec (i ≤ j) → ⊥
      go (yes h) = omega (arith, after i j (omega arith))
      go (no h) = omega (arith, after j i (omega arith))

  owner : (t : Tree) → Sized sizes t → (k : ℕ) → Owned base t k → (j : ℕ) × Numbered t j × Among (base j) (sizes j) k
  unfolding Sized Owned Numbered
  owner (leaf i p) s k o = (i, refl, rw s at o)
  owner (join i c l r) s k (inl o) = (i, inl refl, rw s.0 at o)
  owner (join i c l r) s k (inr (inl o)) = let (j, m, q) = owner l s.1 k o in (j, inr (inl m), q)
  owner (join i c l r) s k (inr (inr o)) = let (j, m, q) = owner r s.2 k o in (j, inr (inr m), q)
  owner (ondemand i b) s k (inl o) = (i, inl refl, rw s.0 at o)
  owner (ondemand i b) s k (inr o) = let (j, m, q) = owner b s.1 k o in (j, inr m, q)

  own-apart : (i n : ℕ) (t : Tree) → n ≡ sizes i → Sized sizes t → (Numbered t i → ⊥) → Apart (Among (base i) n) (Owned base t)
  own-apart i n t e s ne k p o =
      let w = owner t s k o in
      apart i w.0 (λ g. ne (rw g w.1)) k (rw e at p) w.2

  trees_apart : (l r : Tree) → Sized sizes l → Sized sizes r → Apart (Numbered l) (Numbered r) → Apart (Owned base l) (Owned base r)
  trees_apart l r sl sr ne k o o' =
      let v = owner l sl k o in
      let w = owner r sr k o' in
      apart v.0 w.0 (λ g. ne w.0 (rw g at v.1) w.1) k v.2 w.2

  placed : (n : ℕ) (t : Tree) → Distinct t → Sized sizes t → ((j : ℕ) → Numbered t j → base j + sizes j ≤ n) → Placed base n t
  unfolding Distinct Sized Placed Numbered
  placed n (leaf i p) d s b = rw s (b i refl)
  placed n (join i c l r) d s b = (
    rw s.0 (b i (inl refl)),
    placed n l d.0 s.1 (λ j m. b j (inr (inl m))),
    placed n r d.1 s.2 (λ j m. b j (inr (inr m))),
    own-apart i _ l s.0 s.1 d.2,
    own-apart i _ r s.0 s.2 d.3,
    trees_apart l r s.1 s.2 d.4,
  )
  placed n (ondemand i b) d s h =
      (rw s.0 (h i (inl refl)), placed n b d.0 s.1 (λ j m. h j (inr m)), own-apart i _ b s.0 s.1 d.1)

pub all_placed : (n : ℕ) (t : Tree) → Complete n t → Placed (cells_before t) (cells_before t n) t
all_placed n t c =
    placed (cells_before t) (λ j. size (subtree t j)) (cells_after_node t) (cells_before t n) t c.distinct
    (sized (λ j. size (subtree t j)) t c.distinct (λ j m. refl)) (λ j m. cells_after_node t j n (c.only j m))
