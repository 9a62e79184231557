-- What the cells hold between ticks, and where the nodes' cells stand.
use Prim.Native.Nat.{ℕ, ◌+◌, ◌≤◌}
use mathlib.Core.Path.{◌≡◌, ◌∙◌}
use mathlib.Core.Logic.{◌⊎◌, inl, inr}
use mathlib.Core.List.{List}
use lib.ListN.{get_or}
use Rattle.cells.specs.Cells.{part}
use Rattle.cells.proofs.Parts.{Among, part_agree}
use Rattle.arity.specs.Tree.{Tree, size}
use Rattle.arity.specs.Tree.Tree.{leaf, join, ondemand}
use Rattle.arity.specs.Nodes.{Apart}
use Rattle.signal.specs.Signal.{History, demands}
use Rattle.signal.specs.History.{left_history, right_history}
use Rattle.signal.specs.Contents.{contents}

-- k is a cell of a node of the tree
unfoldable pub Owned : (ℕ → ℕ) → Tree → ℕ → Type 0
Owned base (leaf i p) k = Among (base i) (size (leaf i p)) k
Owned base (join i c l r) k = Among (base i) (size (join i c l r)) k ⊎ (Owned base l k ⊎ Owned base r k)
Owned base (ondemand i b) k = Among (base i) (size (ondemand i b)) k ⊎ Owned base b k

-- the nodes' cells are among the first n, and no two nodes share one
unfoldable pub Placed : (ℕ → ℕ) → ℕ → Tree → Type 0
Placed base n (leaf i p) = base i + size (leaf i p) ≤ n
Placed base n (join i c l r) =
    (base i + size (join i c l r) ≤ n) × Placed base n l × Placed base n r
    × Apart (Among (base i) (size (join i c l r))) (Owned base l)
    × Apart (Among (base i) (size (join i c l r))) (Owned base r)
    × Apart (Owned base l) (Owned base r)
Placed base n (ondemand i b) =
    (base i + size (ondemand i b) ≤ n) × Placed base n b × Apart (Among (base i) (size (ondemand i b))) (Owned base b)

-- each node's cells hold its contents after its own history
unfoldable pub Holds : (ℕ → ℕ) → Tree → History → List ℕ → Type 0
Holds base (leaf i p) h cs = part (base i) (size (leaf i p)) cs ≡ contents (leaf i p) h
Holds base (join i c l r) h cs =
    (part (base i) (size (join i c l r)) cs ≡ contents (join i c l r) h)
    × Holds base l (left_history c l r h) cs × Holds base r (right_history c l r h) cs
Holds base (ondemand i b) h cs = (part (base i) (size (ondemand i b)) cs ≡ contents (ondemand i b) h) × Holds base b (demands h) cs

-- cells that agree on a tree's cells hold the same for it
pub frame : (base : ℕ → ℕ) (t : Tree) (h : History) (cs cs' : List ℕ)
    → ((k : ℕ) → Owned base t k → get_or cs' k 0 ≡ get_or cs k 0) → Holds base t h cs → Holds base t h cs'
unfolding Owned Holds
frame base (leaf i p) h cs cs' g u = part_agree _ _ cs cs' g ∙ u
frame base (join i c l r) h cs cs' g u = (
  part_agree _ _ cs cs' (λ k o. g k (inl o)) ∙ u.0,
  frame base l _ cs cs' (λ k o. g k (inr (inl o))) u.1,
  frame base r _ cs cs' (λ k o. g k (inr (inr o))) u.2,
)
frame base (ondemand i b) h cs cs' g u =
    (part_agree _ _ cs cs' (λ k o. g k (inl o)) ∙ u.0, frame base b _ cs cs' (λ k o. g k (inr o)) u.1)
