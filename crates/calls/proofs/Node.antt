-- All cells of a circuit, node by node.
use Prim.Native.Nat.{ℕ, zero, suc, ◌<◌}
use mathlib.Core.Path.{◌≡◌, refl, ap₂, ◌∙◌}
use mathlib.Core.Logic.{inl, inr}
use mathlib.Core.List.{List, ◌++◌}
use native.Mathlib.Nat.{zero-add}
use native.Mathlib.Omega.{arith}
use Rattle.word.proofs.Lists.{same_number}
use Rattle.cells.specs.Cells.{part}
use Rattle.cells.proofs.Parts.{part_append}
use Rattle.arity.specs.Tree.{Tree, size}
use Rattle.arity.specs.Tree.Tree.{leaf, join, ondemand}
use Rattle.arity.specs.Nodes.{Numbered, Distinct, Complete, subtree, cells_before}
use Rattle.arity.proofs.Paths.{has-number, left_not_root, right_not_root, right_not_left, body_not_root}
use Rattle.signal.specs.Signal.{History}
use Rattle.signal.specs.History.{own}
use Rattle.signal.specs.Contents.{contents, cells_after}
use Rattle.calls.proofs.Holds.{Holds}

-- the cells of node j hold its contents after its own history
pub node-holds : (base : ℕ → ℕ) (t : Tree) (h : History) (cs : List ℕ) → Distinct t → Holds base t h cs
    → (j : ℕ) → Numbered t j → part (base j) (size (subtree t j)) cs ≡ contents (subtree t j) (own t h j)
unfolding Holds Distinct Numbered subtree own
node-holds base (leaf i p) h cs d u j m = rw (← m) u
node-holds base (join i c l r) h cs d u j (inl m) = rw (← m, same_number i) u.0
node-holds base (join i c l r) h cs d u j (inr (inl m)) = rw (left_not_root i j c l r d m, has-number l j m) (node-holds base l _ cs d.0 u.1 j m)
node-holds base (join i c l r) h cs d u j (inr (inr m)) = rw (right_not_root i j c l r d m, right_not_left i j c l r d m) (node-holds base r _ cs d.1 u.2 j m)
node-holds base (ondemand i b) h cs d u j (inl m) = rw (← m, same_number i) u.0
node-holds base (ondemand i b) h cs d u j (inr m) = rw (body_not_root i j b d m) (node-holds base b _ cs d.0 u.1 j m)

first-nodes : (t : Tree) (h : History) (cs : List ℕ) (n : ℕ)
    → ((j : ℕ) → j < n → part (cells_before t j) (size (subtree t j)) cs ≡ contents (subtree t j) (own t h j))
    → part 0 (cells_before t n) cs ≡ cells_after n t h
unfolding cells_before cells_after
first-nodes t h cs zero g = refl
first-nodes t h cs (suc n) g =
    (rw zero-add at (part_append 0 (cells_before t n) (size (subtree t n)) cs))
    ∙ ap₂ {C = List ℕ} (λ x y. x ++ y) (first-nodes t h cs n (λ j b. g j (omega arith))) (g n (omega arith))

pub all-nodes : (n : ℕ) (t : Tree) (h : History) (cs : List ℕ) → Complete n t → Holds (cells_before t) t h cs → part 0 (cells_before t n) cs ≡ cells_after n t h
all-nodes n t h cs c u = first-nodes t h cs n (λ j b. node-holds (cells_before t) t h cs c.distinct u j (c.every j b))
