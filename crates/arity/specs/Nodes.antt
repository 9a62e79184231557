-- The nodes of a tree by their numbers, and where their cells stand.
use Rattle.std.specs.Prelude.{ℕ, zero, suc, ◌+◌, ◌<◌, ◌≡◌, ◌⊎◌, Bool, true, eqb}
use Rattle.word.specs.Choice.{pick}
use Rattle.arity.specs.Tree.{Tree, size}
use Rattle.arity.specs.Tree.Tree.{leaf, join, ondemand}

-- j is the number of a node of the tree
unfoldable pub Numbered : Tree → ℕ → Type 0
Numbered (leaf i p) j = i ≡ j
Numbered (join i c l r) j = (i ≡ j) ⊎ (Numbered l j ⊎ Numbered r j)
Numbered (ondemand i b) j = (i ≡ j) ⊎ Numbered b j

abbrev pub Apart : (ℕ → Type 0) → (ℕ → Type 0) → Type 0
Apart A B = (k : ℕ) → A k → B k → ⊥

-- no two nodes have one number
unfoldable pub Distinct : Tree → Type 0
Distinct (leaf i p) = Unit {0}
Distinct (join i c l r) = Distinct l × Distinct r × (Numbered l i → ⊥) × (Numbered r i → ⊥) × Apart (Numbered l) (Numbered r)
Distinct (ondemand i b) = Distinct b × (Numbered b i → ⊥)

-- the numbers of the nodes are those below n
pub record Complete (n : ℕ) (t : Tree) : Type 0 where
  pub distinct : Distinct t
  pub every : (j : ℕ) → j < n → Numbered t j
  pub only : (j : ℕ) → Numbered t j → j < n

-- does the tree have a node of number j?
unfoldable pub has : Tree → ℕ → Bool
has (leaf i p) j = eqb i j
has (join i c l r) j = pick (eqb i j) true (pick (has l j) true (has r j))
has (ondemand i b) j = pick (eqb i j) true (has b j)

-- the tree of node j, found by the path to it
unfoldable pub subtree : Tree → ℕ → Tree
unfolding has
subtree (leaf i p) j = leaf i p
subtree (join i c l r) j = pick (eqb i j) (join i c l r) (pick (has l j) (subtree l j) (subtree r j))
subtree (ondemand i b) j = pick (eqb i j) (ondemand i b) (subtree b j)

-- node j has sizes j cells
unfoldable pub Sized : (ℕ → ℕ) → Tree → Type 0
Sized sizes (leaf i p) = size (leaf i p) ≡ sizes i
Sized sizes (join i c l r) = (size (join i c l r) ≡ sizes i) × Sized sizes l × Sized sizes r
Sized sizes (ondemand i b) = (size (ondemand i b) ≡ sizes i) × Sized sizes b

-- f 0 + .. + f (n - 1)
unfoldable pub sum_to : (ℕ → ℕ) → ℕ → ℕ
sum_to f zero = 0
sum_to f (suc n) = sum_to f n + f n

-- "A node's cells follow those of all lower-numbered nodes": how many those are
unfoldable pub cells_before : Tree → ℕ → ℕ
unfolding sum_to size subtree
cells_before t j = sum_to (λ k. size (subtree t k)) j
