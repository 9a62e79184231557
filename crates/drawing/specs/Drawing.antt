-- A drawing: the tree of a table, whatever the numbers of its nodes.
use Rattle.std.specs.Prelude.{ℕ, ◌+◌, ◌≡◌}
use Rattle.arity.specs.Tree.{Tree, size}
use Rattle.arity.specs.Tree.Tree.{leaf, join, ondemand}

-- the tree with 0 for the number of each node
unfoldable pub drawing : Tree → Tree
drawing (leaf i p) = leaf 0 p
drawing (join i c l r) = join 0 c (drawing l) (drawing r)
drawing (ondemand i b) = ondemand 0 (drawing b)

-- two trees "draw the same tree": they differ in the numbers of their nodes alone
abbrev pub Alike : Tree → Tree → Type 0
Alike x y = drawing x ≡ drawing y

-- the sum of f over the nodes of a tree, each as the tree below it
unfoldable pub total : (Tree → ℕ) → Tree → ℕ
total f (leaf i p) = f (leaf i p)
total f (join i c l r) = f (join i c l r) + (total f l + total f r)
total f (ondemand i b) = f (ondemand i b) + total f b

-- how many nodes a tree has, and how many cells
abbrev pub count : Tree → ℕ
count x = total (λ y. 1) x

abbrev pub cells_in : Tree → ℕ
cells_in x = total size x

-- P holds of each node of a tree, as the tree below it
unfoldable pub All : (Tree → Type 0) → Tree → Type 0
All P (leaf i p) = P (leaf i p)
All P (join i c l r) = P (join i c l r) × All P l × All P r
All P (ondemand i b) = P (ondemand i b) × All P b
