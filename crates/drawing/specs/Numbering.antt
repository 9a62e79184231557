-- Tables made of drawings: two joined by a node (E8), and a tree numbered "left, right, then the node" (E11, E14).
use Rattle.std.specs.Prelude.{ℕ, ◌+◌, ◌-◌, List, [], ◌∷◌, ◌++◌, leb}
use Rattle.word.specs.Choice.{pick}
use Rattle.arity.specs.Tree.{Tree, Primitive, Composition}
use Rattle.arity.specs.Tree.Tree.{leaf, join, ondemand}
use Rattle.arity.specs.Tree.Primitive.{number, control, operation, delay, cable, cut}
use Rattle.arity.specs.Tree.Composition.{sequence, parallel, split, merge, recursion}
use Rattle.arity.specs.Table.{nodes}
use Rattle.arity.specs.Check.{two_children}
use Rattle.arity.specs.Formed.{Fields}

-- the kind and the first field of a primitive, and the kind of a composition
abbrev pub kind_of : Primitive → ℕ
kind_of (number v) = 1
kind_of (control s) = 2
kind_of (operation o) = 3
kind_of (delay d) = 4
kind_of cable = 5
kind_of cut = 6

abbrev pub first_of : Primitive → ℕ
first_of (number v) = v
first_of (control s) = s
first_of (operation o) = o
first_of (delay d) = d
first_of cable = 0
first_of cut = 0

abbrev pub kind_for : Composition → ℕ
kind_for sequence = 7
kind_for parallel = 8
kind_for split = 9
kind_for merge = 10
kind_for recursion = 11

-- a node whose fields are in range, whether the arities fit or not
abbrev pub InRange : Tree → Type 0
InRange (leaf i p) = Fields (kind_of p) (first_of p) 0
InRange (join i c l r) = Unit {0}
InRange (ondemand i b) = Unit {0}

-- a table "with child numbers moved on by" n
unfoldable pub moved : ℕ → List ℕ → List ℕ
moved n [] = []
moved n (kind ∷ []) = kind ∷ []
moved n (kind ∷ first ∷ []) = kind ∷ first ∷ []
moved n (kind ∷ first ∷ second ∷ table) = kind ∷ pick (leb 7 kind) (n + first) first ∷ pick (two_children kind) (n + second) second ∷ moved n table

-- the nodes of t, those of u "with child numbers moved on by the first's length", then one node more
unfoldable pub closed : List ℕ → List ℕ → (kind first second : ℕ) → List ℕ
unfolding moved
closed t u kind first second = t ++ (moved (nodes t) u ++ (kind ∷ first ∷ second ∷ []))

-- "then the joining node with the two last nodes as its first and second"
abbrev pub joined : ℕ → List ℕ → List ℕ → List ℕ
joined kind t u = closed t u kind (nodes t - 1) (nodes t + nodes u - 1)

-- the table of a tree, numbered "left, right, then the node"
unfoldable pub renumbered : Tree → List ℕ
unfolding closed
renumbered (leaf i p) = closed [] [] (kind_of p) (first_of p) 0
renumbered (join i c l r) = joined (kind_for c) (renumbered l) (renumbered r)
renumbered (ondemand i b) = closed (renumbered b) [] 12 (nodes (renumbered b) - 1) 0
