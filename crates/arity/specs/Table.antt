-- The node table: "a list of 32-bit numbers, three to a node: kind, first, second", and the trees that it stands for.
use Rattle.std.specs.Prelude.{ℕ, zero, suc, ◌+◌, ◌-◌, ◌*◌, ◌/◌, List, length, get_or, eqb, leb}
use Rattle.word.specs.Choice.{pick}
use Rattle.arity.specs.Tree.{Tree, Primitive, Composition}
use Rattle.arity.specs.Tree.Tree.{leaf, join, ondemand}
use Rattle.arity.specs.Tree.Primitive.{number, control, operation, delay, cable, cut}
use Rattle.arity.specs.Tree.Composition.{sequence, parallel, split, merge, recursion}

abbrev pub field : List ℕ → ℕ → ℕ → ℕ
field table i k = get_or table (3 * i + k) 0

abbrev pub kind_at : List ℕ → ℕ → ℕ
kind_at table i = field table i 0

abbrev pub first_at : List ℕ → ℕ → ℕ
first_at table i = field table i 1

abbrev pub second_at : List ℕ → ℕ → ℕ
second_at table i = field table i 2

-- how many nodes a table has
abbrev pub nodes : List ℕ → ℕ
nodes table = length table / 3

-- the primitive of a kind from 1 to 6, and the composition of one from 7 to 11
abbrev pub primitive_of : ℕ → ℕ → Primitive
primitive_of kind first =
    pick (eqb kind 1) (number first)
    (pick (eqb kind 2) (control first)
    (pick (eqb kind 3) (operation first)
    (pick (eqb kind 4) (delay first)
    (pick (eqb kind 5) cable cut))))

abbrev pub composition_of : ℕ → Composition
composition_of kind =
    pick (eqb kind 7) sequence
    (pick (eqb kind 8) parallel
    (pick (eqb kind 9) split
    (pick (eqb kind 10) merge recursion)))

-- the tree of node i, where `fuel` is more than i: children have lower numbers
unfoldable pub tree_at : ℕ → List ℕ → ℕ → Tree
tree_at zero table i = leaf i cut
tree_at (suc fuel) table i =
    let l = tree_at fuel table (first_at table i) in
    let r = tree_at fuel table (second_at table i) in
    let p = leaf i (primitive_of (kind_at table i) (first_at table i)) in
    let j = join i (composition_of (kind_at table i)) l r in
    let o = ondemand i l in
    pick (leb (kind_at table i) 6) p (pick (leb (kind_at table i) 11) j o)

unfoldable pub tree : List ℕ → ℕ → Tree
unfolding tree_at
tree table i = tree_at (suc i) table i

-- "The last node is the circuit."
abbrev pub circuit : List ℕ → Tree
circuit table = tree table (nodes table - 1)
