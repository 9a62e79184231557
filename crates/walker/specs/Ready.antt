-- What the walker's functions ask of a circuit, all of it promised of an accepted table, and what a step leaves.
use Rattle.std.specs.Prelude.{ℕ, ◌-◌, ◌*◌, ◌≤◌, ◌<◌, ◌≡◌, Bool, List, eqb, length, take}
use Rattle.word.specs.Choice.{◌or◌, pick}
use Rattle.word.specs.Limits.{control_count, most_ticks}
use Rattle.word.specs.Tick.{Beam, Tick, tick, Stepped, stepped}
use Rattle.cells.specs.Cells.{part}
use Rattle.arity.specs.Tree.{Tree, Composition, ins, outs}
use Rattle.arity.specs.Table.{nodes, kind_at, first_at, second_at, composition_of, tree, circuit}
use Rattle.arity.specs.Nodes.{cells_before}
use Rattle.arity.specs.Ready.{Promising}
use Rattle.calls.specs.Step.{step}
use Rattle.calls.specs.Wiring.{first_inputs, second_inputs, join_outputs, kept_cells}

-- the first cell of each node of a table
abbrev pub base : List ℕ → ℕ → ℕ
base table = cells_before (circuit table)

-- as many cells as the table needs
abbrev pub Roomy : List ℕ → ℕ → Type 0
Roomy table n = base table (nodes table) ≤ n

-- i is a node
pub record Inside (table : List ℕ) (i : ℕ) : Type 0 where
  pub inside : i < nodes table

-- node i is an ondemand
pub record Demands (table : List ℕ) (i : ℕ) : Type 0 where
  pub inside : i < nodes table
  pub kind : kind_at table i ≡ 12

-- node i is a composition
pub record Joins (table : List ℕ) (i : ℕ) : Type 0 where
  pub inside : i < nodes table
  pub least : 7 ≤ kind_at table i
  pub most : kind_at table i ≤ 11

-- its composition and its sides
abbrev pub joining : List ℕ → ℕ → Composition
joining table i = composition_of (kind_at table i)

abbrev pub left_tree : List ℕ → ℕ → Tree
left_tree table i = tree table (first_at table i)

abbrev pub right_tree : List ℕ → ℕ → Tree
right_tree table i = tree table (second_at table i)

-- the child that runs first, and the one that runs second
abbrev pub first_child : List ℕ → ℕ → ℕ
first_child table i = pick (eqb (kind_at table i) 11) (second_at table i) (first_at table i)

abbrev pub second_child : List ℕ → ℕ → ℕ
second_child table i = pick (eqb (kind_at table i) 11) (first_at table i) (second_at table i)

-- the first inputs and outputs of node i in an array of 32
abbrev pub ins_of : List ℕ → ℕ → Beam → Beam
ins_of table i xs = take (ins (tree table i)) xs

abbrev pub outs_of : List ℕ → ℕ → Beam → Beam
outs_of table i ys = take (outs (tree table i)) ys

-- zs holds what the first child is given, where the node is given xs and the cells are cs
pub record FirstGiven (table : List ℕ) (i : ℕ) (xs cs zs : List ℕ) : Type 0 where
  pub is : ins_of table (first_child table i) zs
      ≡ first_inputs (joining table i) (left_tree table i) (ins_of table i xs) (part (base table i) (ins (right_tree table i)) cs)

-- zs holds what the second child is given, where ys holds the outputs of the first
pub record SecondGiven (table : List ℕ) (i : ℕ) (xs ys zs : List ℕ) : Type 0 where
  pub is : ins_of table (second_child table i) zs
      ≡ second_inputs (joining table i) (left_tree table i) (right_tree table i) (ins_of table i xs) (outs_of table (first_child table i) ys)

-- os holds the outputs of the node and cs' are the cells, where ys and zs hold the outputs of its children and the cells were cs
pub record Finished (table : List ℕ) (i : ℕ) (ys zs cs os cs' : List ℕ) : Type 0 where
  pub outputs : outs_of table i os ≡ join_outputs (joining table i) (outs_of table (first_child table i) ys) (outs_of table (second_child table i) zs)
  pub cells : cs' ≡ kept_cells (joining table i) (base table i) (ins (right_tree table i)) (outs_of table (second_child table i) zs) cs

-- ys holds the outputs that stand in the cells of the ondemand i
pub record Holding (table : List ℕ) (i : ℕ) (cs ys : List ℕ) : Type 0 where
  pub is : outs_of table i ys ≡ part (base table i) (outs (tree table i)) cs

-- a tick of node i from the inputs xs and the cells cs leaves the outputs ys and the cells cs'; told says whether a delay was clipped before it, told' after
pub record Ticked (table controls : List ℕ) (i : ℕ) (xs cs ys cs' : List ℕ) (told told' : Bool) : Type 0 where
  pub clips : Bool
  pub tells : told' ≡ (told or clips)
  pub is : stepped (outs_of table i ys) cs' clips ≡ step (base table) (tree table i) (tick (ins_of table i xs) controls) cs

-- one tick of a table's circuit
abbrev pub step_of : List ℕ → Tick → List ℕ → Stepped
step_of table = step (base table) (circuit table)

-- what playing ticks asks: the root is the last node, and the buffers are as long as needed and no longer
pub record Playable (table : List ℕ) (root n m ticks : ℕ) (inputs cells outputs : List ℕ) : Type 0 where
  pub promise : Promising table
  pub least : 1 ≤ nodes table
  pub last : root ≡ nodes table - 1
  pub inputs_are : n ≡ ins (circuit table)
  pub outputs_are : m ≡ outs (circuit table)
  pub short : ticks ≤ most_ticks
  pub reads : length inputs ≡ ticks * n
  pub writes : length outputs ≡ ticks * m
  pub room : length cells ≡ base table (nodes table)

-- what a survey of an accepted table leaves, with the counts of its circuit
pub record Surveyed (table : List ℕ) (n m cells : ℕ) : Type 0 where
  pub promise : Promising table
  pub least : 1 ≤ nodes table
  pub inputs_are : n ≡ ins (circuit table)
  pub outputs_are : m ≡ outs (circuit table)
  pub cells_are : cells ≡ base table (nodes table)

-- what a call of so many ticks asks that is not refused: its block has the inputs, and its buffers are as long as needed
pub record Walkable (table : List ℕ) (n m k ticks : ℕ) (inputs controls cells outputs : List ℕ) : Type 0 where
  pub surveyed : Surveyed table n m k
  pub short : ticks ≤ most_ticks
  pub reads : length inputs ≡ ticks * n
  pub controls_are : length controls ≡ control_count
  pub cells_fit : k ≤ length cells
  pub outputs_fit : ticks * m ≤ length outputs
