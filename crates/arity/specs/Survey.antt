-- The survey: four numbers a node that the check leaves in a lent buffer, its shape.
use Rattle.std.specs.Prelude.{ℕ, zero, suc, ◌+◌, ◌*◌, List, get_or, set, ltb}
use Rattle.word.specs.Choice.{pick}
use Rattle.word.specs.Limits.{most_nodes}
use Rattle.arity.specs.Tree.{Tree, ins, outs, need}
use Rattle.arity.specs.Table.{nodes, tree}
use Rattle.arity.specs.Check.{first_refused, first_cell, uneven}
use Rattle.arity.specs.declared.rows.Row.{Row}

abbrev pub shape_numbers : ℕ
shape_numbers = 4 * most_nodes

-- the row of node j in a shape, four numbers a node
abbrev pub row_at : List ℕ → ℕ → Row
row_at shape j = record {
  inputs = get_or shape (4 * j) 0;
  outputs = get_or shape (4 * j + 1) 0;
  instructions = get_or shape (4 * j + 2) 0;
  cell = get_or shape (4 * j + 3) 0;
}

abbrev pub put_row : List ℕ → ℕ → Row → List ℕ
put_row shape j row = set (set (set (set shape (4 * j) row.inputs) (4 * j + 1) row.outputs) (4 * j + 2) row.instructions) (4 * j + 3) row.cell

-- the row of a tree whose root has this first cell: inputs, outputs, instructions, first cell; and of node j of a table
abbrev pub row_for : Tree → ℕ → Row
row_for x cell = record { inputs = ins x; outputs = outs x; instructions = need x; cell = cell }

abbrev pub row_of : List ℕ → ℕ → Row
row_of table j = row_for (tree table j) (first_cell table j)

-- a shape with the rows of the first i nodes
unfoldable pub filled : List ℕ → ℕ → List ℕ → List ℕ
filled table zero shape = shape
filled table (suc i) shape = put_row (filled table i shape) i (row_of table i)

-- what the survey makes of a shape: a row for each node before the first refused one, none where the count of nodes is wrong; the rest stays
unfoldable pub surveyed : List ℕ → List ℕ → List ℕ
surveyed table shape = filled table (pick (uneven table) 0 (pick (ltb most_nodes (nodes table)) 0 (first_refused table))) shape
