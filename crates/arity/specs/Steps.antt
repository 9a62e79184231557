-- What the functions inside the check say of each other: a node's counts, and the survey from node to node.
use Rattle.std.specs.Prelude.{ℕ, suc, ◌≤◌, ◌<◌, ◌≡◌, Bool, true, false, not, ◌&&◌, List, length, get_or, set, eqb, leb, ltb, Result, Ok, Err}
use Rattle.word.specs.Choice.{pick}
use Rattle.word.specs.Limits.{most_nodes, widest}
use Rattle.refusal.specs.Answer.{Answer, refusal_of, refused_at}
use Rattle.refusal.specs.declared.Refusal.{Refusal}
use Rattle.arity.specs.Tree.{Tree, ins, outs, size, need}
use Rattle.arity.specs.Tree.Tree.{join, ondemand}
use Rattle.arity.specs.Table.{kind_at, first_at, second_at, nodes, tree, composition_of}
use Rattle.arity.specs.Check.{first_in_range, second_in_range, taken, rule, feedback, refusal_at, first_cell}
use Rattle.arity.specs.Survey.{shape_numbers, row_for, row_of, row_at, put_row}
use Rattle.arity.specs.declared.counts.Counts.{Counts}
use Rattle.arity.specs.declared.rows.Row.{Row}

-- the counts of a tree, with the cells that its root owns
abbrev pub counts_of : Tree → Counts
counts_of x = record { inputs = ins x; outputs = outs x; instructions = need x; cells = size x }

-- the rule of a kind, from the rows of the left and the right side
abbrev pub rule_of : ℕ → Row → Row → Bool
rule_of kind l r = rule kind l.inputs l.outputs r.inputs r.outputs

-- refusal 16 of a kind, from the row of the right side
abbrev pub feedback_of : ℕ → Row → Bool
feedback_of kind r = feedback kind r.inputs r.outputs

-- node i of a kind from 7 to 12 with these sides; an ondemand has no right
abbrev pub over : (kind i : ℕ) → Tree → Tree → Tree
over kind i x y = pick (leb kind 11) (join i (composition_of kind) x y) (ondemand i x)

-- n are the counts of any such node whose sides have the rows l and r
abbrev pub Joins : ℕ → Row → Row → Counts → Type 0
Joins kind l r n = (i c d : ℕ) (x y : Tree) → l ≡ row_for x c → r ≡ row_for y d → n ≡ counts_of (over kind i x y)

-- rows whose numbers are small, and sides that the rule of the kind fits
pub record Modest (r : Row) : Type 0 where
  pub inputs : r.inputs ≤ widest
  pub outputs : r.outputs ≤ widest
  pub instructions : r.instructions ≤ 100000

pub record Joinable (kind : ℕ) (l r : Row) : Type 0 where
  pub least : 7 ≤ kind
  pub most : kind ≤ 12
  pub left : Modest l
  pub right : Modest r
  pub fits : rule_of kind l r ≡ true

-- the survey before node i: no node was refused, each has its row, and each child its mark
pub record State (table shape : List ℕ) (marks : List Bool) (i : ℕ) : Type 0 where
  pub most : nodes table ≤ most_nodes
  pub room : length shape ≡ shape_numbers
  pub long : length marks ≡ most_nodes
  pub right : (j : ℕ) → j < i → refusal_at table j ≡ 0
  pub rows : (j : ℕ) → j < i → row_at shape j ≡ row_of table j
  pub marked : (c : ℕ) → c < most_nodes → get_or marks c false ≡ taken table i c

-- refusal 6 by the marks
abbrev pub free_in : List Bool → ℕ → ℕ → Bool
free_in marks i c = ltb c i && not (get_or marks c false)

abbrev pub children_in : ℕ → List Bool → (i l r : ℕ) → Bool
children_in kind marks i l r = pick (leb kind 11) (not (eqb l r) && (free_in marks i l && free_in marks i r)) (free_in marks i l)

-- the marks with the children of one more node
abbrev pub marking : ℕ → ℕ → ℕ → List Bool → List Bool
marking kind l r marks = pick (leb kind 6) marks (pick (leb kind 11) (set (set marks l true) r true) (set marks l true))

-- node i has children, and 4 and 5 do not refuse it
pub record Branching (table : List ℕ) (i : ℕ) : Type 0 where
  pub inside : i < nodes table
  pub least : 7 ≤ kind_at table i
  pub most : kind_at table i ≤ 12
  pub first : first_in_range (kind_at table i) (first_at table i) ≡ true
  pub second : second_in_range (kind_at table i) (second_at table i) ≡ true

-- what is found of node i: its counts, or its refusal
abbrev pub Refuses : List ℕ → ℕ → Answer → Type 0
Refuses table i a = (a ≡ refused_at (refusal_at table i) i) × (refusal_at table i ≡ 0 → ⊥)

abbrev pub Judges : List ℕ → ℕ → Result Counts Refusal → Type 0
Judges table i (Ok n) = (refusal_at table i ≡ 0) × (n ≡ counts_of (tree table i))
Judges table i (Err r) = Refuses table i (refusal_of r)

-- after a step at node i from the shape s: one node more, or the node's refusal
abbrev pub Steps : List ℕ → ℕ → Result ℕ Refusal → (s shape : List ℕ) → List Bool → Type 0
Steps table i (Ok cell) s shape marks = State table shape marks (suc i) × (cell ≡ first_cell table (suc i)) × (shape ≡ put_row s i (row_of table i))
Steps table i (Err r) s shape marks = Refuses table i (refusal_of r) × (shape ≡ s)
