-- What crates above this one use of the check:
-- `promise`, what holds of a table that it accepts; `rows`, what holds of the shape that its survey leaves; `recounted`, that the counts of an accepted
-- table are those of its circuit; `whole`, that its circuit has each node once. Beside these they cite the definitions that the four are made of, `checked`
-- among them, as the refusals of the table come first in the results of walker, translator and exported check. A crate that makes tables of others cites
-- `accepted` and `last-decides` (Acceptance) too, and which tree a node is (proofs/Trees).
use Rattle.std.specs.Prelude.{ℕ, ◌+◌, ◌*◌, ◌≤◌, ◌<◌, ◌≡◌, List, [], ◌∷◌, length}
use Rattle.word.specs.Limits.{most_nodes, widest, control_count, longest_delay, most_instructions, most_cells}
use Rattle.word.specs.Operation.{operands}
use Rattle.word.specs.Tick.{Words}
use Rattle.refusal.specs.Answer.Answer.{counts}
use Rattle.arity.specs.Tree.{Tree, ins, outs, size, need}
use Rattle.arity.specs.Tree.Tree.{leaf, join, ondemand}
use Rattle.arity.specs.Table.{kind_at, first_at, second_at, nodes, tree, circuit, primitive_of, composition_of}
use Rattle.arity.specs.Rules.{Arity}
use Rattle.arity.specs.WellFormed.{Times, WellFormed}
use Rattle.arity.specs.Nodes.{Complete, subtree, cells_before}
use Rattle.arity.specs.Check.{checked, IsAccepted}
use Rattle.arity.specs.Survey.{shape_numbers, row_at, surveyed}

-- refusals 8, 10 and 11 of a circuit of n nodes do not apply
pub record Small (n : ℕ) (t : Tree) : Type 0 where
  pub inputs : ins t ≤ widest
  pub outputs : outs t ≤ widest
  pub instructions : need t ≤ most_instructions
  pub cells : cells_before t n ≤ most_cells

-- node i of a table: its fields, its tree, the rule of its kind in the counts of its sides, and where its cells stand
pub record Node (table : List ℕ) (i : ℕ) : Type 0 where
  pub inside : 3 * i + 3 ≤ length table
  pub least : 1 ≤ kind_at table i
  pub most : kind_at table i ≤ 12
  pub control : kind_at table i ≡ 2 → first_at table i < control_count
  pub operation : kind_at table i ≡ 3 → 0 < operands (first_at table i)
  pub delay : kind_at table i ≡ 4 → first_at table i ≤ longest_delay
  pub left : 7 ≤ kind_at table i → first_at table i < i
  -- an ondemand's second field is 0, so it is lower too
  pub right : 7 ≤ kind_at table i → second_at table i < i
  pub is_leaf : kind_at table i ≤ 6 → tree table i ≡ leaf i (primitive_of (kind_at table i) (first_at table i))
  pub is_join : 7 ≤ kind_at table i → kind_at table i ≤ 11
      → tree table i ≡ join i (composition_of (kind_at table i)) (tree table (first_at table i)) (tree table (second_at table i))
  pub is_ondemand : 12 ≤ kind_at table i → tree table i ≡ ondemand i (tree table (first_at table i))
  pub well_formed : WellFormed (tree table i)
  pub arity : Arity (tree table i) (ins (tree table i)) (outs (tree table i))
  pub sequence : kind_at table i ≡ 7 → outs (tree table (first_at table i)) ≡ ins (tree table (second_at table i))
  pub split : kind_at table i ≡ 9 → Times (outs (tree table (first_at table i))) (ins (tree table (second_at table i)))
  pub merge : kind_at table i ≡ 10 → Times (ins (tree table (second_at table i))) (outs (tree table (first_at table i)))
  pub recursion : kind_at table i ≡ 11
      → (ins (tree table (second_at table i)) ≤ outs (tree table (first_at table i))) × (outs (tree table (second_at table i)) ≤ ins (tree table (first_at table i)))
  pub feedback : kind_at table i ≡ 11 → 0 < ins (tree table (second_at table i)) + outs (tree table (second_at table i))
  pub inputs : ins (tree table i) ≤ widest
  pub outputs : outs (tree table i) ≤ widest
  pub instructions : need (tree table i) ≤ need (circuit table)
  pub cells : cells_before (circuit table) i + size (tree table i) ≤ cells_before (circuit table) (nodes table)
  pub part : subtree (circuit table) i ≡ tree table i

-- an accepted table with its inputs, outputs, instructions and cells: one tree whose root is the last node, each node in it once
pub record Promise (table : List ℕ) (inputs outputs instructions cells : ℕ) : Type 0 where
  pub whole : 3 * nodes table ≡ length table
  pub least : 1 ≤ nodes table
  pub most : nodes table ≤ most_nodes
  pub arity : Arity (circuit table) inputs outputs
  pub counted : (inputs ≡ ins (circuit table)) × (outputs ≡ outs (circuit table)) × (instructions ≡ need (circuit table))
  pub celled : cells ≡ cells_before (circuit table) (nodes table)
  pub modest : (instructions ≤ 65536) × (cells ≤ 2097152)
  pub well_formed : WellFormed (circuit table)
  pub complete : Complete (nodes table) (circuit table)
  pub small : instructions ≤ most_instructions → cells ≤ most_cells → Small (nodes table) (circuit table)
  pub node : (i : ℕ) → i < nodes table → Node table i

-- an accepted table keeps the promise; its entries are words
abbrev pub Promised : List ℕ → (a b c d : ℕ) → Type 0
Promised t a b c d = checked t ≡ counts (a ∷ b ∷ c ∷ d ∷ []) → Words t → Promise t a b c d

-- the counts of an accepted table are those of its circuit
abbrev pub Recounted : List ℕ → Type 0
Recounted t = IsAccepted t → checked t ≡ counts (ins (circuit t) ∷ outs (circuit t) ∷ need (circuit t) ∷ cells_before (circuit t) (nodes t) ∷ [])

-- the circuit of an accepted table has each of its nodes once
abbrev pub Whole : List ℕ → Type 0
Whole t = IsAccepted t → Complete (nodes t) (circuit t)

-- the row of node i in the shape that a survey leaves of an accepted table
pub record Shaped (table shape : List ℕ) (i : ℕ) : Type 0 where
  pub inputs : (row_at shape i).inputs ≡ ins (tree table i)
  pub outputs : (row_at shape i).outputs ≡ outs (tree table i)
  pub instructions : (row_at shape i).instructions ≡ need (tree table i)
  pub cell : (row_at shape i).cell ≡ cells_before (circuit table) i

abbrev pub Rows : (t s s' : List ℕ) → Type 0
Rows t s s' = IsAccepted t → length s ≡ shape_numbers → s' ≡ surveyed t s → (i : ℕ) → i < nodes t → Shaped t s' i
