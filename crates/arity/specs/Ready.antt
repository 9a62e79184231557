-- What is promised of an accepted table with its survey.
use Rattle.std.specs.Prelude.{ℕ, ◌^◌, ◌≤◌, ◌<◌, List}
use Rattle.word.specs.Limits.{most_nodes}
use Rattle.arity.specs.Tree.{need}
use Rattle.arity.specs.Table.{nodes, tree, circuit}
use Rattle.arity.specs.Nodes.{cells_before}
use Rattle.arity.specs.Promise.{Node, Shaped}

pub record Ready (table shape : List ℕ) : Type 0 where
  pub few : nodes table ≤ most_nodes
  pub node : (i : ℕ) → i < nodes table → Node table i
  pub row : (i : ℕ) → i < nodes table → Shaped table shape i

-- of its table alone; that the instructions of a node are a word, and the cells few, follows by its rows
pub record Promising (table : List ℕ) : Type 0 where
  pub few : nodes table ≤ most_nodes
  pub node : (i : ℕ) → i < nodes table → Node table i
  pub fits : (i : ℕ) → i < nodes table → need (tree table i) < 2 ^ 32
  pub cells : cells_before (circuit table) (nodes table) ≤ 2097152

-- what is kept of a circuit
pub record Sound (table shape : List ℕ) : Type 0 where
  pub ready : Ready table shape
  pub promising : Promising table
