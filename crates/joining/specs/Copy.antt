-- Room for a table in a larger one.
use Rattle.std.specs.Prelude.{ℕ, ◌+◌, ◌*◌, ◌≤◌, List, length}
use Rattle.word.specs.Limits.{most_nodes}
use Rattle.arity.specs.Table.{nodes}

-- from node `at` on, child numbers moved on by n
pub record Space (table : List ℕ) (at n : ℕ) (out : List ℕ) : Type 0 where
  pub near : n ≤ most_nodes
  pub few : at + nodes table ≤ most_nodes
  pub long : 3 * (at + nodes table) ≤ length out
