-- What keeps the reading of an input inside its buffer.
use Rattle.std.specs.Prelude.{ℕ, ◌-◌, ◌≤◌, List, length, take, drop}
use Rattle.number.specs.Put.{Begins}
use Rattle.console.specs.declared.held.Rest.{Rest}

-- the rest lies in the buffer
pub record Stands (r : Rest) (buffer : List ℕ) : Type 0 where
  pub order : r.at ≤ r.end
  pub within : r.end ≤ length buffer

-- the buffer holds as many bytes as before, or more
pub record Grown (end : ℕ) (buffer : List ℕ) (r : ℕ) : Type 0 where
  pub more : end ≤ r
  pub within : r ≤ length buffer

-- the bytes from `at` to `end` stand in front, and the buffer is otherwise as it was
pub record Moved (buffer : List ℕ) (at end r : ℕ) (buffer' : List ℕ) : Type 0 where
  pub within : r ≤ length buffer'
  pub front : Begins (take (end - at) (drop at buffer)) buffer r buffer'
