-- What the functions inside a print ask of each other and promise; the contract of the print cites none of this.
use Rattle.std.specs.Prelude.{ℕ, zero, suc, ◌+◌, ◌≤◌, List, length, drop}
use Rattle.flat.specs.Steps.{Header}
use Rattle.listing.specs.Print.{rows, most_bytes}

-- there are k times w numbers
abbrev pub Full : (w k : ℕ) → List ℕ → Type 0
Full w zero ws = Unit {0}
Full w (suc k) ws = (w ≤ length ws) × Full w k (drop w ws)

-- k lines of w numbers, and room for them
pub record Rows (numbers : List ℕ) (w k : ℕ) (text : List ℕ) (from : ℕ) : Type 0 where
  pub full : Full w k numbers
  pub room : from + length (rows w k numbers) ≤ length text

-- a code that has its counted length, and room for all its lines
pub record Listable (code text : List ℕ) : Type 0 where
  pub head : Header code
  pub room : most_bytes ≤ length text
