-- What is known of a circuit that is read and translated.
use Rattle.std.specs.Prelude.{ℕ, ◌≤◌, List, length, take}
use Rattle.flat.specs.Steps.{Header}

-- the first so many numbers are a code
pub record Coded (code : List ℕ) (numbers : ℕ) : Type 0 where
  pub within : numbers ≤ length code
  pub head : Header (take numbers code)
