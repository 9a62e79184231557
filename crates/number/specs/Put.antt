-- A text that is put into a buffer, from a place on or at the front.
use Rattle.std.specs.Prelude.{ℕ, ◌+◌, ◌≤◌, ◌≡◌, List, ◌++◌, length, drop}
use Rattle.std.proofs.lemmas.List.Edits.{sets}

-- what is shown stands at `from`, and what comes next begins behind it
pub record Put (shown text : List ℕ) (from next : ℕ) (text' : List ℕ) : Type 0 where
  pub next-is : next ≡ from + length shown
  pub within : next ≤ length text
  pub put : text' ≡ sets text from shown

-- a buffer begins with a text of n bytes, and is otherwise as it was
pub record Begins (shown text : List ℕ) (n : ℕ) (text' : List ℕ) : Type 0 where
  pub bytes : n ≡ length shown
  pub put : text' ≡ shown ++ drop n text
