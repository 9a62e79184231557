-- What is proved of a column: how it is read, and what it holds when it is written.
use Rattle.std.specs.Prelude.{ℕ, ◌+◌, ◌≤◌, ◌≡◌, ◌↔◌, true, List, ℤ, length, take, drop}
use Rattle.std.proofs.Math.Option.{some}
use Rattle.std.proofs.lemmas.List.Edits.{sets}
use Rattle.number.specs.Number.{numeral, column, fits, number_in}

-- a column is read as z exactly if it is the text of z, a 32-bit number
abbrev pub NumberLaw : Type 0
NumberLaw = (text : List ℕ) (z : ℤ) → (number_in text ≡ some z) ↔ ((column (length text) z ≡ text) × (fits z ≡ true))

-- the column of this width that begins at `from` holds z: its text, which is spaces and the numeral; and it is read as that number
pub record ColumnHolds (line : List ℕ) (from width : ℕ) (z : ℤ) : Type 0 where
  pub text : take width (drop from line) ≡ column width z
  pub number : number_in (take width (drop from line)) ≡ some z

-- z is written there: the column holds it, and every other byte of the line, before the column or behind it, is what it was
pub record ColumnWritten (line : List ℕ) (from width : ℕ) (z : ℤ) (line' : List ℕ) : Type 0 where
  pub holds : ColumnHolds line' from width z
  pub before : take from line' ≡ take from line
  pub behind : drop (from + width) line' ≡ drop (from + width) line

-- for every width and every 32-bit number that has room in it, that is so of one line alone: the one in which the text is stored there
abbrev pub ColumnLaw : Type 0
ColumnLaw = (line line' : List ℕ) (from width : ℕ) (z : ℤ) → from + width ≤ length line → length (numeral z) ≤ width → fits z ≡ true
    → ColumnWritten line from width z line' ↔ (line' ≡ sets line from (column width z))
