-- What is proved of the print of a file's beginning.
use Rattle.std.specs.Prelude.{ℕ, ◌≤◌, ◌≡◌, List, take}
use Rattle.column.specs.Line.{enough_bytes}
use Rattle.listing.specs.Print.{file_text}

-- the print of the first k bytes is the print of the file, if k is enough
abbrev pub PrefixPrints : Type 0
PrefixPrints = (k : ℕ) (file : List ℕ) → enough_bytes ≤ k → file_text (take k file) ≡ file_text file
