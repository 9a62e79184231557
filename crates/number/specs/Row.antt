-- Numbers side by side on a line.
use Rattle.std.specs.Prelude.{ℕ, ◌+◌, ◌*◌, List, [], ◌∷◌, ◌++◌, ℤ}
use Rattle.number.specs.Number.{column}

abbrev pub line_feed : ℕ
line_feed = 10

-- "each number in 12 columns"
abbrev pub column_width : ℕ
column_width = 12

abbrev pub columns : List ℤ → List ℕ
columns [] = []
columns (z ∷ zs) = column column_width z ++ columns zs

-- a line of them, closed by a line feed
abbrev pub row : List ℤ → List ℕ
row zs = columns zs ++ (line_feed ∷ [])

-- how many bytes a line of n numbers has
abbrev pub row_bytes : ℕ → ℕ
row_bytes n = column_width * n + 1
