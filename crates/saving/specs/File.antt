-- The state file: "the first line holds the cell count, each further line one cell, in 12 columns and of the same number form as a column file, and a line feed
-- closes each".
use Rattle.std.specs.Prelude.{ℕ, zero, suc, ◌*◌, Bool, List, [], ◌∷◌, ◌++◌, map, ℤ, pos, length, take, drop}
use Rattle.word.specs.Word.{value}
use Rattle.number.specs.Number.{same, number_in, word_of}
use Rattle.number.specs.Row.{column_width, row, row_bytes}

-- a line for each number
abbrev pub lines : List ℤ → List ℕ
lines [] = []
lines (z ∷ zs) = row (z ∷ []) ++ lines zs

abbrev pub line_bytes : ℕ
line_bytes = row_bytes 1

-- the file of these cells, and how many bytes that of n cells has
unfoldable pub state_file : List ℕ → List ℕ
state_file cells = lines (pos (length cells) ∷ map value cells)

abbrev pub state_bytes : ℕ → ℕ
state_bytes n = line_bytes * suc n

-- what stands in the columns of n lines, as words
unfoldable pub words_in : ℕ → List ℕ → List ℕ
words_in zero text = []
words_in (suc n) text = word_of (number_in (take column_width text)) ∷ words_in n (drop line_bytes text)

-- the n cells in a file
abbrev pub state_cells : ℕ → List ℕ → List ℕ
state_cells n file = words_in n (drop line_bytes file)

-- a file of "this form" and the count n: it is the file of the n cells in it
unfoldable pub is_state : ℕ → List ℕ → Bool
is_state n file = same (state_file (state_cells n file)) file
