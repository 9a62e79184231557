-- "One line a node: its number in 4 columns, then kind, first and second in 12 each, .. then a line feed; 41 bytes."
use Rattle.std.specs.Prelude.{ℕ, zero, suc, ◌+◌, ◌*◌, Bool, false, not, List, [], ◌∷◌, ◌++◌, eqb, leb, ℤ, pos, negsuc, length, get_or, take, drop}
use Rattle.std.proofs.Math.Option.{Option, none, some}
use Rattle.refusal.specs.Answer.{Answer, refused_at}
use Rattle.word.specs.Choice.{pick, ◌and◌}
use Rattle.word.specs.Limits.{most_nodes}
use Rattle.column.specs.Checks.{when, ◌or◌}
use Rattle.number.specs.Number.{column, number_in, word_of}
use Rattle.number.specs.Row.{line_feed, column_width, columns}

abbrev pub line_bytes : ℕ
line_bytes = 41

-- "20,993 bytes are enough": 512 lines and a byte of a 513th
abbrev pub enough_bytes : ℕ
enough_bytes = line_bytes * most_nodes + 1

-- the line of node i with its kind, first and second
unfoldable pub node_line : ℕ → List ℤ → List ℕ
node_line i numbers = column 4 (pos i) ++ (columns numbers ++ (line_feed ∷ []))

-- column j of a line: the node number, then kind, first and second
abbrev pub column_of : ℕ → List ℕ → List ℕ
column_of zero l = take 4 l
column_of (suc j) l = take column_width (drop (4 + column_width * j) l)

-- the three numbers of a line, as a table has them
abbrev pub entries : List ℕ → List ℕ
entries l = word_of (number_in (column_of 1 l)) ∷ word_of (number_in (column_of 2 l)) ∷ word_of (number_in (column_of 3 l)) ∷ []

-- a file's lines, each with its line feed, "or without one at the end of the file"; "an empty rest after the last line feed is no line"
abbrev pub before : ℕ → List (List ℕ) → List (List ℕ)
before b [] = (b ∷ []) ∷ []
before b (l ∷ ls) = (b ∷ l) ∷ ls

unfoldable pub lines : List ℕ → List (List ℕ)
lines [] = []
lines (b ∷ bs) = pick (eqb b line_feed) ((b ∷ []) ∷ lines bs) (before b (lines bs))

-- 41 bytes, the last its line feed
abbrev pub whole : List ℕ → Bool
whole l = eqb (length l) line_bytes and eqb (get_or l 40 0) line_feed

abbrev pub is_node : ℕ → ℤ → Bool
is_node i (pos n) = eqb n i
is_node i (negsuc n) = false

-- column j of line i, as read: "not a 32-bit number of the form", or "node number not the line's place"
abbrev pub number_refusal : ℕ → ℕ → Option ℤ → Option Answer
number_refusal i j none = some (refused_at 1 i)
number_refusal i zero (some z) = when (not (is_node i z)) (refused_at 2 i)
number_refusal i (suc j) (some z) = none

abbrev pub column_refusal : ℕ → List ℕ → ℕ → Option Answer
column_refusal i l j = number_refusal i j (number_in (column_of j l))

-- line i: "a 513th; before that line's 1 and 2"; "Its length is looked at before its columns"; "only the first wrong column counts"
unfoldable pub line_refusal : ℕ → List ℕ → Option Answer
line_refusal i l =
    when (leb most_nodes i) (refused_at 3 most_nodes)
    or when (not (whole l)) (refused_at 1 i)
    or column_refusal i l 0
    or column_refusal i l 1
    or column_refusal i l 2
    or column_refusal i l 3
