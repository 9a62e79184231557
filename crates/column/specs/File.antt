-- Reading and writing a column file: the complete result of a call, its answer and the lent buffer after it, for all inputs.
use Rattle.std.specs.Prelude.{ℕ, zero, suc, ◌*◌, ◌/◌, ◌%◌, not, List, [], ◌∷◌, ◌++◌, map, eqb, ltb, length, take, drop}
use Rattle.std.proofs.Math.Option.{Option, none}
use Rattle.word.specs.Limits.{most_nodes}
use Rattle.refusal.specs.Answer.{Answer, count, refused_at, refused_all}
use Rattle.refusal.specs.Outcome.{Outcome, outcome}
use Rattle.word.specs.Word.{value}
use Rattle.column.specs.Checks.{when, ◌or◌, unless}
use Rattle.column.specs.Line.{line_bytes, node_line, lines, entries, line_refusal}

-- "reading, line by line", from line i on
abbrev pub lines_refusal : ℕ → List (List ℕ) → Option Answer
lines_refusal i [] = none
lines_refusal i (l ∷ ls) = line_refusal i l or lines_refusal (suc i) ls

-- "no line", else the first wrong line
unfoldable pub file_refusal : List ℕ → Option Answer
file_refusal file = when (eqb (length (lines file)) 0) (refused_at 3 0) or lines_refusal 0 (lines file)

-- the table of the lines, three numbers to a line
abbrev pub table_of : List (List ℕ) → List ℕ
table_of [] = []
table_of (l ∷ ls) = entries l ++ table_of ls

-- "Reader: lines, 12"; the count of nodes
unfoldable pub reading : List ℕ → List ℕ → Outcome
reading file table =
    let nodes = length (lines file) in
    unless (file_refusal file or when (ltb (length table) (3 * nodes)) (refused_all 12)) table
    (outcome (count nodes) (table_of (lines file) ++ drop (3 * nodes) table))

-- node i of a table: "three to a node: kind, first, second"
abbrev pub node : List ℕ → ℕ → List ℕ
node table i = take 3 (drop (3 * i) table)

unfoldable pub line_of : List ℕ → ℕ → List ℕ
line_of table i = node_line i (map value (node table i))

-- the lines of n nodes from node i on
abbrev pub lines_from : List ℕ → ℕ → ℕ → List ℕ
lines_from table i zero = []
lines_from table i (suc n) = line_of table i ++ lines_from table (suc i) n

-- "Refusal 3 has place 0 when the list .. is empty or a table's count of numbers is no multiple of three, otherwise 512."
unfoldable pub count_refusal : List ℕ → Option Answer
count_refusal table =
    when (eqb (length table) 0) (refused_at 3 0)
    or when (not (eqb (length table % 3) 0)) (refused_at 3 0)
    or when (ltb most_nodes (length table / 3)) (refused_at 3 most_nodes)

-- "Writer: 3, 12"; the count of bytes
unfoldable pub writing : List ℕ → List ℕ → Outcome
writing table file =
    let nodes = length table / 3 in
    unless (count_refusal table or when (ltb (length file) (line_bytes * nodes)) (refused_all 12)) file
    (outcome (count (line_bytes * nodes)) (lines_from table 0 nodes ++ drop (line_bytes * nodes) file))
