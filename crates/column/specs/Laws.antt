-- What is proved of a file or a table that goes out and comes back, of a written file's columns, and of a file's beginning.
use Rattle.std.specs.Prelude.{ℕ, ◌+◌, ◌*◌, ◌/◌, ◌≤◌, ◌<◌, ◌≡◌, ◌↔◌, List, ◌++◌, pos, length, get_or, take, drop}
use Rattle.refusal.specs.Answer.{count}
use Rattle.refusal.specs.Outcome.{outcome}
use Rattle.word.specs.Word.{value}
use Rattle.word.specs.Tick.{Words}
use Rattle.number.specs.Laws.{ColumnHolds}
use Rattle.column.specs.Line.{line_bytes, enough_bytes}
use Rattle.column.specs.File.{file_refusal, reading, writing}

-- a file that is read and written again has the same bytes
abbrev pub FileAgain : Type 0
FileAgain = (file table out : List ℕ) (nodes : ℕ) → (reading file table).answer ≡ count nodes → length file ≤ length out
    → writing (take (3 * nodes) (reading file table).buffer) out ≡ outcome (count (length file)) (file ++ drop (length file) out)

-- a table of words that is written and read again has the same numbers
abbrev pub TableAgain : Type 0
TableAgain = (table file buffer : List ℕ) (bytes : ℕ) → Words table → (writing table file).answer ≡ count bytes → length table ≤ length buffer
    → reading (take bytes (writing table file).buffer) buffer ≡ outcome (count (length table / 3)) (table ++ drop (length table) buffer)

-- every column of a file that is written holds its number, as the law of a column has it: each line the node's in 4, then its three in 12
abbrev pub FileHolds : Type 0
FileHolds = (table file : List ℕ) (bytes i : ℕ) → Words table → (writing table file).answer ≡ count bytes → 3 * i < length table
    → let line = line_bytes * i in
    ColumnHolds (writing table file).buffer line 4 (pos i) × ((j : ℕ) → j < 3 → ColumnHolds (writing table file).buffer (line + (4 + 12 * j)) 12 (value (get_or table (3 * i + j) 0)))

-- the first k bytes decide how the lines of any file are refused, exactly if k is enough
abbrev pub PrefixDecides : Type 0
PrefixDecides = (k : ℕ) → ((file : List ℕ) → file_refusal (take k file) ≡ file_refusal file) ↔ (enough_bytes ≤ k)

-- and all that the reader does
abbrev pub PrefixReads : Type 0
PrefixReads = (k : ℕ) (file table : List ℕ) → enough_bytes ≤ k → reading (take k file) table ≡ reading file table
