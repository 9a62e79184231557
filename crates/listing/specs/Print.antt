-- "The translator's print"
use Rattle.std.specs.Prelude.{ℕ, zero, suc, ◌+◌, ◌*◌, List, [], ◌∷◌, ◌++◌, map, ℤ, take, drop}
use Rattle.std.proofs.Math.Option.{Option, none, some}
use Rattle.word.specs.Limits.{widest, most_instructions}
use Rattle.word.specs.Word.{value, low}
use Rattle.word.specs.Tick.{zeros, head_or}
use Rattle.refusal.specs.Answer.{Answer}
use Rattle.refusal.specs.Answer.Answer.{counts, refused}
use Rattle.number.specs.Row.{row, row_bytes}
use Rattle.column.specs.Line.{lines}
use Rattle.column.specs.File.{file_refusal, table_of}
use Rattle.flat.specs.Flat.{width}
use Rattle.flat.specs.Code.{header, instruction_count, output_count, results_at, most_numbers}
use Rattle.refusal.specs.Outcome.{Outcome}
use Rattle.translator.specs.Translate.{translated_table}

-- numbers on a line, "each number in 12 columns"
unfoldable pub line : List ℕ → List ℕ
line ws = row (map value ws)

-- k lines of w numbers each
abbrev pub rows : (w k : ℕ) → List ℕ → List ℕ
rows w zero ws = []
rows w (suc k) ws = line (take w ws) ++ rows w k (drop w ws)

-- "the header on a line, each instruction on a line, each output on a line"
unfoldable pub code_text : List ℕ → List ℕ
code_text code =
    line (take header code)
    ++ (rows width (instruction_count code) (drop header code) ++ rows 1 (output_count code) (drop (results_at (instruction_count code)) code))

-- "number and place on one line"
abbrev pub refusal_text : ℕ → ℤ → List ℕ
refusal_text number place = line (number ∷ low place ∷ [])

-- "prints the code .. On refusal it prints number and place"
abbrev pub answer_text : Answer → List ℕ → List ℕ
answer_text (counts ks) code = code_text (take (head_or 0 ks) code)
answer_text (refused number place) code = refusal_text number place

-- how many bytes the print of the largest code has
abbrev pub most_bytes : ℕ
most_bytes = row_bytes header + (most_instructions * row_bytes width + widest * row_bytes 1)

abbrev pub outcome_text : Outcome → List ℕ
outcome_text o = answer_text o.answer o.buffer

-- the print of a table; every code fits
unfoldable pub table_text : List ℕ → List ℕ
table_text table = outcome_text (translated_table table (zeros most_numbers))

-- the refusal of the lines, where there is one
abbrev pub unless_refused : Option Answer → List ℕ → List ℕ
unless_refused none text = text
unless_refused (some a) text = answer_text a []

-- "A program reads a column file .. and prints the code"
unfoldable pub file_text : List ℕ → List ℕ
file_text file = unless_refused (file_refusal file) (table_text (table_of (lines file)))
