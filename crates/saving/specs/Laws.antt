-- What is proved of a file or of cells that go out and come back.
use Rattle.std.specs.Prelude.{ℕ, ◌≤◌, ◌≡◌, ◌↔◌, true, List, ◌++◌, length, take, drop}
use Rattle.word.specs.Limits.{most_cells}
use Rattle.word.specs.Tick.{Words}
use Rattle.refusal.specs.Answer.{count}
use Rattle.refusal.specs.Outcome.{outcome}
use Rattle.saving.specs.File.{state_file, state_cells, is_state}
use Rattle.saving.specs.Saved.{cell_count, saved, restored}

-- the file is that of these n cells, and these are the cells in it
pub record FileOf (n : ℕ) (file cells : List ℕ) : Type 0 where
  pub many : length cells ≡ n
  pub words : Words cells
  pub bytes : state_file cells ≡ file
  pub held : state_cells n file ≡ cells

-- 18 lets a file pass exactly if it is that of n words
abbrev pub StateLaw : Type 0
StateLaw = (n : ℕ) (file : List ℕ) → n ≤ most_cells → (is_state n file ≡ true) ↔ ((cells : List ℕ) × FileOf n file cells)

-- cells that are saved and restored are the same, whatever they hold: "A position outside its ring is restored as it is."
abbrev pub CellsAgain : Type 0
CellsAgain = (table cells file cells' : List ℕ) (bytes : ℕ) → Words cells → (saved table cells file).answer ≡ count bytes → cell_count table ≤ length cells'
    → restored table (take bytes (saved table cells file).buffer) cells' ≡ outcome (count (cell_count table)) (take (cell_count table) cells ++ drop (cell_count table) cells')

-- a file that is restored and saved again has the same bytes
abbrev pub FileAgain : Type 0
FileAgain = (table file cells out : List ℕ) (n : ℕ) → (restored table file cells).answer ≡ count n → length file ≤ length out
    → saved table (restored table file cells).buffer out ≡ outcome (count (length file)) (file ++ drop (length file) out)
