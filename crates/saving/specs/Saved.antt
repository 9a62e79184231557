-- "Saving a test in progress": the complete result of saving and of restoring, the answer and the lent buffer after the call.
use Rattle.std.specs.Prelude.{ℕ, List, ◌++◌, leb, length, take, drop}
use Rattle.word.specs.Choice.{pick, ◌and◌}
use Rattle.word.specs.Limits.{most_cells}
use Rattle.refusal.specs.Answer.{Answer, count, refused_all}
use Rattle.refusal.specs.Answer.Answer.{counts, refused}
use Rattle.refusal.specs.Outcome.{Outcome, outcome}
use Rattle.arity.specs.Table.{nodes, circuit}
use Rattle.arity.specs.Nodes.{cells_before}
use Rattle.arity.specs.Check.{checked}
use Rattle.saving.specs.File.{state_file, state_bytes, state_cells, is_state}

-- the table's own count of cells
abbrev pub cell_count : List ℕ → ℕ
cell_count table = cells_before (circuit table) (nodes table)

-- n cells saved: 11, then "12, here also for a list of cells shorter than the count"; "a buffer longer than needed keeps its content past the needed part"
unfoldable pub saved_cells : ℕ → (cells file : List ℕ) → Outcome
saved_cells n cells file =
    pick (leb n most_cells)
    (pick (leb n (length cells) and leb (state_bytes n) (length file))
    (outcome (count (state_bytes n)) (state_file (take n cells) ++ drop (state_bytes n) file))
    (outcome (refused_all 12) file))
    (outcome (refused_all 11) file)

-- n cells restored: 11, then 18 "for a file that doesn't have this form or count", then 12; the cells past them stay
unfoldable pub restored_cells : ℕ → (file cells : List ℕ) → Outcome
restored_cells n file cells =
    pick (leb n most_cells)
    (pick (is_state n file)
    (pick (leb n (length cells))
    (outcome (count n) (state_cells n file ++ drop n cells))
    (outcome (refused_all 12) cells))
    (outcome (refused_all 18) cells))
    (outcome (refused_all 11) cells)

-- what the check's answer leaves of a call with this buffer: its refusal, or the call's own result
abbrev pub checked_by : Answer → List ℕ → Outcome → Outcome
checked_by (counts ks) buffer further = further
checked_by (refused r p) buffer further = outcome (refused r p) buffer

-- "Saving is given the table and is refused by its checks" first, and so is restoring: "Reading it back needs the accepted table"
unfoldable pub saved : (table cells file : List ℕ) → Outcome
saved table cells file = checked_by (checked table) file (saved_cells (cell_count table) cells file)

unfoldable pub restored : (table file cells : List ℕ) → Outcome
restored table file cells = checked_by (checked table) cells (restored_cells (cell_count table) file cells)
