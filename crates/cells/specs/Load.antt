-- "A load sets the named count of cells to 0 and touches no others."
use Rattle.std.specs.Prelude.{ℕ, List, ◌++◌, length, drop, leb}
use Rattle.word.specs.Choice.{pick}
use Rattle.word.specs.Limits.{most_cells}
use Rattle.word.specs.Tick.{zeros}
use Rattle.refusal.specs.Answer.{count, refused_all}
use Rattle.refusal.specs.Outcome.{Outcome, outcome}

-- the complete result of a load: "Load: 11, 12"; a refusal changes nothing
unfoldable pub loaded : ℕ → List ℕ → Outcome
loaded named cells =
    pick (leb named most_cells)
    (pick (leb named (length cells))
    (outcome (count named) (zeros named ++ drop named cells))
    (outcome (refused_all 12) cells))
    (outcome (refused_all 11) cells)
