-- Demand 3: "a single claim about the whole list of runs".
use Rattle.std.specs.Prelude.{ℕ, ◌≤◌, ◌≡◌, List, [], ◌∷◌, ℤ, take}
use Rattle.word.specs.Limits.{most_instructions, most_cells}
use Rattle.word.specs.Tick.{Words}
use Rattle.refusal.specs.Answer.{count}
use Rattle.refusal.specs.Answer.Answer.{counts, refused}
use Rattle.refusal.specs.Outcome.{outcome}
use Rattle.arity.specs.Table.{nodes, circuit}
use Rattle.arity.specs.Nodes.{cells_before}
use Rattle.arity.specs.Check.{checked}
use Rattle.calls.specs.Calls.{Arguments}
use Rattle.calls.specs.Law.{LawfulFromPast}
use Rattle.calls.specs.Loads.{LawfulFromLoad}
use Rattle.translator.specs.Translated.{translated}
use Rattle.translator.specs.Translate.{translated_table}
use Rattle.engine.specs.Runs.{run_of}

-- "Take any accepted table whose translation needs at most 2,048 instructions and 16,384 cells"
pub record Runnable (table : List ℕ) (cells : ℕ) : Type 0 where
  pub inputs : ℕ
  pub outputs : ℕ
  pub instructions : ℕ
  pub accepted : checked table ≡ counts (inputs ∷ outputs ∷ instructions ∷ cells ∷ [])
  pub words : Words table
  pub short : instructions ≤ most_instructions
  pub few : cells ≤ most_cells

-- ", and cells that a load has cleared for it, whatever they held before. For every list of runs of the translated code", with "any other refused calls, runs
-- of other code included," between, each lent the cells as the last left them: the law of the list, of its cut after each tick, and of ticks without demand.
abbrev pub Demand3 : List ℕ → Type 0
Demand3 table = (d : ℕ) → Runnable table d → LawfulFromLoad (nodes table) (circuit table) (run_of (translated table)) d

-- the same from any past, at any place of a block
abbrev pub RunsGoOn : List ℕ → Type 0
RunsGoOn table = (d : ℕ) → Runnable table d → LawfulFromPast (nodes table) (circuit table) (run_of (translated table))

-- "Their code is the translator's for the table and never gets refusal 13": from any cells
abbrev pub Never13 : List ℕ → Type 0
Never13 table = (d : ℕ) → Runnable table d → (a : Arguments) (cells : List ℕ) (p : ℤ) → (run_of (translated table) a cells).answer ≡ refused 13 p → ⊥

-- demand 3 of the numbers that `translate` has written, wherever it answers with a count
abbrev pub DeliveredRuns : List ℕ → Type 0
DeliveredRuns table = (code code' : List ℕ) (c : ℕ) → outcome (count c) code' ≡ translated_table table code → Words table
    → LawfulFromLoad (nodes table) (circuit table) (run_of (take c code')) (cells_before (circuit table) (nodes table))
