-- The translator: the complete result of one call, its answer and the code buffer after it.
use Rattle.std.specs.Prelude.{ℕ, ◌+◌, ◌≤◌, ◌≡◌, List, ◌++◌, leb, length, drop}
use Rattle.word.specs.Choice.{pick}
use Rattle.word.specs.Limits.{most_instructions, most_cells}
use Rattle.refusal.specs.Answer.{Answer, count, refused_all}
use Rattle.refusal.specs.Answer.Answer.{counts, refused}
use Rattle.refusal.specs.Outcome.{Outcome, outcome}
use Rattle.arity.specs.Tree.{ins, outs, need}
use Rattle.arity.specs.Table.{nodes, circuit}
use Rattle.arity.specs.Nodes.{cells_before}
use Rattle.arity.specs.Check.{checked}
use Rattle.arity.specs.Ready.{Promising}
use Rattle.arity.specs.declared.counts.Counts.{Counts}
use Rattle.walker.specs.Ready.{base}
use Rattle.flat.specs.Code.{results_at}
use Rattle.translator.specs.Translated.{translated}

-- E4: "4+6c+m" numbers, c being the instructions needed
abbrev pub numbers_of : List ℕ → ℕ
numbers_of table = results_at (need (circuit table)) + outs (circuit table)

-- 10, then 11, then 12; else the code, and "a buffer longer than needed keeps its content past the needed part"
unfoldable pub translates : List ℕ → List ℕ → Outcome
translates table code =
    pick (leb (need (circuit table)) most_instructions)
    (pick (leb (cells_before (circuit table) (nodes table)) most_cells)
    (pick (leb (numbers_of table) (length code))
    (outcome (count (numbers_of table)) (translated table ++ drop (numbers_of table) code))
    (outcome (refused_all 12) code))
    (outcome (refused_all 11) code))
    (outcome (refused_all 10) code)

-- what the check's answer leaves: its refusal, or the translation of the table's circuit
abbrev pub translated_by : Answer → List ℕ → List ℕ → Outcome
translated_by (counts ks) table code = translates table code
translated_by (refused r p) table code = outcome (refused r p) code

-- "Translator: table, 10, 11, 12"
unfoldable pub translated_table : List ℕ → List ℕ → Outcome
translated_table table = translated_by (checked table) table

-- an accepted table with the counts of its circuit
pub record Counted (table : List ℕ) (k : Counts) : Type 0 where
  pub promising : Promising table
  pub least : 1 ≤ nodes table
  pub inputs_are : k.inputs ≡ ins (circuit table)
  pub outputs_are : k.outputs ≡ outs (circuit table)
  pub instructions_are : k.instructions ≡ need (circuit table)
  pub cells_are : k.cells ≡ base table (nodes table)

-- what the instructions of a circuit ask: it is not too large, and there is room for them and for the output registers
pub record Headed (table : List ℕ) (k : Counts) (code : List ℕ) : Type 0 where
  pub promising : Promising table
  pub least : 1 ≤ nodes table
  pub instructions : need (circuit table) ≤ most_instructions
  pub inputs_are : k.inputs ≡ ins (circuit table)
  pub outputs_are : k.outputs ≡ outs (circuit table)
  pub room : numbers_of table ≤ length code
