-- The theorems of the translator: what the code of a circuit does, that it passes the code check, and what `translate` has written.
use Rattle.std.specs.Prelude.{ℕ, ◌≤◌, ◌≡◌, true, List, ◌++◌, length, take, drop}
use Rattle.word.specs.Limits.{widest, most_instructions, most_cells}
use Rattle.word.specs.Tick.{Tick, Words}
use Rattle.refusal.specs.Answer.{count}
use Rattle.refusal.specs.Outcome.{outcome}
use Rattle.arity.specs.Tree.{Tree, ins, outs, need}
use Rattle.arity.specs.Table.{nodes, circuit}
use Rattle.arity.specs.Nodes.{Complete, cells_before}
use Rattle.arity.specs.WellFormed.{WellFormed}
use Rattle.calls.specs.Step.{step}
use Rattle.flat.specs.Code.{encode, code_tick}
use Rattle.flat.specs.Check.{code_ok}
use Rattle.translator.specs.Translated.{translation, translated}
use Rattle.translator.specs.Translate.{numbers_of, translated_table}

-- from any cells, a tick of a circuit's code gives the outputs and leaves the cells of a tick of the circuit
abbrev pub TickRight : Type 0
TickRight = (n : ℕ) (t : Tree) (f : Tick) (cells : List ℕ) → WellFormed t → length f.inputs ≡ ins t
    → code_tick (translation n t) f cells ≡ step (cells_before t) t f cells

-- the code of a circuit of n nodes that refusals 8, 10 and 11 let pass never gets refusal 13
abbrev pub TranslationOk : Type 0
TranslationOk = (n : ℕ) (t : Tree) → WellFormed t → Complete n t → ins t ≤ widest → outs t ≤ widest → need t ≤ most_instructions → cells_before t n ≤ most_cells
    → code_ok (encode (translation n t)) ≡ true

-- where `translate` answers n, the first n numbers of the buffer are the code of the table
abbrev pub DeliversCode : (table code : List ℕ) → ℕ → (code' : List ℕ) → Type 0
DeliversCode table code n code' = outcome (count n) code' ≡ translated_table table code → Words table → take n code' ≡ translated table

-- there, refusals 10, 11 and 12 did not apply, and "a buffer longer than needed keeps its content past the needed part"
pub record Delivered (table code : List ℕ) (n : ℕ) (code' : List ℕ) : Type 0 where
  pub counted : n ≡ numbers_of table
  pub within : numbers_of table ≤ length code
  pub short : need (circuit table) ≤ most_instructions
  pub few : cells_before (circuit table) (nodes table) ≤ most_cells
  pub is : code' ≡ translated table ++ drop (numbers_of table) code
