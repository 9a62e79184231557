-- "If the file was saved after a load and nothing but runs of that table's code, later samples are those of a test never stopped, and the reading takes the
-- place of the load, the history going on from the saving."
use Rattle.std.specs.Prelude.{ℕ, ◌+◌, ◌≤◌, ◌≡◌, List, [], ◌∷◌, ◌++◌, take}
use Rattle.word.specs.Tick.{Words}
use Rattle.refusal.specs.Answer.{count}
use Rattle.refusal.specs.Answer.Answer.{counts}
use Rattle.cells.specs.Block.{ran_as}
use Rattle.cells.specs.Load.{loaded}
use Rattle.arity.specs.Table.{nodes, circuit}
use Rattle.arity.specs.Check.{checked}
use Rattle.signal.specs.Signal.{History}
use Rattle.calls.specs.Calls.{Call, Program, Element, OthersRefused, left, written, reported}
use Rattle.calls.specs.Law.{IsProgramOf, LawfulThroughout, history}
use Rattle.saving.specs.Saved.{cell_count, saved, restored}

-- a list of calls of a program that works the table's circuit, its code's runs or its walks, on a block after a past; then a saving, which is lent some of the
-- cells as the list has left them, each a word
pub record Saving (table : List ℕ) (past : History) (block : List ℕ) : Type 0 where
  pub work : Program
  pub works : IsProgramOf (nodes table) (circuit table) work
  pub list : List Element
  pub others : OthersRefused work 0 block list
  pub lent : ℕ
  pub words : Words (take lent (left work 0 block list))
  pub file : List ℕ
  pub bytes : ℕ
  pub accepted : (saved table (take lent (left work 0 block list)) file).answer ≡ count bytes

module _ {table : List ℕ} {past : History} {block : List ℕ} (s : Saving table past block) where
  -- the history at the saving
  abbrev pub history_at : History
  history_at = history (nodes table) (circuit table) s.work 0 past block s.list

  -- the bytes that it wrote
  abbrev pub saved_file : List ℕ
  saved_file = take s.bytes (saved table (take s.lent (left s.work 0 block s.list)) s.file).buffer

-- how a test of the table begins, with the history before it and the block that it then works on
pub data Begun (table : List ℕ) : History → List ℕ → Type 0 where
  -- "an empty history and the cells left by a load that named at least the table's count"
  load : (named : ℕ) (cells : List ℕ) → (loaded named cells).answer ≡ count named → cell_count table ≤ named → Begun table [] (loaded named cells).buffer
  -- "the reading takes the place of the load", into any memory, "the history going on from the saving"
  restore : {past : History} {block : List ℕ} → Begun table past block → (s : Saving table past block)
      → (cells : List ℕ) (n : ℕ) → (restored table (saved_file s) cells).answer ≡ count n → Begun table (history_at s) (restored table (saved_file s) cells).buffer

-- the one claim about a list of calls of a program, from a load or a restoring on
abbrev pub LawfulFromBeginning : List ℕ → Program → Type 0
LawfulFromBeginning table work = (past : History) (block : List ℕ) → Begun table past block
    → (list : List Element) → OthersRefused work 0 block list → LawfulThroughout (nodes table) (circuit table) work 0 past block list

-- an accepted table, and any program that works its circuit
abbrev pub FromBeginning : Type 0
FromBeginning = (table : List ℕ) (n m i d : ℕ) → checked table ≡ counts (n ∷ m ∷ i ∷ d ∷ []) → Words table
    → (work : Program) → IsProgramOf (nodes table) (circuit table) work → LawfulFromBeginning table work

-- "later samples are those of a test never stopped": the calls `later` on the block that was restored, beside one list that goes on with them
pub record NeverStopped {table : List ℕ} {past : History} {block : List ℕ} (s : Saving table past block) (block' : List ℕ) (later : List Element) : Type 0 where
  pub history : history (nodes table) (circuit table) s.work 0 (history_at s) block' later ≡ history (nodes table) (circuit table) s.work 0 past block (s.list ++ later)
  pub samples : written s.work 0 block s.list ++ written s.work 0 block' later ≡ written s.work 0 block (s.list ++ later)
  pub reports : reported s.work 0 block s.list + reported s.work 0 block' later ≡ reported s.work 0 block (s.list ++ later)
  pub cells : take (cell_count table) (left s.work 0 block' later) ≡ take (cell_count table) (left s.work 0 block (s.list ++ later))

-- after every beginning, saving and restoring; other calls among those that follow are refused on both blocks
abbrev pub GoesOn : Type 0
GoesOn = (table : List ℕ) (n m i d : ℕ) → checked table ≡ counts (n ∷ m ∷ i ∷ d ∷ []) → Words table
    → (past : History) (block : List ℕ) → Begun table past block → (s : Saving table past block)
    → (cells : List ℕ) (k : ℕ) → (restored table (saved_file s) cells).answer ≡ count k
    → (later : List Element) → OthersRefused s.work 0 (restored table (saved_file s) cells).buffer later → OthersRefused s.work 0 (left s.work 0 block s.list) later
    → NeverStopped s (restored table (saved_file s) cells).buffer later

-- a restoring in a list of calls, lent `lent` cells from `from` on: where it is refused it may lie between
abbrev pub restore_call : (table file : List ℕ) → (from lent : ℕ) → Call
restore_call table file from lent =
    record {
      from = from;
      lent = lent;
      outputs = [];
      work = λ cells. ran_as (restored table file cells).answer (restored table file cells).buffer [];
    }
