-- The laws at their borders: a premise that asked for more, or a conclusion that said less, would fail here.
use Prim.Native.Nat.{ℕ, ◌+◌}
use mathlib.Core.Path.{◌≡◌, refl}
use mathlib.Core.Bool.{true}
use mathlib.Core.List.{List, [], ◌∷◌, ◌++◌}
use native.Mathlib.Omega.{arith}
use lib.ListN.{length, take, drop}
use Rattle.word.specs.Tick.{Words}
use Rattle.word.specs.Word.{value}
use Rattle.refusal.specs.Answer.{count}
use Rattle.refusal.specs.Answer.Answer.{counts}
use Rattle.refusal.specs.Outcome.{outcome}
use Rattle.cells.specs.Load.{loaded}
use Rattle.arity.specs.Table.{nodes, circuit}
use Rattle.arity.specs.Check.{checked}
use Rattle.number.specs.Number.{digits, decimal, numeral, column}
use Rattle.calls.specs.Calls.{Program, Element, OthersRefused, left, written, reported}
use Rattle.calls.specs.Law.{IsProgramOf, LawfulThroughout}
use Rattle.saving.specs.File.{state_file, state_cells, is_state}
use Rattle.saving.specs.Saved.{cell_count, saved, restored}
use Rattle.saving.specs.Tests.{Saving, history_at, saved_file, Begun}
use Rattle.saving.specs.Tests.Begun.{load, restore}
use Rattle.saving.proofs.Again.{state_law, cells-again, file-again}
use Rattle.saving.proofs.Tests.{from_beginning, goes_on}

-- two cells, 7 and -2147483648, by the byte
two_cells : state_file (7 ∷ 2147483648 ∷ [])
    ≡ 32 ∷ 32 ∷ 32 ∷ 32 ∷ 32 ∷ 32 ∷ 32 ∷ 32 ∷ 32 ∷ 32 ∷ 32 ∷ 50 ∷ 10
    ∷ 32 ∷ 32 ∷ 32 ∷ 32 ∷ 32 ∷ 32 ∷ 32 ∷ 32 ∷ 32 ∷ 32 ∷ 32 ∷ 55 ∷ 10
    ∷ 32 ∷ 45 ∷ 50 ∷ 49 ∷ 52 ∷ 55 ∷ 52 ∷ 56 ∷ 51 ∷ 54 ∷ 52 ∷ 56 ∷ 10 ∷ []
unfolding state_file value column numeral decimal digits
two_cells = refl

-- 16,384 cells: a file that passes holds as many words, and is their file
most-cells : (file : List ℕ) → is_state 16384 file ≡ true → (cells : List ℕ) × ((length cells ≡ 16384) × (Words cells × ((state_file cells ≡ file) × (state_cells 16384 file ≡ cells))))
most-cells file e = let (cells, f) = (state_law 16384 file (omega arith)).0 e in (cells, (f.many, (f.words, (f.bytes, f.held))))

most_pass : (cells : List ℕ) → length cells ≡ 16384 → Words cells → (file : List ℕ) → state_file cells ≡ file → state_cells 16384 file ≡ cells → is_state 16384 file ≡ true
most_pass cells l w file b h = (state_law 16384 file (omega arith)).1 (cells, record { many = l; words = w; bytes = b; held = h })

-- just as many cells to restore into, and just as many bytes to save into again
module _ (table cells file cells' : List ℕ) (b : ℕ) (w : Words cells) (e : (saved table cells file).answer ≡ count b) (l : length cells' ≡ cell_count table) where
  same-cells : restored table (take b (saved table cells file).buffer) cells' ≡ outcome (count (cell_count table)) (take (cell_count table) cells ++ drop (cell_count table) cells')
  same-cells = cells-again table cells file cells' b w e (omega arith)

module _ (table file cells out : List ℕ) (n : ℕ) (e : (restored table file cells).answer ≡ count n) (l : length out ≡ length file) where
  same_bytes : saved table (restored table file cells).buffer out ≡ outcome (count (length file)) (file ++ drop (length file) out)
  same_bytes = file-again table file cells out n e (omega arith)

-- a load that named just the table's cells, any list, a saving, and a restoring into any cells; then any list again, of another program too
module _ (table : List ℕ) (n m i d : ℕ) (k : checked table ≡ counts (n ∷ m ∷ i ∷ d ∷ [])) (w : Words table)
    (cells : List ℕ) (e : (loaded (cell_count table) cells).answer ≡ count (cell_count table)) where
  begun : Begun table [] (loaded (cell_count table) cells).buffer
  begun = load (cell_count table) cells e (omega arith)

  module _ (s : Saving table [] (loaded (cell_count table) cells).buffer) (cells' : List ℕ) (j : ℕ) (r : (restored table (saved_file s) cells').answer ≡ count j) where
    abbrev block' : List ℕ
    block' = (restored table (saved_file s) cells').buffer

    restored_lawful : (work : Program) → IsProgramOf (nodes table) (circuit table) work → (list : List Element) → OthersRefused work 0 block' list
        → LawfulThroughout (nodes table) (circuit table) work 0 (history_at s) block' list
    restored_lawful work same = from_beginning table n m i d k w work same (history_at s) block' (restore begun s cells' j r)

    -- and once more
    again_lawful : (u : Saving table (history_at s) block') (cells'' : List ℕ) (j' : ℕ) → (restored table (saved_file u) cells'').answer ≡ count j'
        → (work : Program) → IsProgramOf (nodes table) (circuit table) work → (list : List Element) → OthersRefused work 0 (restored table (saved_file u) cells'').buffer list
        → LawfulThroughout (nodes table) (circuit table) work 0 (history_at u) (restored table (saved_file u) cells'').buffer list
    again_lawful u cells'' j' q work same = from_beginning table n m i d k w work same (history_at u) (restored table (saved_file u) cells'').buffer (restore (restore begun s cells' j r) u cells'' j' q)

    -- beside a test never stopped
    module _ (later : List Element) (o₁ : OthersRefused s.work 0 block' later) (o₂ : OthersRefused s.work 0 (left s.work 0 (loaded (cell_count table) cells).buffer s.list) later) where
      abbrev block : List ℕ
      block = (loaded (cell_count table) cells).buffer

      never_stopped : (written s.work 0 block s.list ++ written s.work 0 block' later ≡ written s.work 0 block (s.list ++ later))
          × (reported s.work 0 block s.list + reported s.work 0 block' later ≡ reported s.work 0 block (s.list ++ later))
          × (take (cell_count table) (left s.work 0 block' later) ≡ take (cell_count table) (left s.work 0 block (s.list ++ later)))
      never_stopped = let g = goes_on table n m i d k w [] block begun s cells' j r later o₁ o₂ in (g.samples, g.reports, g.cells)
