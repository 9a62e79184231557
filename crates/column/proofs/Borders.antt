-- The laws at their borders: a premise that asked for more, or a conclusion that said less, would fail here.
use Prim.Native.Nat.{ℕ, ◌/◌}
use mathlib.Core.Path.{◌≡◌, refl, ap, ◌∙◌}
use mathlib.Core.List.{List, ◌++◌}
use native.Mathlib.Omega.{arith}
use lib.IntN.{pos}
use lib.ListN.{length, get_or, take, drop}
use Rattle.refusal.specs.Answer.{count}
use Rattle.refusal.specs.Outcome.{Outcome, outcome}
use Rattle.word.specs.Word.{value}
use Rattle.word.specs.Tick.{Words}
use Rattle.number.specs.Laws.{ColumnHolds}
use Rattle.column.specs.File.{file_refusal, reading, writing}
use Rattle.column.proofs.Holds.{file_holds}
use Rattle.column.proofs.RoundTrip.{write-nodes, file_again, table-again}
use Rattle.column.proofs.Prefix.{prefix_decides, prefix_reads}

-- 512 nodes, and buffers that are just long enough
largest_file : (file table out : List ℕ) → length file ≡ 20992 → length out ≡ 20992 → (reading file table).answer ≡ count 512
    → writing (take 1536 (reading file table).buffer) out ≡ outcome (count 20992) (file ++ drop 20992 out)
largest_file file table out f o e = file_again file table out 512 e (omega arith) ∙ ap (λ (k : ℕ). outcome (count k) (file ++ drop k out)) f

largest_written : (table file : List ℕ) → length table ≡ 1536 → length file ≡ 20992 → (writing table file).answer ≡ count 20992
largest_written table file t f = ap (λ (o : Outcome). o.answer) (write-nodes table file _ 512 20992 t (omega arith) (omega arith) refl refl (omega arith))

largest_table : (table file buffer : List ℕ) → Words table → length table ≡ 1536 → length file ≡ 20992 → length buffer ≡ 1536
    → reading (take 20992 (writing table file).buffer) buffer ≡ outcome (count 512) (table ++ drop 1536 buffer)
largest_table table file buffer w t f b =
    table-again table file buffer 20992 w (largest_written table file t f) (omega arith) ∙ ap (λ (k : ℕ). outcome (count (k / 3)) (table ++ drop k buffer)) t

-- the first and the last column of that file
first-column : (table file : List ℕ) → Words table → length table ≡ 1536 → length file ≡ 20992 → ColumnHolds (writing table file).buffer 0 4 (pos 0)
first-column table file w t f = (file_holds table file 20992 0 w (largest_written table file t f) (omega arith)).0

last-column : (table file : List ℕ) → Words table → length table ≡ 1536 → length file ≡ 20992 → ColumnHolds (writing table file).buffer 20979 12 (value (get_or table 1535 0))
last-column table file w t f = (file_holds table file 20992 511 w (largest_written table file t f) (omega arith)).1 2 (omega arith)

-- 512 lines and a byte more
enough_decides : (file : List ℕ) → file_refusal (take 20993 file) ≡ file_refusal file
enough_decides = (prefix_decides 20993).1 (omega arith)

less_does_not : ((file : List ℕ) → file_refusal (take 20992 file) ≡ file_refusal file) → ⊥
less_does_not f = omega (arith, (prefix_decides 20992).0 f)

enough_reads : (file table : List ℕ) → reading (take 20993 file) table ≡ reading file table
enough_reads file table = prefix_reads 20993 file table (omega arith)
