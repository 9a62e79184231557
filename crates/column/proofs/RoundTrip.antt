-- The round trips, over the definitions that the contracts of `read` and `write` cite.
use Prim.Native.Nat.{ℕ, ◌*◌, ◌/◌, ◌≤◌, ◌<◌}
use mathlib.Core.Path.{◌≡◌, refl, sym, ap, ◌∙◌}
use mathlib.Core.List.{List, [], ◌++◌}
use mathlib.Core.Option.{none}
use native.Mathlib.Omega.{arith}
use borrow.Author.Tests.{le-ltb, ne_eqb}
use lib.ListN.{length, take, drop}
use lib.Seq.{take_at, take_all}
use Rattle.refusal.specs.Answer.{count}
use Rattle.refusal.specs.Outcome.{outcome}
use Rattle.column.specs.Line.{lines}
use Rattle.column.specs.File.{lines_refusal, file_refusal, table_of, reading, lines_from, writing}
use Rattle.column.specs.Laws.{FileAgain, TableAgain}
use Rattle.column.proofs.Storing.{file_right, numbers-length}
use Rattle.column.proofs.Writes.{lines-length, write-put}
use Rattle.column.proofs.Refusing.{read-counted, write-counted, some-line, even_count}
use Rattle.column.proofs.FileText.{lines_join, lines-again, lines-few, lines-bytes, texts, texts_lines, texts_length, texts_right, texts_numbers}

-- the calls on n nodes that are right
pub write-nodes : (table out text : List ℕ) (n b : ℕ) → length table ≡ 3 * n → 0 < n → n ≤ 512 → lines_from table 0 n ≡ text → 41 * n ≡ b → b ≤ length out → writing table out ≡ outcome (count b) (text ++ drop b out)
write-nodes table out text n b e h f t c r =
    let d : length table / 3 ≡ n = omega arith in
    sym (write-put table out (λ q. omega arith) (omega arith) (omega arith) (lines_from table 0 (length table / 3) ++ drop (41 * (length table / 3)) out) (omega arith) refl)
    ∙ rw (d, t, c)

read-nodes : (file table : List ℕ) (n : ℕ) → lines_refusal 0 (lines file) ≡ none → length (lines file) ≡ n → 0 < n → 3 * n ≤ length table → reading file table ≡ outcome (count n) (table_of (lines file) ++ drop (3 * n) table)
unfolding reading file_refusal
read-nodes file table n r e h l = rw (e, ne_eqb n 0 (omega arith), r, le-ltb (length table) (3 * n) l)

pub file_again : FileAgain
file_again file table out n e h =
    let r = read-counted file table n e in
    let ok : lines_refusal 0 (lines file) ≡ none = file_right file r.0 in
    let k : length (lines file) ≡ n = r.1.0 in
    let t : List ℕ = table_of (lines file) in
    let m : length t ≡ 3 * n = numbers-length (lines file) ∙ ap (λ (k : ℕ). 3 * k) k in
    let s : take (3 * n) (reading file table).buffer ≡ t = ap (take (3 * n)) r.1.1 ∙ take_at t (drop (3 * n) table) (3 * n) m in
    let z : length (lines file) ≡ 0 → ⊥ = some-line file r.0 in
    rw s
    (write-nodes t out file n (length file) m (omega arith) (omega (arith, lines-few 0 (lines file) (omega arith) ok))
    (ap (lines_from t 0) (sym k) ∙ lines-again [] 0 (lines file) refl ok ∙ lines_join file)
    (ap (λ (k : ℕ). 41 * k) (sym k) ∙ sym (lines-bytes 0 (lines file) ok) ∙ ap length (lines_join file))
    h)

pub table-again : TableAgain
table-again table file buffer b w e h =
    let n : ℕ = length table / 3 in
    let p = write-counted table file b e in
    let q = even_count table p.0 in
    let t : List ℕ = lines_from table 0 n in
    let l : 3 * n ≡ length table = omega (arith, q.1.0) in
    let z : 0 < n = omega (arith, q.0, q.1.0) in
    let f : take b (writing table file).buffer ≡ t = ap (take b) p.1.1 ∙ take_at t (drop b file) b (lines-length table 0 n w (omega (arith, q.1.1)) (omega arith) ∙ p.1.0) in
    let ls : lines t ≡ texts table 0 n = texts_lines table 0 n in
    let r : lines_refusal 0 (lines t) ≡ none = rw ls (texts_right table 0 n w (omega (arith, q.1.1)) (omega arith)) in
    let k : length (lines t) ≡ n = rw ls (texts_length table 0 n) in
    let m : table_of (lines t) ≡ table = rw ls (texts_numbers table 0 n w (omega (arith, q.1.1)) (omega arith) ∙ take_all (3 * n) table (omega arith)) in
    rw f (read-nodes t buffer n r k z (omega arith) ∙ rw (m, l))
