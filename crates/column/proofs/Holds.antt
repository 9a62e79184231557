-- Every column of a written file holds its number.
use Prim.Native.Nat.{ℕ, zero, suc, ◌+◌, ◌-◌, ◌*◌, ◌/◌, ◌≤◌, ◌<◌}
use mathlib.Core.Path.{◌≡◌, refl, sym, ap, subst, ◌∙◌}
use mathlib.Core.List.{List, ◌++◌, append_assoc}
use native.Mathlib.Nat.{zero-add, add-zero}
use native.Mathlib.Omega.{arith}
use lib.IntN.{ℤ, pos}
use lib.ListN.{length, get_or, drop}
use lib.Seq.{get_or-take, get_or-drop}
use Rattle.refusal.specs.Answer.{count}
use Rattle.word.specs.Word.{value}
use Rattle.word.specs.Tick.{Words}
use Rattle.number.specs.Laws.{ColumnHolds}
use Rattle.number.proofs.Written.{holds-behind, holds-before}
use Rattle.column.specs.File.{node, line_of, lines_from, writing}
use Rattle.column.specs.Laws.{FileHolds}
use Rattle.column.proofs.Writes.{words-node, node-length, line-length, lines-length}
use Rattle.column.proofs.LineText.{node-holds, entry-holds}
use Rattle.column.proofs.Refusing.{write-counted, even_count}

-- one line among others
lines_split : (table : List ℕ) (i k n : ℕ) → lines_from table i (k + suc n) ≡ lines_from table i k ++ (line_of table (i + k) ++ lines_from table (suc (i + k)) n)
lines_split table i zero n = rw (zero-add (suc n), add-zero i)
lines_split table i (suc k) n =
    let a : suc k + suc n ≡ suc (k + suc n) = omega arith in
    let b : suc i + k ≡ i + suc k = omega arith in
    rw a
    (ap (λ (t : List ℕ). line_of table i ++ t) (lines_split table (suc i) k n)
    ∙ sym (append_assoc (line_of table i) (lines_from table (suc i) k) (line_of table (suc i + k) ++ lines_from table (suc (suc i + k)) n))
    ∙ rw b)

module _ (table file : List ℕ) (b i : ℕ) (w : Words table) (e : (writing table file).answer ≡ count b) (h : 3 * i < length table) where
  sizes : (i < length table / 3) × ((length table / 3 ≤ 512) × (3 * (length table / 3) ≡ length table))
  sizes = let q = even_count table (write-counted table file b e).0 in (omega (arith, q.1.0), (q.1.1, omega (arith, q.1.0)))

  few : i < 512
  few = omega (arith, sizes.0, sizes.1.0)

  whole : 3 * i + 3 ≤ length table
  whole = omega (arith, sizes.0, sizes.1.1)

  -- what is behind line i
  abbrev behind : List ℕ
  behind = lines_from table (suc i) (length table / 3 - suc i) ++ drop b file

  parts : (writing table file).buffer ≡ lines_from table 0 i ++ (line_of table i ++ behind)
  parts =
      let k : length table / 3 ≡ i + suc (length table / 3 - suc i) = omega (arith, sizes.0) in
      let s : lines_from table 0 (length table / 3) ≡ lines_from table 0 i ++ (line_of table i ++ lines_from table (suc i) (length table / 3 - suc i)) =
      ap (lines_from table 0) k ∙ lines_split table 0 i (length table / 3 - suc i) ∙ rw (zero-add i) in
      (write-counted table file b e).1.1
      ∙ ap (λ (t : List ℕ). t ++ drop b file) s
      ∙ append_assoc (lines_from table 0 i) (line_of table i ++ lines_from table (suc i) (length table / 3 - suc i)) (drop b file)
      ∙ ap (λ (t : List ℕ). lines_from table 0 i ++ t) (append_assoc (line_of table i) (lines_from table (suc i) (length table / 3 - suc i)) (drop b file))

  -- a column of the line, in the file
  in_file : (from width : ℕ) (z : ℤ) (k : ℕ) → from + width ≤ 41 → k ≡ 41 * i + from → ColumnHolds (line_of table i) from width z → ColumnHolds (writing table file).buffer k width z
  in_file from width z k r q c =
      let l : length (line_of table i) ≡ 41 = line-length table i w few whole in
      let m : length (lines_from table 0 i) ≡ 41 * i = lines-length table 0 i w (omega (arith, few)) (omega (arith, whole)) in
      subst (λ (t : List ℕ). ColumnHolds t k width z) (sym parts)
      (holds-behind (lines_from table 0 i) (line_of table i ++ behind) (41 * i) from k width z m q (holds-before (line_of table i) behind from width z (omega arith) c))

  node-column : ColumnHolds (line_of table i) 0 4 (pos i)
  unfolding line_of
  node-column = node-holds i (node table i) few (words-node table i w) (node-length table i whole)

  entry-column : (j : ℕ) → j < 3 → ColumnHolds (line_of table i) (4 + 12 * j) 12 (value (get_or table (3 * i + j) 0))
  unfolding line_of
  entry-column j l =
      let g : get_or (node table i) j 0 ≡ get_or table (3 * i + j) 0 = get_or-take 3 (drop (3 * i) table) j 0 l ∙ get_or-drop (3 * i) table j 0 in
      subst (λ (x : ℕ). ColumnHolds (line_of table i) (4 + 12 * j) 12 (value x)) g (entry-holds i (node table i) few (words-node table i w) (node-length table i whole) j l)

pub file_holds : FileHolds
file_holds table file b i w e h =
    let p : 3 * i < length table = omega arith in (
      in_file table file b i w e p 0 4 (pos i) (41 * i) (omega arith) (omega arith) (node-column table file b i w e p),
      λ j l. in_file table file b i w e p (4 + 12 * j) 12 (value (get_or table (3 * i + j) 0)) (41 * i + (4 + 12 * j)) (omega arith) refl (entry-column table file b i w e p j (omega arith)),
    )
