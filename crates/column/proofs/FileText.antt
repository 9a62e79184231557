-- A file as its lines: lines that are right are the lines of their numbers, and the lines of a table are right and have its numbers.
use Prim.Native.Nat.{ℕ, zero, suc, ◌+◌, ◌*◌, ◌≤◌, ◌<◌}
use mathlib.Core.Path.{◌≡◌, refl, sym, ap, ap₂, ◌∙◌}
use mathlib.Core.Bool.{Bool, true, false}
use mathlib.Core.List.{List, [], ◌∷◌, ◌++◌, map, flatten, append_assoc}
use mathlib.Core.Option.{none}
use native.Mathlib.Omega.{arith}
use borrow.Author.Tests.{ne_eqb, eqb-true}
use lib.Dec.{eqb}
use lib.IntN.{ℤ, pos}
use lib.ListN.{length, get_or, take, drop, length-append}
use lib.Seq.{take_at, take-add, drop_at, drop-drop}
use Rattle.word.specs.Word.{value}
use Rattle.word.specs.Choice.{pick}
use Rattle.word.specs.Tick.{Words}
use Rattle.word.proofs.Lists.{first-true}
use Rattle.number.specs.Number.{column}
use Rattle.number.specs.Row.{line_feed, columns}
use Rattle.column.specs.Line.{node_line, lines, before, entries, line_refusal}
use Rattle.column.specs.File.{lines_refusal, table_of, node, line_of, lines_from}
use Rattle.number.proofs.NoFeed.{NoFeed, append_no_feed, column_no_feed, columns_no_feed}
use Rattle.column.proofs.Judged.{or_left, or_right}
use Rattle.column.proofs.Storing.{Right, line-right}
use Rattle.column.proofs.Writes.{words-node, node-length}
use Rattle.column.proofs.LineText.{right-again, node_line_right, node_line_entries}

-- a file is its lines
pub lines_join : (file : List ℕ) → flatten (lines file) ≡ file
unfolding lines flatten
lines_join [] = refl
lines_join (b ∷ bs) = go (eqb b line_feed) (lines_join bs)
  where
    joined : (ls : List (List ℕ)) → flatten (before b ls) ≡ b ∷ flatten ls
    joined [] = refl
    joined (l ∷ ls) = refl

    go : (t : Bool) → flatten (lines bs) ≡ bs → flatten (pick t ((b ∷ []) ∷ lines bs) (before b (lines bs))) ≡ b ∷ bs
    go true e = ap {B = List ℕ} (λ l. b ∷ l) e
    go false e = joined (lines bs) ∙ ap {B = List ℕ} (λ l. b ∷ l) e

-- lines that are right are the lines of their numbers
node_at : (pre es rest : List ℕ) (i : ℕ) → length pre ≡ 3 * i → length es ≡ 3 → line_of (pre ++ (es ++ rest)) i ≡ node_line i (map value es)
unfolding line_of
node_at pre es rest i e n = rw (drop_at pre (es ++ rest) (3 * i) e, take_at es rest 3 n)

pub lines-again : (pre : List ℕ) (i : ℕ) (ls : List (List ℕ)) → length pre ≡ 3 * i → lines_refusal i ls ≡ none → lines_from (pre ++ table_of ls) i (length ls) ≡ flatten ls
unfolding flatten
lines-again pre i [] e r = refl
lines-again pre i (l ∷ ls) e r =
    let q : Right i l = line-right i l (or_left (line_refusal i l) (lines_refusal (suc i) ls) r) in
    let k : length (pre ++ entries l) ≡ 3 * suc i = omega (arith, length-append pre (entries l)) in
    ap₂ {C = List ℕ} (λ x y. x ++ y) (node_at pre (entries l) (table_of ls) i e refl ∙ right-again i l q)
    (ap (λ (t : List ℕ). lines_from t (suc i) (length ls)) (sym (append_assoc pre (entries l) (table_of ls)))
    ∙ lines-again (pre ++ entries l) (suc i) ls k (or_right (line_refusal i l) (lines_refusal (suc i) ls) r))

-- how many they are, and how long
pub lines-few : (i : ℕ) (ls : List (List ℕ)) → i ≤ 512 → lines_refusal i ls ≡ none → i + length ls ≤ 512
lines-few i [] h r = omega arith
lines-few i (l ∷ ls) h r =
    let q : Right i l = line-right i l (or_left (line_refusal i l) (lines_refusal (suc i) ls) r) in
    let n : suc i + length ls ≤ 512 = lines-few (suc i) ls q.few (or_right (line_refusal i l) (lines_refusal (suc i) ls) r) in
    omega arith

pub lines-bytes : (i : ℕ) (ls : List (List ℕ)) → lines_refusal i ls ≡ none → length (flatten ls) ≡ 41 * length ls
unfolding flatten
lines-bytes i [] r = refl
lines-bytes i (l ∷ ls) r =
    let q : Right i l = line-right i l (or_left (line_refusal i l) (lines_refusal (suc i) ls) r) in
    let e : length l ≡ 41 = eqb-true (length l) 41 (first-true (eqb (length l) 41) (eqb (get_or l 40 0) line_feed) q.length-right) in
    let n : length (flatten ls) ≡ 41 * length ls = lines-bytes (suc i) ls (or_right (line_refusal i l) (lines_refusal (suc i) ls) r) in
    omega (arith, length-append l (flatten ls))

-- a line that is put before others is their first line
line_first : (body rest : List ℕ) → NoFeed body → lines (body ++ (line_feed ∷ rest)) ≡ (body ++ (line_feed ∷ [])) ∷ lines rest
unfolding lines
line_first [] rest p = refl
line_first (b ∷ body) rest p = rw (ne_eqb b line_feed p.0, line_first body rest p.1)

node_line_first : (i : ℕ) (zs : List ℤ) (rest : List ℕ) → lines (node_line i zs ++ rest) ≡ node_line i zs ∷ lines rest
unfolding node_line
node_line_first i zs rest =
    let p : NoFeed (column 4 (pos i) ++ columns zs) = append_no_feed (column 4 (pos i)) (columns zs) (column_no_feed 4 (pos i)) (columns_no_feed zs) in
    simp append_assoc (simp append_assoc at (line_first (column 4 (pos i) ++ columns zs) rest p))

-- the lines of n nodes from node i on, one by one
abbrev pub texts : List ℕ → ℕ → ℕ → List (List ℕ)
texts table i zero = []
texts table i (suc n) = line_of table i ∷ texts table (suc i) n

pub texts_lines : (table : List ℕ) (i n : ℕ) → lines (lines_from table i n) ≡ texts table i n
unfolding lines line_of
texts_lines table i zero = refl
texts_lines table i (suc n) =
    node_line_first i (map value (node table i)) (lines_from table (suc i) n) ∙ ap {B = List (List ℕ)} (λ ls. line_of table i ∷ ls) (texts_lines table (suc i) n)

pub texts_length : (table : List ℕ) (i n : ℕ) → length (texts table i n) ≡ n
texts_length table i zero = refl
texts_length table i (suc n) = ap suc (texts_length table (suc i) n)

pub texts_right : (table : List ℕ) (i n : ℕ) → Words table → i + n ≤ 512 → 3 * (i + n) ≤ length table → lines_refusal i (texts table i n) ≡ none
unfolding line_of
texts_right table i zero w h l = refl
texts_right table i (suc n) w h l =
    rw (node_line_right i (node table i) (omega arith) (words-node table i w) (node-length table i (omega arith))) (texts_right table (suc i) n w (omega arith) (omega arith))

line-entries : (table : List ℕ) (i : ℕ) → Words table → i < 512 → 3 * i + 3 ≤ length table → entries (line_of table i) ≡ node table i
unfolding line_of
line-entries table i w h l = node_line_entries i (node table i) h (words-node table i w) (node-length table i l)

pub texts_numbers : (table : List ℕ) (i n : ℕ) → Words table → i + n ≤ 512 → 3 * (i + n) ≤ length table → table_of (texts table i n) ≡ take (3 * n) (drop (3 * i) table)
texts_numbers table i zero w h l = refl
texts_numbers table i (suc n) w h l =
    let k : 3 * suc n ≡ 3 + 3 * n = omega arith in
    let m : 3 * i + 3 ≡ 3 * suc i = omega arith in
    rw (k, take-add 3 (3 * n) (drop (3 * i) table), drop-drop 3 (3 * i) table, m)
    (ap₂ {C = List ℕ} (λ x y. x ++ y) (line-entries table i w (omega arith) (omega arith)) (texts_numbers table (suc i) n w (omega arith) (omega arith)))
