-- The lines of a table as they are written.
use Prim.Native.Nat.{ℕ, zero, suc, ◌+◌, ◌-◌, ◌*◌, ◌/◌, ◌%◌, ◌≤◌, ◌<◌}
use mathlib.Core.Path.{◌≡◌, refl, sym, ap, subst, ◌∙◌}
use mathlib.Core.List.{List, [], ◌++◌, map, append-nil}
use mathlib.Core.Option.{none}
use native.Mathlib.Numerals.{add-one}
use native.Mathlib.Omega.{arith}
use borrow.Author.Tests.{lt-ltb, le-ltb, eq-eqb, ne_eqb}
use lib.IntN.{pos}
use lib.ListN.{length, take, drop, length-append, length-drop, drop_of_length-le}
use lib.Seq.{length-take-le}
use Rattle.refusal.specs.Answer.{count, refused_at, refused_all}
use Rattle.refusal.specs.Outcome.{outcome}
use Rattle.word.specs.Word.{value}
use Rattle.word.specs.Tick.{Words}
use Rattle.word.proofs.Each.{words_take, words-drop}
use Rattle.word.proofs.Low.{value-small}
use Rattle.number.specs.Number.{numeral, column}
use Rattle.number.specs.Row.{columns, row}
use Rattle.number.specs.Laws.{ColumnWritten}
use Rattle.number.specs.Put.{Put}
use Rattle.number.proofs.Decimal.{decimal-length}
use Rattle.number.proofs.Texts.{column-length}
use Rattle.number.proofs.Put.{numeral-small}
use Rattle.number.proofs.RowText.{columns-length}
use Rattle.number.proofs.Stores.{part-put, begins_of}
use Rattle.number.proofs.Filling.{Filling, filling_start, filling_next, filling_end}
use Rattle.column.specs.Line.{node_line}
use Rattle.column.specs.File.{node, line_of, lines_from, count_refusal, writing}

-- every node number has room in 4 columns
pub node-room : (i : ℕ) → i < 512 → length (numeral (value i)) ≤ 4
node-room i h = rw (numeral-small i (omega arith)) (decimal-length i 4 (omega arith) (omega arith))

pub words-node : (table : List ℕ) (i : ℕ) → Words table → Words (node table i)
words-node table i w = words_take 3 (drop (3 * i) table) (words-drop (3 * i) table w)

pub node-length : (table : List ℕ) (i : ℕ) → 3 * i + 3 ≤ length table → length (node table i) ≡ 3
node-length table i h = length-take-le 3 (drop (3 * i) table) (rw (length-drop (3 * i) table) (omega arith))

-- a line: the node number, the three numbers, a line feed
pub node_line_length : (i : ℕ) (ws : List ℕ) → i < 512 → Words ws → length ws ≡ 3 → length (node_line i (map value ws)) ≡ 41
unfolding node_line
node_line_length i ws h w n =
    let e : length (column 4 (pos i)) ≡ 4 = column-length 4 (pos i) (rw (value-small i (omega arith)) at (node-room i h)) in
    let c : length (columns (map value ws)) ≡ 36 = columns-length ws w ∙ ap (λ (k : ℕ). 12 * k) n in
    simp (length-append, e, c)

pub line-length : (table : List ℕ) (i : ℕ) → Words table → i < 512 → 3 * i + 3 ≤ length table → length (line_of table i) ≡ 41
unfolding line_of
line-length table i w h l = node_line_length i (node table i) h (words-node table i w) (node-length table i l)

-- the number by the law of a column, and the row of the three behind it
pub node_line_put : (table : List ℕ) (i : ℕ) (line line₁ row₁ : List ℕ) → i < 512 → length line₁ ≡ 41 → ColumnWritten line 0 4 (value i) line₁ →
    row₁ ≡ row (map value (take (3 * i + 3 - 3 * i) (drop (3 * i) table))) → take 4 line₁ ++ (row₁ ++ drop 37 (drop 4 line₁)) ≡ line_of table i
unfolding line_of node_line
node_line_put table i line line₁ row₁ h l c e =
    let n : 3 * i + 3 - 3 * i ≡ 3 = omega arith in
    let k : length (drop 4 line₁) ≤ 37 = rw (length-drop 4 line₁) (omega arith) in
    let end : drop 37 (drop 4 line₁) ≡ [] = drop_of_length-le (drop 4 line₁) k in
    rw (end, append-nil row₁, e, n, ← value-small i (omega arith)) (ap (λ (t : List ℕ). t ++ row (map value (node table i))) c.holds.text)

pub lines-length : (table : List ℕ) (i n : ℕ) → Words table → i + n ≤ 512 → 3 * (i + n) ≤ length table → length (lines_from table i n) ≡ 41 * n
lines-length table i zero w h l = refl
lines-length table i (suc n) w h l =
    length-append (line_of table i) (lines_from table (suc i) n)
    ∙ rw (line-length table i w (omega arith) (omega arith), lines-length table (suc i) n w (omega arith) (omega arith)) (omega arith)

-- the lines from `node` on are left to be written
pub record Writing (table : List ℕ) (nodes : ℕ) (file₀ file : List ℕ) (node : ℕ) : Type 0 where
  pub few : node ≤ nodes
  pub fill : Filling (lines_from table 0 nodes) file₀ 0 (lines_from table node (nodes - node)) file (41 * node)

pub writing_starts : (table : List ℕ) (nodes : ℕ) (file : List ℕ) → Writing table nodes file file 0
writing_starts table nodes file =
    let z : nodes - 0 ≡ nodes = omega arith in
    record { few = omega arith; fill = subst (λ (n : ℕ). Filling (lines_from table 0 nodes) file 0 (lines_from table 0 n) file 0) (sym z) (filling_start (lines_from table 0 nodes) file 0) }

-- the next line, in the part of the file that is lent for it
pub writing-next : (table : List ℕ) (nodes : ℕ) (file₀ file : List ℕ) (i : ℕ) (line : List ℕ) → Words table → nodes ≤ 512 → 3 * nodes ≤ length table → 41 * nodes ≤ length file₀ → i < nodes → line ≡ line_of table i →
    Writing table nodes file₀ file i → Writing table nodes file₀ (take (41 * i) file ++ (line ++ drop (41 * i + 41 - 41 * i) (drop (41 * i) file))) (i + 1)
writing-next table nodes file₀ file i line w m t r h e p =
    let k : nodes - i ≡ suc (nodes - (i + 1)) = omega arith in
    let a : 41 * i + 41 ≡ 41 * (i + 1) = omega arith in
    let l : length (line_of table i) ≡ 41 = line-length table i w (omega arith) (omega arith) in
    let left : List ℕ = lines_from table (i + 1) (nodes - (i + 1)) in
    let split : lines_from table i (nodes - i) ≡ line_of table i ++ left = rw (k, add-one i) in
    let file' : List ℕ = take (41 * i) file ++ (line ++ drop (41 * i + 41 - 41 * i) (drop (41 * i) file)) in
    let q : Put (line_of table i) file (41 * i) (41 * i + 41) file' = part-put (line_of table i) file line (41 * i) (41 * i + 41) (omega arith) (omega (arith, p.fill.long)) e in
    record { few = omega arith; fill = subst (λ (n : ℕ). Filling (lines_from table 0 nodes) file₀ 0 left file' n) a (filling_next p.fill (line_of table i) left split q) }

pub writing_ends : (table : List ℕ) (nodes : ℕ) (file₀ file : List ℕ) (node : ℕ) → Words table → nodes ≤ 512 → 3 * nodes ≤ length table → nodes ≤ node → 41 * nodes ≤ length file₀ →
    Writing table nodes file₀ file node → file ≡ lines_from table 0 nodes ++ drop (41 * nodes) file₀
writing_ends table nodes file₀ file node w m t h r p =
    let n : node ≡ nodes = omega (arith, p.few) in
    let z : nodes - nodes ≡ 0 = omega arith in
    let l : length (lines_from table 0 nodes) ≡ 41 * nodes = lines-length table 0 nodes w (omega arith) (omega arith) in
    let f : Filling (lines_from table 0 nodes) file₀ 0 [] file (41 * nodes) = rw (n, z) at p.fill in
    (begins_of (lines_from table 0 nodes) file₀ (41 * nodes) file (filling_end (omega arith) f)).put

-- the whole call
module _ (table file : List ℕ) where
  pub write-empty : length table ≡ 0 → outcome (refused_at 3 0) file ≡ writing table file
  unfolding writing count_refusal
  write-empty h = rw (eq-eqb (length table) 0 h)

  module _ (Some-number : length table ≡ 0 → ⊥) where
    pub write-uneven : (length table % 3 ≡ 0 → ⊥) → outcome (refused_at 3 0) file ≡ writing table file
    unfolding writing count_refusal
    write-uneven h = rw (ne_eqb (length table) 0 Some-number, ne_eqb (length table % 3) 0 h)

    module _ (even : length table % 3 ≡ 0) where
      pub write_many : 512 < length table / 3 → outcome (refused_at 3 512) file ≡ writing table file
      unfolding writing count_refusal
      write_many h = rw (ne_eqb (length table) 0 Some-number, eq-eqb (length table % 3) 0 even, lt-ltb 512 (length table / 3) h)

      module _ (few : length table / 3 ≤ 512) where
        pub count-right : count_refusal table ≡ none
        unfolding count_refusal
        count-right = rw (ne_eqb (length table) 0 Some-number, eq-eqb (length table % 3) 0 even, le-ltb 512 (length table / 3) few)

        pub write-short : length file < 41 * (length table / 3) → outcome (refused_all 12) file ≡ writing table file
        unfolding writing
        write-short h = rw (count-right, lt-ltb (length file) (41 * (length table / 3)) h)

        pub write-put : (file' : List ℕ) → 41 * (length table / 3) ≤ length file → file' ≡ lines_from table 0 (length table / 3) ++ drop (41 * (length table / 3)) file →
            outcome (count (41 * (length table / 3))) file' ≡ writing table file
        unfolding writing
        write-put file' h e = rw (count-right, le-ltb (length file) (41 * (length table / 3)) h, e)
