-- What a column holds, and the law of a column that is written.
use Prim.Native.Nat.{ℕ, ◌+◌, ◌^◌, ◌≤◌, ◌<◌}
use mathlib.Core.Path.{◌≡◌, sym, ap₂, ◌∙◌}
use mathlib.Core.Bool.{true}
use mathlib.Core.List.{List, ◌++◌, append_assoc}
use native.Mathlib.Omega.{arith}
use lib.IntN.{ℤ}
use lib.ListN.{length, take, drop, take-append-drop, length-drop}
use lib.Seq.{sets, sets-eq, take_at, drop_at, drop-drop, drop-append-add, take-append-le, drop-append-le, length-take-le}
use Rattle.word.specs.Word.{value}
use Rattle.number.specs.Number.{numeral, column, fits}
use Rattle.number.specs.Laws.{ColumnHolds, ColumnWritten, ColumnLaw}
use Rattle.number.proofs.Texts.{column-length, column-read}
use Rattle.number.proofs.Room.{value-fits}

pub drop_past : (xs ys : List ℕ) (n m k : ℕ) → length xs ≡ n → k ≡ n + m → drop k (xs ++ ys) ≡ drop m ys
drop_past xs ys n m k e q = rw (q, ← e) (drop-append-add xs ys m)

-- what stands in a column and is a number's text is read as that number
pub text-holds : (line : List ℕ) (from width : ℕ) (z : ℤ) → length (numeral z) ≤ width → fits z ≡ true → take width (drop from line) ≡ column width z → ColumnHolds line from width z
text-holds line from width z room f t = record { text = t; number = rw t (column-read width z room f) }

-- a column behind something else
pub holds-behind : (front line : List ℕ) (n from k width : ℕ) (z : ℤ) → length front ≡ n → k ≡ n + from → ColumnHolds line from width z → ColumnHolds (front ++ line) k width z
holds-behind front line n from k width z e q c =
    let d : drop k (front ++ line) ≡ drop from line = drop_past front line n from k e q in
    record { text = rw d c.text; number = rw d c.number }

-- and before it
pub holds-before : (line rest : List ℕ) (from width : ℕ) (z : ℤ) → from + width ≤ length line → ColumnHolds line from width z → ColumnHolds (line ++ rest) from width z
holds-before line rest from width z h c =
    let d : drop from (line ++ rest) ≡ drop from line ++ rest = drop-append-le from line rest (omega arith) in
    let t : take width (drop from (line ++ rest)) ≡ take width (drop from line) = rw d (take-append-le width (drop from line) rest (rw (length-drop from line) (omega arith))) in
    record { text = t ∙ c.text; number = rw t c.number }

pub column_law : ColumnLaw
column_law line line' from width z h room f = (only, stored)
  where
    wide : length (column width z) ≡ width
    wide = column-length width z (omega arith)

    parts : sets line from (column width z) ≡ take from line ++ (column width z ++ drop (from + width) line)
    parts = sets-eq (column width z) line from (omega (arith, wide)) ∙ append_assoc (take from line) (column width z) (drop (from + length (column width z)) line) ∙ rw wide

    only : ColumnWritten line from width z line' → line' ≡ sets line from (column width z)
    only w =
        let tail : drop from line' ≡ column width z ++ drop (from + width) line =
        sym (take-append-drop width (drop from line')) ∙ ap₂ {C = List ℕ} (λ x y. x ++ y) w.holds.text (drop-drop width from line' ∙ w.behind) in
        sym (take-append-drop from line') ∙ ap₂ {C = List ℕ} (λ x y. x ++ y) w.before tail ∙ sym parts

    stored : line' ≡ sets line from (column width z) → ColumnWritten line from width z line'
    stored e =
        let p : line' ≡ take from line ++ (column width z ++ drop (from + width) line) = e ∙ parts in
        let l : length (take from line) ≡ from = length-take-le from line (omega arith) in
        let d : drop from line' ≡ column width z ++ drop (from + width) line = rw p (drop_at (take from line) (column width z ++ drop (from + width) line) from l) in
        record {
          holds = text-holds line' from width z (omega arith) f (rw d (take_at (column width z) (drop (from + width) line) width wide));
          before = rw p (take_at (take from line) (column width z ++ drop (from + width) line) from l);
          behind = sym (drop-drop width from line') ∙ rw d (drop_at (column width z) (drop (from + width) line) width wide);
        }

-- of a word's number
module _ {line line' : List ℕ} {from width word : ℕ} (h : from + width ≤ length line) (room : length (numeral (value word)) ≤ width) (b : word < 2 ^ 32) where
  pub word_written : line' ≡ sets line from (column width (value word)) → ColumnWritten line from width (value word) line'
  word_written = (column_law line line' from width (value word) h room (value-fits word b)).1

  pub word_stored : ColumnWritten line from width (value word) line' → line' ≡ sets line from (column width (value word))
  word_stored = (column_law line line' from width (value word) h room (value-fits word b)).0
