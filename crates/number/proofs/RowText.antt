-- Numbers in columns of 12: how long they are, each of them, and a line of them as it is written.
use Prim.Native.Nat.{ℕ, zero, suc, ◌+◌, ◌*◌, ◌^◌, ◌≤◌, ◌<◌}
use mathlib.Core.Path.{◌≡◌, refl, sym, ap, ap₂, ◌∙◌}
use mathlib.Core.List.{List, [], ◌∷◌, ◌++◌, map, append_assoc, append-nil}
use native.Mathlib.Numerals.{add-one}
use native.Mathlib.Omega.{arith}
use lib.ListN.{length, get_or, set, take, drop, length-append, drop_of_length-le}
use lib.Seq.{take_at, take-add, take-suc, take_all, set_split}
use Rattle.word.specs.Word.{value}
use Rattle.word.specs.Tick.{Words}
use Rattle.word.proofs.Each.{word_at}
use Rattle.number.specs.Number.{column}
use Rattle.number.specs.Row.{line_feed, columns, row}
use Rattle.number.specs.Laws.{ColumnHolds, ColumnWritten}
use Rattle.number.proofs.Texts.{column-length}
use Rattle.number.proofs.Room.{word_room, value-fits}
use Rattle.number.proofs.Written.{drop_past, text-holds}

pub columns-length : (ws : List ℕ) → Words ws → length (columns (map value ws)) ≡ 12 * length ws
columns-length [] w = refl
columns-length (x ∷ ws) (p, w) =
    length-append (column 12 (value x)) (columns (map value ws))
    ∙ rw (column-length 12 (value x) (word_room x p), columns-length ws w) (omega arith)

pub row-length : (ws : List ℕ) → Words ws → length (row (map value ws)) ≡ 12 * length ws + 1
row-length ws w = length-append (columns (map value ws)) (line_feed ∷ []) ∙ ap (λ (n : ℕ). n + 1) (columns-length ws w)

columns-part : (ws : List ℕ) (j : ℕ) (r : List ℕ) → Words ws → j < length ws → take 12 (drop (12 * j) (columns (map value ws) ++ r)) ≡ column 12 (value (get_or ws j 0))
columns-part [] j r w h = absurd (omega arith)
columns-part (x ∷ ws) zero r (p, w) h =
    rw (append_assoc (column 12 (value x)) (columns (map value ws)) r)
    (take_at (column 12 (value x)) (columns (map value ws) ++ r) 12 (column-length 12 (value x) (word_room x p)))
columns-part (x ∷ ws) (suc j) r (p, w) h =
    rw (append_assoc (column 12 (value x)) (columns (map value ws)) r)
    (ap (take 12) (drop_past (column 12 (value x)) (columns (map value ws) ++ r) 12 (12 * j) (12 * suc j) (column-length 12 (value x) (word_room x p)) (omega arith))
    ∙ columns-part ws j r w (omega arith))

-- each of them holds its number
pub columns-hold : (ws : List ℕ) (j : ℕ) (r : List ℕ) → Words ws → j < length ws → ColumnHolds (columns (map value ws) ++ r) (12 * j) 12 (value (get_or ws j 0))
columns-hold ws j r w h =
    let b : get_or ws j 0 < 2 ^ 32 = word_at ws j w in
    text-holds (columns (map value ws) ++ r) (12 * j) 12 (value (get_or ws j 0)) (word_room (get_or ws j 0) b) (value-fits (get_or ws j 0) b) (columns-part ws j r w h)

columns-last : (ws : List ℕ) (w : ℕ) → columns (map value (ws ++ (w ∷ []))) ≡ columns (map value ws) ++ column 12 (value w)
columns-last [] w = append-nil (column 12 (value w))
columns-last (x ∷ ws) w = ap (λ (t : List ℕ). column 12 (value x) ++ t) (columns-last ws w) ∙ sym (append_assoc (column 12 (value x)) (columns (map value ws)) (column 12 (value w)))

-- the first j columns are written
pub record Filled (numbers line₀ line : List ℕ) (j : ℕ) : Type 0 where
  pub few : j ≤ length numbers
  pub long : length line ≡ length line₀
  pub done : take (12 * j) line ≡ columns (map value (take j numbers))

pub filled_none : (numbers line : List ℕ) → Filled numbers line line 0
filled_none numbers line = record { few = omega arith; long = refl; done = refl }

-- one column more: it holds its number, and those before it are as they were
pub filled_next : (numbers line₀ line line' : List ℕ) (j : ℕ) → j < length numbers → length line' ≡ length line → ColumnWritten line (12 * j) 12 (value (get_or numbers j 0)) line' →
    Filled numbers line₀ line j → Filled numbers line₀ line' (j + 1)
filled_next numbers line₀ line line' j h l w p =
    let m : 12 * (j + 1) ≡ 12 * j + 12 = omega arith in
    record {
      few = omega arith;
      long = l ∙ p.long;
      done =
          rw (m, add-one j)
          (take-add (12 * j) 12 line'
          ∙ ap₂ {C = List ℕ} (λ x y. x ++ y) (w.before ∙ p.done) w.holds.text
          ∙ sym (columns-last (take j numbers) (get_or numbers j 0))
          ∙ ap (λ (ns : List ℕ). columns (map value ns)) (sym (take-suc numbers j 0 h)));
    }

-- all are written: the line feed behind them closes the line
pub filled-all : (numbers line₀ line : List ℕ) (j : ℕ) → length line₀ ≡ 12 * length numbers + 1 → length numbers ≤ j → Filled numbers line₀ line j → set line (12 * j) line_feed ≡ row (map value numbers)
filled-all numbers line₀ line j e h p =
    let short : length line ≤ suc (12 * j) = omega (arith, p.long) in
    set_split line (12 * j) line_feed (omega (arith, p.long, p.few))
    ∙ rw (drop_of_length-le line short, p.done, take_all j numbers h)
