-- The lines of a print as they are put.
use Prim.Native.Nat.{ℕ, zero, suc, ◌+◌, ◌-◌, ◌*◌, ◌≤◌, ◌<◌}
use mathlib.Core.Path.{◌≡◌, refl, sym, ap, ◌∙◌}
use mathlib.Core.List.{List, ◌++◌, map}
use native.Mathlib.Omega.{arith}
use native.Mathlib.Nat.{zero-mul, suc-mul}
use lib.ListN.{length, take, drop, length-append, length-drop}
use lib.Seq.{length-take-le, drop-drop}
use Rattle.word.specs.Word.{value}
use Rattle.word.specs.Tick.{Words}
use Rattle.word.proofs.Each.{words_take, words-drop}
use Rattle.number.specs.Row.{row}
use Rattle.number.specs.Put.{Put}
use Rattle.number.proofs.Stores.{part-put}
use Rattle.number.proofs.Filling.{Filling, filling_start, filling_room, filling_next, filling_end}
use Rattle.number.proofs.RowText.{row-length}
use Rattle.listing.specs.Print.{line as line_of, rows}
use Rattle.listing.specs.Steps.{Full, Rows}

pub line-length : (ws : List ℕ) → Words ws → length (line_of ws) ≡ 12 * length ws + 1
unfolding line_of
line-length ws w = row-length ws w

-- the row in its part of the text
pub line-put : (ws text part : List ℕ) (from : ℕ) → Words ws → from + (12 * length ws + 1) ≤ length text → part ≡ row (map value ws) →
    Put (line_of ws) text from (from + 12 * length ws + 1) (take from text ++ (part ++ drop (from + 12 * length ws + 1 - from) (drop from text)))
unfolding line_of
line-put ws text part from w h e = part-put (row (map value ws)) text part from (from + 12 * length ws + 1) (omega (arith, row-length ws w)) (omega arith) e

pub rows-length : (w k : ℕ) (ws : List ℕ) → Words ws → Full w k ws → length (rows w k ws) ≡ k * (12 * w + 1)
rows-length w zero ws v f = sym (zero-mul (12 * w + 1))
rows-length w (suc k) ws v f =
    let l : length (take w ws) ≡ w = length-take-le w ws f.0 in
    length-append (line_of (take w ws)) (rows w k (drop w ws))
    ∙ rw (line-length (take w ws) (words_take w ws v), l, rows-length w k (drop w ws) (words-drop w ws v) f.1, suc-mul k (12 * w + 1)) (omega arith)

-- the lines from `line` on complete those that are put
pub record Laying (numbers : List ℕ) (w count : ℕ) (text₀ : List ℕ) (from : ℕ) (text : List ℕ) (line at : ℕ) : Type 0 where
  pub most : line ≤ count
  pub inside : w * line ≤ length numbers
  pub full : Full w (count - line) (drop (w * line) numbers)
  pub fill : Filling (rows w count numbers) text₀ from (rows w (count - line) (drop (w * line) numbers)) text at

pub laying_starts : (numbers : List ℕ) (w count : ℕ) (text : List ℕ) (from : ℕ) → Rows numbers w count text from → Laying numbers w count text from text 0 from
laying_starts numbers w count text from r =
    let z : w * 0 ≡ 0 = omega arith in
    let e : count - 0 ≡ count = omega arith in
    record { most = omega arith; inside = rw z (omega arith); full = rw (z, e) r.full; fill = rw (z, e) (filling_start (rows w count numbers) text from) }

module _ (numbers : List ℕ) (w count : ℕ) (text₀ : List ℕ) (from : ℕ) (text : List ℕ) (words : Words numbers) (line at : ℕ) (more : line < count) (p : Laying numbers w count text₀ from text line at) where
  left : count - line ≡ suc (count - (line + 1))
  left = omega arith

  full : Full w (suc (count - (line + 1))) (drop (w * line) numbers)
  full = rw left at p.full

  fill : Filling (rows w count numbers) text₀ from (rows w (suc (count - (line + 1))) (drop (w * line) numbers)) text at
  fill = rw left at p.fill

  -- the next line lies within the numbers and the text
  pub laying_room : from + length (rows w count numbers) ≤ length text₀ → (w * line + w ≤ length numbers) × (at + (12 * length (take w (drop (w * line) numbers)) + 1) ≤ length text)
  laying_room r =
      let ws : List ℕ = drop (w * line) numbers in
      let l = line-length (take w ws) (words_take w ws (words-drop (w * line) numbers words)) in (
        omega (arith, full.0, p.inside, length-drop (w * line) numbers),
        omega (arith, filling_room fill (line_of (take w ws)) (rows w (count - (line + 1)) (drop w ws)) refl r),
      )

  pub laying_next : (next : ℕ) (text' : List ℕ) → Put (line_of (take w (drop (w * line) numbers))) text at next text' → Laying numbers w count text₀ from text' (line + 1) next
  laying_next next text' q =
      let ws : List ℕ = drop (w * line) numbers in
      let e : w * line + w ≡ w * (line + 1) = omega arith in
      let d : drop w ws ≡ drop (w * (line + 1)) numbers = drop-drop w (w * line) numbers ∙ ap (λ k. drop k numbers) e in
      record {
        most = omega arith;
        inside = omega (arith, full.0, p.inside, length-drop (w * line) numbers);
        full = rw d at full.1;
        fill = rw d at (filling_next fill (line_of (take w ws)) (rows w (count - (line + 1)) (drop w ws)) refl q);
      }

pub laying_ends : (numbers : List ℕ) (w count : ℕ) (text₀ : List ℕ) (from : ℕ) (text : List ℕ) (line at : ℕ) → count ≤ line → from + length (rows w count numbers) ≤ length text₀ → Laying numbers w count text₀ from text line at → Put (rows w count numbers) text₀ from at text
laying_ends numbers w count text₀ from text line at h r p = let z : count - line ≡ 0 = omega arith in filling_end r (rw z at p.fill)
