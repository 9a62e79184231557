-- Lines that are judged one after another: a wrong one ends it, a right one leaves the rest.
use Prim.Native.Nat.{ℕ, zero, suc, ◌+◌, ◌-◌, ◌*◌, ◌^◌, ◌≤◌, ◌<◌}
use mathlib.Core.Path.{◌≡◌, refl, sym, ap, ap₂, ◌∙◌}
use mathlib.Core.Bool.{Bool, true, false}
use native.Mathlib.Numerals.{add-one}
use mathlib.Core.List.{List, [], ◌∷◌}
use mathlib.Core.Option.{Option, none, some}
use native.Mathlib.Nat.{zero-add, suc-add}
use native.Mathlib.Omega.{arith}
use borrow.Author.Tests.{le-leb, lt-leb, eq-eqb, ne_eqb, eqb-true, ltb-true}
use lib.Dec.{eqb}
use lib.IntN.{ℤ, pos, negsuc}
use lib.ListN.{length, get_or, take, drop, length-drop, drop_of_length-le}
use lib.Seq.{drop-drop, take-take, take-nil, take_all}
use Rattle.refusal.specs.Answer.{Answer, refused_at}
use Rattle.word.specs.Word.{low}
use Rattle.word.proofs.Lists.{first-true}
use Rattle.std.specs.Prelude.{Some, None}
use Rattle.column.specs.Checks.{◌or◌}
use Rattle.number.specs.Number.{number_in, fits}
use Rattle.column.specs.Line.{lines, whole, column_of, is_node, number_refusal, column_refusal, line_refusal, entries}
use Rattle.column.specs.File.{lines_refusal}
use Rattle.number.specs.Promises.{found}
use Rattle.column.specs.Promises.{first_line}
use Rattle.number.proofs.Texts.{read-column}
use Rattle.column.proofs.Lines.{lines-first, first-take, first-within, first_prefix, whole_cut}

pub or_none : (a : Option Answer) → a or none ≡ a
or_none none = refl
or_none (some a) = refl

pub or_left : (a b : Option Answer) → a or b ≡ none → a ≡ none
or_left none b e = refl
or_left (some a) b e = e

pub or_right : (a b : Option Answer) → a or b ≡ none → b ≡ none
or_right none b e = e
or_right (some a) b e = let x : ◌≡◌ {A = ℕ} 0 1 = cc in absurd (omega arith)

-- the columns of line i from column j on, n of them
abbrev pub columns_left : ℕ → List ℕ → ℕ → ℕ → Option Answer
columns_left i l j zero = none
columns_left i l j (suc n) = column_refusal i l j or columns_left i l (suc j) n

-- the columns lie within the 41 bytes
pub drop-take : (s n : ℕ) (l : List ℕ) → drop s (take (s + n) l) ≡ take n (drop s l)
drop-take zero n l = rw zero-add
drop-take (suc s) n [] = rw (suc-add s n) (sym (take-nil n))
drop-take (suc s) n (x ∷ l) = rw (suc-add s n) (drop-take s n l)

pub column_of_line : (j : ℕ) (l : List ℕ) → j < 4 → column_of j (take 41 l) ≡ column_of j l
column_of_line zero l h = take-take 4 41 l (omega arith)
column_of_line (suc j) l h =
    let e : 4 + 12 * j + (37 - 12 * j) ≡ 41 = omega arith in
    ap (take 12) (ap (λ (k : ℕ). drop (4 + 12 * j) (take k l)) (sym e) ∙ drop-take (4 + 12 * j) (37 - 12 * j) l)
    ∙ take-take 12 (37 - 12 * j) (drop (4 + 12 * j) l) (omega arith)

pub entries_of_line : (l : List ℕ) → entries (take 41 l) ≡ entries l
entries_of_line l = rw (column_of_line 1 l (omega arith), column_of_line 2 l (omega arith), column_of_line 3 l (omega arith))

columns_of_line : (i : ℕ) (l : List ℕ) (j n : ℕ) → j + n ≤ 4 → columns_left i (take 41 l) j n ≡ columns_left i l j n
columns_of_line i l j zero h = refl
columns_of_line i l j (suc n) h =
    ap₂ (λ (c : List ℕ) (r : Option Answer). number_refusal i j (number_in c) or r) (column_of_line j l (omega arith)) (columns_of_line i l (suc j) n (omega arith))

-- a line that is whole, by its columns
line-columns : (i : ℕ) (l : List ℕ) → i < 512 → whole l ≡ true → line_refusal i l ≡ columns_left i l 0 4
unfolding line_refusal
line-columns i l h w = rw (lt-leb 512 i h, w, or_none (column_refusal i l 3))

pub whole-first : (file : List ℕ) (at : ℕ) → whole (first_line (drop at file)) ≡ true → length (first_line (drop at file)) ≡ 41
whole-first file at w = eqb-true (length (first_line (drop at file))) 41 (first-true (eqb (length (first_line (drop at file))) 41) (eqb (get_or (first_line (drop at file)) 40 0) 10) w)

-- the lines from `at` on, where the first is whole
pub whole-line : (file : List ℕ) (at : ℕ) → whole (first_line (drop at file)) ≡ true → (at + 41 ≤ length file) × ((first_line (drop at file) ≡ take 41 (drop at file)) × (lines (drop at file) ≡ take 41 (drop at file) ∷ lines (drop (at + 41) file)))
whole-line file at w =
    let e : length (first_line (drop at file)) ≡ 41 = whole-first file at w in
    let b : length (first_line (drop at file)) ≤ length file - at = first-within file at in
    let t : first_line (drop at file) ≡ take 41 (drop at file) = first-take (drop at file) ∙ ap (λ (k : ℕ). take k (drop at file)) e in
    let n : 0 < length (drop at file) = rw (length-drop at file) (omega arith) in
    (omega arith, (t, lines-first (drop at file) n ∙ ap₂ {C = List (List ℕ)} (λ x xs. x ∷ xs) t (ap lines (ap (λ (k : ℕ). drop k (drop at file)) e ∙ drop-drop 41 at file))))

pub lines-some : (file : List ℕ) (at : ℕ) → at < length file → lines (drop at file) ≡ first_line (drop at file) ∷ lines (drop (length (first_line (drop at file))) (drop at file))
lines-some file at h = lines-first (drop at file) (rw (length-drop at file) (omega arith))

pub lines_none : (file : List ℕ) (at : ℕ) → length file ≤ at → lines (drop at file) ≡ []
unfolding lines
lines_none file at h = rw (drop_of_length-le file h)

-- the judgement of the lines from `at` on, line i the first
module _ (file : List ℕ) (at i : ℕ) (some_left : at < length file) where
  pub one_line_more : 512 ≤ i → lines_refusal i (lines (drop at file)) ≡ some (refused_at 3 512)
  unfolding line_refusal
  one_line_more h = rw (lines-some file at some_left, le-leb 512 i h)

  pub line_not_whole : i < 512 → whole (first_line (drop at file)) ≡ false → lines_refusal i (lines (drop at file)) ≡ some (refused_at 1 i)
  unfolding line_refusal
  line_not_whole h w = rw (lines-some file at some_left, lt-leb 512 i h, w)

-- a column as found
node_word : (i : ℕ) (z : ℤ) → i < 512 → fits z ≡ true → low z ≡ i → is_node i z ≡ true
unfolding low
node_word i (pos n) h f e = let b : n < 2 ^ 31 = ltb-true n (2 ^ 31) f in eq-eqb n i (omega arith)
node_word i (negsuc n) h f e = let b : n < 2 ^ 31 = ltb-true n (2 ^ 31) f in absurd (omega arith)

other_word : (i : ℕ) (z : ℤ) → fits z ≡ true → (low z ≡ i → ⊥) → is_node i z ≡ false
unfolding low
other_word i (pos n) f e = let b : n < 2 ^ 31 = ltb-true n (2 ^ 31) f in ne_eqb n i (λ q. e (omega arith))
other_word i (negsuc n) f e = refl

wrong_node : (i j : ℕ) (z : ℤ) → j ≡ 0 → is_node i z ≡ false → number_refusal i j (some z) ≡ some (refused_at 2 i)
wrong_node i zero z e n = rw n
wrong_node i (suc j) z e n = absurd (omega arith)

right-node : (i j : ℕ) (z : ℤ) → j ≡ 0 → is_node i z ≡ true → number_refusal i j (some z) ≡ none
right-node i zero z e n = rw n
right-node i (suc j) z e n = refl

other-column : (i j : ℕ) (z : ℤ) → (j ≡ 0 → ⊥) → number_refusal i j (some z) ≡ none
other-column i zero z n = absurd (n refl)
other-column i (suc j) z n = refl

module _ (i : ℕ) (l : List ℕ) (j : ℕ) where
  number_word : (w : ℕ) → Some w ≡ found (number_in (column_of j l)) → (z : ℤ) × ((number_in (column_of j l) ≡ some z) × ((low z ≡ w) × (fits z ≡ true)))
  number_word w e = go (number_in (column_of j l)) refl
    where
      go : (o : Option ℤ) → number_in (column_of j l) ≡ o → (z : ℤ) × ((o ≡ some z) × ((low z ≡ w) × (fits z ≡ true)))
      go none q = let x : Some w ≡ None = e ∙ ap found q in absurd (cc)
      go (some z) q = let x : Some w ≡ Some (low z) = e ∙ ap found q in let s : low z ≡ w = cc in (z, (refl, (s, (read-column (column_of j l) z q).1)))

  pub column_malformed : None ≡ found (number_in (column_of j l)) → column_refusal i l j ≡ some (refused_at 1 i)
  column_malformed e = go (number_in (column_of j l)) refl
    where
      go : (o : Option ℤ) → number_in (column_of j l) ≡ o → number_refusal i j o ≡ some (refused_at 1 i)
      go none q = refl
      go (some z) q = let x : None ≡ Some (low z) = e ∙ ap found q in absurd (cc)

  pub column_wrong_node : (w : ℕ) → Some w ≡ found (number_in (column_of j l)) → j ≡ 0 → (w ≡ i → ⊥) → column_refusal i l j ≡ some (refused_at 2 i)
  column_wrong_node w e z n =
      let g = number_word w e in
      ap (number_refusal i j) g.1.0 ∙ wrong_node i j g.0 z (other_word i g.0 g.1.1.1 (λ q. n (sym g.1.1.0 ∙ q)))

  pub column_right_node : (w : ℕ) → Some w ≡ found (number_in (column_of j l)) → j ≡ 0 → w ≡ i → i < 512 → column_refusal i l j ≡ none
  column_right_node w e z n h =
      let g = number_word w e in
      ap (number_refusal i j) g.1.0 ∙ right-node i j g.0 z (node_word i g.0 h g.1.1.1 (g.1.1.0 ∙ n))

  pub column-right : (w : ℕ) → Some w ≡ found (number_in (column_of j l)) → (j ≡ 0 → ⊥) → column_refusal i l j ≡ none
  column-right w e z = let g = number_word w e in ap (number_refusal i j) g.1.0 ∙ other-column i j g.0 z

-- the columns of a line that is whole, from column j on
pub record Columns (bytes : List ℕ) (line column : ℕ) : Type 0 where
  pub most : column ≤ 4
  pub room : 41 ≤ length bytes
  pub left : line_refusal line (first_line bytes) ≡ columns_left line bytes column (4 - column)

pub columns_start : (bytes : List ℕ) (line : ℕ) → line < 512 → whole (first_line bytes) ≡ true → Columns bytes line 0
columns_start bytes line h w =
    let p = whole-line bytes 0 w in
    record {
      most = omega arith;
      room = p.0;
      left = line-columns line (first_line bytes) h w ∙ ap (λ l. columns_left line l 0 4) p.1.0 ∙ columns_of_line line bytes 0 4 (omega arith);
    }

module _ (bytes : List ℕ) (line column : ℕ) (p : Columns bytes line column) where
  next-column : column < 4 → columns_left line bytes column (4 - column) ≡ column_refusal line bytes column or columns_left line bytes (suc column) (4 - (column + 1))
  next-column h = let e : 4 - column ≡ suc (4 - (column + 1)) = omega arith in rw e

  pub column_passed : column < 4 → column_refusal line bytes column ≡ none → Columns bytes line (column + 1)
  column_passed h e = record { most = omega arith; room = p.room; left = p.left ∙ next-column h ∙ rw (e, add-one column) }

  pub column-refused : (a : Answer) → column < 4 → column_refusal line bytes column ≡ some a → some a ≡ line_refusal line (first_line bytes)
  column-refused a h e = sym (p.left ∙ next-column h ∙ rw e)

  pub columns_right : 4 ≤ column → none ≡ line_refusal line (first_line bytes)
  columns_right h = let z : 4 - column ≡ 0 = omega arith in sym (p.left ∙ ap (columns_left line bytes column) z)

pub not_whole : (bytes : List ℕ) (line : ℕ) → line < 512 → whole (first_line bytes) ≡ false → some (refused_at 1 line) ≡ line_refusal line (first_line bytes)
unfolding line_refusal
not_whole bytes line h w = rw (lt-leb 512 line h, w)

-- the first line of the first 41 bytes is judged as the first line of all
pub line_cut : (i : ℕ) (s : List ℕ) → line_refusal i (first_line (take 41 s)) ≡ line_refusal i (first_line s)
unfolding line_refusal
line_cut i s = go (whole (first_line s)) refl
  where
    go : (b : Bool) → whole (first_line s) ≡ b → line_refusal i (first_line (take 41 s)) ≡ line_refusal i (first_line s)
    go true w = ap (line_refusal i) (first_prefix 41 s ∙ take_all 41 (first_line s) (omega (arith, whole-first s 0 w)))
    go false w = let v : whole (first_line (take 41 s)) ≡ false = whole_cut s ∙ w in rw (v, w)
