-- A file that is right, line by line, and its numbers as they are stored.
use Prim.Native.Nat.{ℕ, suc, ◌+◌, ◌-◌, ◌*◌, ◌≤◌, ◌<◌}
use mathlib.Core.Path.{◌≡◌, refl, sym, ap, ◌∙◌}
use mathlib.Core.Bool.{Bool, true, false, not}
use mathlib.Core.List.{List, [], ◌∷◌, ◌++◌}
use mathlib.Core.Option.{Option, none, some}
use native.Mathlib.Decide.{dec_lt}
use native.Mathlib.Numerals.{add-one, add-two}
use native.Mathlib.Omega.{arith}
use borrow.Author.Tests.{not-false, leb-false, le-ltb, lt-ltb}
use lib.Dec.{eqb, leb}
use lib.ListN.{length, set, take, drop}
use lib.Seq.{sets, length-sets}
use Rattle.refusal.specs.declared.Refusal.{Refusal}
use Rattle.std.specs.Prelude.{Result, Ok, Err}
use Rattle.refusal.specs.Answer.{Answer, count, refusal_of, refused_at, refused_all}
use Rattle.column.specs.Promises.{LinesChecked, refusal_in, first_line}
use Rattle.column.specs.Checks.{when, ◌or◌}
use Rattle.refusal.specs.Outcome.{outcome}
use Rattle.column.specs.Line.{lines, whole, column_refusal, line_refusal, entries}
use Rattle.column.specs.File.{lines_refusal, file_refusal, table_of, reading}
use Rattle.column.proofs.Judged.{or_left, or_right, lines-some, lines_none, whole-line, entries_of_line}
use Rattle.number.proofs.Stores.{sets_append, sets-front}

-- a line that is right
pub record Right (i : ℕ) (l : List ℕ) : Type 0 where
  pub few : i < 512
  pub length-right : whole l ≡ true
  pub column0 : column_refusal i l 0 ≡ none
  pub column1 : column_refusal i l 1 ≡ none
  pub column2 : column_refusal i l 2 ≡ none
  pub column3 : column_refusal i l 3 ≡ none

pub when-none : (b : Bool) (a : Answer) → when b a ≡ none → b ≡ false
when-none true a e = let x : ◌≡◌ {A = ℕ} 0 1 = cc in absurd (omega arith)
when-none false a e = refl

pub line-right : (i : ℕ) (l : List ℕ) → line_refusal i l ≡ none → Right i l
unfolding line_refusal
line-right i l e =
    let a : Option Answer = when (leb 512 i) (refused_at 3 512) in
    let b : Option Answer = when (not (whole l)) (refused_at 1 i) in
    let c0 : Option Answer = column_refusal i l 0 in
    let c1 : Option Answer = column_refusal i l 1 in
    let c2 : Option Answer = column_refusal i l 2 in
    let c3 : Option Answer = column_refusal i l 3 in
    let e1 : b or c0 or c1 or c2 or c3 ≡ none = or_right a (b or c0 or c1 or c2 or c3) e in
    let e2 : c0 or c1 or c2 or c3 ≡ none = or_right b (c0 or c1 or c2 or c3) e1 in
    let e3 : c1 or c2 or c3 ≡ none = or_right c0 (c1 or c2 or c3) e2 in
    let e4 : c2 or c3 ≡ none = or_right c1 (c2 or c3) e3 in
    record {
      few = leb-false 512 i (when-none (leb 512 i) (refused_at 3 512) (or_left a (b or c0 or c1 or c2 or c3) e));
      length-right = not-false (whole l) (when-none (not (whole l)) (refused_at 1 i) (or_left b (c0 or c1 or c2 or c3) e1));
      column0 = or_left c0 (c1 or c2 or c3) e2;
      column1 = or_left c1 (c2 or c3) e3;
      column2 = or_left c2 c3 e4;
      column3 = or_right c2 c3 e4;
    }

-- the first of the lines that are right, and the rest
pub record RightFrom (file : List ℕ) (at i : ℕ) : Type 0 where
  pub room : at + 41 ≤ length file
  pub split : lines (drop at file) ≡ take 41 (drop at file) ∷ lines (drop (at + 41) file)
  pub line : Right i (take 41 (drop at file))
  pub rest : lines_refusal (suc i) (lines (drop (at + 41) file)) ≡ none

pub right-from : (file : List ℕ) (at i : ℕ) → lines_refusal i (lines (drop at file)) ≡ none → 0 < length (lines (drop at file)) → RightFrom file at i
right-from file at i e h = go (dec_lt at (length file))
  where
    first : at < length file → Right i (first_line (drop at file))
    first l =
        let s : lines_refusal i (first_line (drop at file) ∷ lines (drop (length (first_line (drop at file))) (drop at file))) ≡ none = rw (lines-some file at l) at e in
        line-right i (first_line (drop at file)) (or_left (line_refusal i (first_line (drop at file))) _ s)

    whole_from : Right i (first_line (drop at file)) → RightFrom file at i
    whole_from r =
        let p = whole-line file at r.length-right in
        let s : lines_refusal i (take 41 (drop at file) ∷ lines (drop (at + 41) file)) ≡ none = rw p.1.1 at e in
        record {
          room = p.0;
          split = p.1.1;
          line = rw p.1.0 at r;
          rest = or_right (line_refusal i (take 41 (drop at file))) (lines_refusal (suc i) (lines (drop (at + 41) file))) s;
        }

    go : Dec (at < length file) → RightFrom file at i
    go (yes l) = whole_from (first l)
    go (no l) = let k : length (lines (drop at file)) ≡ 0 = ap length (lines_none file at (omega arith)) in absurd (omega arith)

-- the numbers before `node` are stored
pub record Storing (file table₀ : List ℕ) (nodes : ℕ) (table : List ℕ) (node : ℕ) : Type 0 where
  pub few : node ≤ nodes
  pub long : length table ≡ length table₀
  pub right : lines_refusal node (lines (drop (41 * node) file)) ≡ none
  pub left : length (lines (drop (41 * node) file)) ≡ nodes - node
  pub done : sets table (3 * node) (table_of (lines (drop (41 * node) file))) ≡ sets table₀ 0 (table_of (lines file))

pub file_right : (file : List ℕ) → file_refusal file ≡ none → lines_refusal 0 (lines file) ≡ none
unfolding file_refusal
file_right file e = or_right (when (eqb (length (lines file)) 0) (refused_at 3 0)) (lines_refusal 0 (lines file)) e

pub storing_starts : (file table : List ℕ) (nodes : ℕ) → file_refusal file ≡ none → nodes ≡ length (lines file) → Storing file table nodes table 0
storing_starts file table nodes e n = record { few = omega arith; long = refl; right = file_right file e; left = omega arith; done = refl }

module _ (file table₀ : List ℕ) (nodes : ℕ) (table : List ℕ) (node : ℕ) (p : Storing file table₀ nodes table node) where
  storing_from : node < nodes → RightFrom file (41 * node) node
  storing_from h = right-from file (41 * node) node p.right (omega (arith, p.left))

  pub storing_room : node < nodes → 41 * node + 41 ≤ length file
  storing_room h = (storing_from h).room

  pub storing_next : (table' : List ℕ) → node < nodes → table' ≡ sets table (3 * node) (entries (drop (41 * node) file)) → Storing file table₀ nodes table' (node + 1)
  storing_next table' h e =
      let r : RightFrom file (41 * node) node = storing_from h in
      let a : 41 * node + 41 ≡ 41 * (node + 1) = omega arith in
      let b : 3 * node + 3 ≡ 3 * (node + 1) = omega arith in
      let k : length (lines (drop (41 * node) file)) ≡ suc (length (lines (drop (41 * node + 41) file))) = ap length r.split in
      let q : table_of (lines (drop (41 * node) file)) ≡ entries (drop (41 * node) file) ++ table_of (lines (drop (41 * node + 41) file)) =
      ap table_of r.split ∙ ap (λ (l : List ℕ). l ++ table_of (lines (drop (41 * node + 41) file))) (entries_of_line (drop (41 * node) file)) in
      record {
        few = omega arith;
        long = ap length e ∙ length-sets table (3 * node) (entries (drop (41 * node) file)) ∙ p.long;
        right = rw (← a, add-one node) r.rest;
        left = rw (← a) (omega (arith, p.left));
        done =
            rw (e, ← a, ← b)
            (sym (sets_append (entries (drop (41 * node) file)) (table_of (lines (drop (41 * node + 41) file))) table (3 * node))
            ∙ ap (λ (l : List ℕ). sets table (3 * node) l) (sym q)
            ∙ p.done);
      }

-- the three numbers of a node
pub three_stores : (l : List ℕ) (i a b c a' b' c' : ℕ) → a ≡ a' → b ≡ b' → c ≡ c' → set (set (set l i a) (i + 1) b) (i + 2) c ≡ sets l i (a' ∷ (b' ∷ (c' ∷ [])))
three_stores l i a b c a' b' c' p q r = rw (p, q, r, add-one i, add-two i)

pub numbers-length : (ls : List (List ℕ)) → length (table_of ls) ≡ 3 * length ls
numbers-length [] = refl
numbers-length (l ∷ ls) = let e : length (table_of ls) ≡ 3 * length ls = numbers-length ls in omega arith

empty : (ls : List (List ℕ)) → length ls ≡ 0 → ls ≡ []
empty [] e = refl
empty (l ∷ ls) e = absurd (omega arith)

pub storing_ends : (file table₀ : List ℕ) (nodes : ℕ) (table : List ℕ) (node : ℕ) → nodes ≤ node → nodes ≡ length (lines file) → 3 * nodes ≤ length table₀ →
    Storing file table₀ nodes table node → table ≡ table_of (lines file) ++ drop (3 * nodes) table₀
storing_ends file table₀ nodes table node h n l p =
    let z : lines (drop (41 * node) file) ≡ [] = empty (lines (drop (41 * node) file)) (p.left ∙ omega arith) in
    let k : length (table_of (lines file)) ≡ 3 * nodes = numbers-length (lines file) ∙ ap (λ (m : ℕ). 3 * m) (sym n) in
    ap (λ (ls : List (List ℕ)). sets table (3 * node) (table_of ls)) (sym z) ∙ p.done ∙ sets-front (table_of (lines file)) table₀ (omega arith) ∙ rw k

-- the whole call, by what the check of the lines answered
module _ (file table : List ℕ) (a : Result ℕ Refusal) (p : LinesChecked file a) where
  pub read-refused : (r : Refusal) → a ≡ Err r → outcome (refusal_of r) table ≡ reading file table
  unfolding reading
  read-refused r e = let f : some (refusal_of r) ≡ file_refusal file = ap refusal_in (sym e) ∙ p.refusal in rw (← f)

  module _ (n : ℕ) (e : a ≡ Ok n) where
    pub lines-right : file_refusal file ≡ none
    lines-right = sym p.refusal ∙ ap refusal_in e

    pub lines-counted : n ≡ length (lines file)
    lines-counted = p.nodes n e

    pub read_short : length table < 3 * n → outcome (refused_all 12) table ≡ reading file table
    unfolding reading
    read_short h = rw (lines-right, ← lines-counted, lt-ltb (length table) (3 * n) h)

    pub read_stored : (table' : List ℕ) → 3 * n ≤ length table → table' ≡ table_of (lines file) ++ drop (3 * n) table → outcome (count n) table' ≡ reading file table
    unfolding reading
    read_stored table' h q = rw (lines-right, ← lines-counted, le-ltb (length table) (3 * n) h, q)
