-- The check of a file, as its loop leaves it: the lines before what is left are right.
use Prim.Native.Nat.{ℕ, suc, ◌+◌, ◌≤◌, ◌<◌}
use mathlib.Core.Path.{◌≡◌, refl, sym, ap, ◌∙◌}
use mathlib.Core.List.{List, [], ◌∷◌}
use mathlib.Core.Option.{none, some}
use native.Mathlib.Numerals.{add-one}
use native.Mathlib.Omega.{arith}
use borrow.Author.Tests.{ne_eqb}
use lib.ListN.{length, take, drop}
use Rattle.std.specs.Prelude.{Ok, Err}
use Rattle.refusal.specs.declared.Refusal.{Refusal}
use Rattle.refusal.specs.declared.Refusal.TheVariants.{WrongNodeCount}
use Rattle.refusal.specs.Answer.{refusal_of}
use Rattle.column.specs.Line.{lines, line_refusal}
use Rattle.column.specs.File.{lines_refusal, file_refusal}
use Rattle.column.specs.Promises.{LinesChecked, first_line}
use Rattle.column.proofs.Lines.{lines-first}
use Rattle.column.proofs.Judged.{line_cut, whole-first, one_line_more, lines_none}
use Rattle.column.proofs.Storing.{line-right}

pub record Checking (file left : List ℕ) (line : ℕ) : Type 0 where
  pub few : line ≤ 512
  pub judged : lines_refusal 0 (lines file) ≡ lines_refusal line (lines left)
  pub counted : length (lines file) ≡ line + length (lines left)

pub checking_starts : (file : List ℕ) → Checking file file 0
checking_starts file = record { few = omega arith; judged = refl; counted = omega arith }

pub check_empty : (file : List ℕ) → length file ≡ 0 → LinesChecked file (Err (WrongNodeCount 0))
unfolding file_refusal lines
check_empty [] e = record { refusal = refl; nodes = λ n q. cc }
check_empty (b ∷ bs) e = absurd (omega arith)

module _ (file left : List ℕ) (line : ℕ) (filled : length file ≡ 0 → ⊥) (p : Checking file left line) where
  pub file_judged : file_refusal file ≡ lines_refusal line (lines left)
  unfolding file_refusal
  file_judged =
      let n : length (lines file) ≡ suc (length (lines (drop (length (first_line file)) file))) = ap length (lines-first file (omega arith)) in
      rw (ne_eqb (length (lines file)) 0 (omega arith)) p.judged

  pub check_done : length left ≡ 0 → LinesChecked file (Ok line)
  check_done e =
      let z : lines left ≡ [] = lines_none left 0 (omega arith) in
      let k : length (lines left) ≡ 0 = ap length z in
      record {
        refusal = sym (file_judged ∙ ap (lines_refusal line) z);
        nodes = λ n q. let x : line ≡ n = cc in omega (arith, p.counted);
      }

  check_refused : (r : Refusal) → lines_refusal line (lines left) ≡ some (refusal_of r) → LinesChecked file (Err r)
  check_refused r e = record { refusal = sym (file_judged ∙ e); nodes = λ n q. cc }

  module _ (more : 0 < length left) where
    pub check_many : 512 ≤ line → LinesChecked file (Err (WrongNodeCount 512))
    check_many h = check_refused (WrongNodeCount 512) (one_line_more left 0 line more h)

    pub line_refused : (r : Refusal) → some (refusal_of r) ≡ line_refusal line (first_line (take 41 left)) → LinesChecked file (Err r)
    line_refused r e =
        let a : line_refusal line (first_line left) ≡ some (refusal_of r) = sym (e ∙ line_cut line left) in
        check_refused r (rw (lines-first left more, a))

    pub line_passed : line < 512 → none ≡ line_refusal line (first_line (take 41 left)) → Checking file (drop 41 left) (line + 1)
    line_passed h e =
        let a : line_refusal line (first_line left) ≡ none = sym (e ∙ line_cut line left) in
        let l : length (first_line left) ≡ 41 = whole-first left 0 (line-right line (first_line left) a).length-right in
        let s : lines left ≡ first_line left ∷ lines (drop 41 left) = rw (← l) (lines-first left more) in
        let n : length (lines left) ≡ suc (length (lines (drop 41 left))) = ap length s in
        record {
          few = omega arith;
          judged = p.judged ∙ ap (lines_refusal line) s ∙ rw (a, add-one line);
          counted = omega (arith, p.counted);
        }
