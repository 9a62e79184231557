-- What a call that answers a count tells: no check refused it.
use Prim.Native.Nat.{ℕ, zero, suc, ◌*◌, ◌/◌, ◌%◌, ◌≤◌}
use mathlib.Core.Path.{◌≡◌, refl, sym, ap, ◌∙◌}
use mathlib.Core.Bool.{Bool, true, false, not}
use mathlib.Core.List.{List, [], ◌∷◌, ◌++◌}
use mathlib.Core.Option.{Option, none, some}
use native.Mathlib.Omega.{arith}
use borrow.Author.Tests.{ltb-false, eqb-true, eqb-false, not-false}
use lib.Dec.{eqb, leb, ltb}
use lib.IntN.{ℤ}
use lib.ListN.{length, drop}
use Rattle.refusal.specs.Answer.{Answer, count, refused_at, refused_all}
use Rattle.refusal.specs.Answer.Answer.{counts, refused}
use Rattle.column.specs.Checks.{when, ◌or◌, unless}
use Rattle.refusal.specs.Outcome.{Outcome, outcome}
use Rattle.number.specs.Number.{number_in}
use Rattle.column.specs.Line.{lines, column_of, whole, is_node, number_refusal, column_refusal, line_refusal}
use Rattle.column.specs.File.{lines_refusal, file_refusal, table_of, reading, lines_from, count_refusal, writing}
use Rattle.column.proofs.Judged.{or_left, or_right}
use Rattle.column.proofs.Storing.{when-none}

-- a check gives refusals, and no count
abbrev Refusing : Option Answer → Type 0
Refusing none = Unit {0}
Refusing (some (counts ns)) = ⊥
Refusing (some (refused n p)) = Unit {0}

or_refusing : (a b : Option Answer) → Refusing a → Refusing b → Refusing (a or b)
or_refusing none b p q = q
or_refusing (some a) b p q = p

when_refusing : (t : Bool) (n p : ℕ) → Refusing (when t (refused_at n p))
when_refusing true n p = tt
when_refusing false n p = tt

when_all_refusing : (t : Bool) (n : ℕ) → Refusing (when t (refused_all n))
when_all_refusing true n = tt
when_all_refusing false n = tt

column_refusing : (i j : ℕ) (o : Option ℤ) → Refusing (number_refusal i j o)
column_refusing i j none = tt
column_refusing i zero (some z) = when_refusing (not (is_node i z)) 2 i
column_refusing i (suc j) (some z) = tt

line_refusing : (i : ℕ) (l : List ℕ) → Refusing (line_refusal i l)
unfolding line_refusal
line_refusing i l =
    or_refusing (when (leb 512 i) (refused_at 3 512)) _ (when_refusing (leb 512 i) 3 512)
    (or_refusing (when (not (whole l)) (refused_at 1 i)) _ (when_refusing (not (whole l)) 1 i)
    (or_refusing (column_refusal i l 0) _ (column_refusing i 0 (number_in (column_of 0 l)))
    (or_refusing (column_refusal i l 1) _ (column_refusing i 1 (number_in (column_of 1 l)))
    (or_refusing (column_refusal i l 2) _ (column_refusing i 2 (number_in (column_of 2 l))) (column_refusing i 3 (number_in (column_of 3 l)))))))

lines_refusing : (i : ℕ) (ls : List (List ℕ)) → Refusing (lines_refusal i ls)
lines_refusing i [] = tt
lines_refusing i (l ∷ ls) = or_refusing (line_refusal i l) (lines_refusal (suc i) ls) (line_refusing i l) (lines_refusing (suc i) ls)

file_refusing : (file : List ℕ) → Refusing (file_refusal file)
unfolding file_refusal
file_refusing file =
    or_refusing (when (eqb (length (lines file)) 0) (refused_at 3 0)) (lines_refusal 0 (lines file)) (when_refusing (eqb (length (lines file)) 0) 3 0) (lines_refusing 0 (lines file))

count_refusing : (table : List ℕ) → Refusing (count_refusal table)
unfolding count_refusal
count_refusing table =
    or_refusing (when (eqb (length table) 0) (refused_at 3 0)) _ (when_refusing (eqb (length table) 0) 3 0)
    (or_refusing (when (not (eqb (length table % 3) 0)) (refused_at 3 0)) _ (when_refusing (not (eqb (length table % 3) 0)) 3 0) (when_refusing (ltb 512 (length table / 3)) 3 512))

-- a call that answers a count was refused by no check
counted : (r : Option Answer) (b : List ℕ) (done : Outcome) (n : ℕ) → Refusing r → (unless r b done).answer ≡ count n → r ≡ none
counted none b done n p e = refl
counted (some (counts ns)) b done n p e = absurd p
counted (some (refused m q)) b done n p e = let x : ◌≡◌ {A = ℕ} 0 1 = cc in absurd (omega arith)

pub read-counted : (file table : List ℕ) (n : ℕ) → (reading file table).answer ≡ count n →
    (file_refusal file ≡ none) × ((length (lines file) ≡ n) × ((reading file table).buffer ≡ table_of (lines file) ++ drop (3 * n) table))
unfolding reading
read-counted file table n e =
    let short : Option Answer = when (ltb (length table) (3 * length (lines file))) (refused_all 12) in
    let done : Outcome = outcome (count (length (lines file))) (table_of (lines file) ++ drop (3 * length (lines file)) table) in
    let c : file_refusal file or short ≡ none =
    counted (file_refusal file or short) table done n (or_refusing (file_refusal file) short (file_refusing file) (when_all_refusing (ltb (length table) (3 * length (lines file))) 12)) e in
    let q : reading file table ≡ done = ap (λ (r : Option Answer). unless r table done) c in
    let a : count (length (lines file)) ≡ count n = ap (λ (d : Outcome). d.answer) (sym q) ∙ e in
    let k : length (lines file) ≡ n = cc in
    (or_left (file_refusal file) short c, (k, ap (λ (d : Outcome). d.buffer) q ∙ rw k))

pub write-counted : (table file : List ℕ) (n : ℕ) → (writing table file).answer ≡ count n →
    (count_refusal table ≡ none) × ((41 * (length table / 3) ≡ n) × ((writing table file).buffer ≡ lines_from table 0 (length table / 3) ++ drop n file))
unfolding writing
write-counted table file n e =
    let short : Option Answer = when (ltb (length file) (41 * (length table / 3))) (refused_all 12) in
    let done : Outcome = outcome (count (41 * (length table / 3))) (lines_from table 0 (length table / 3) ++ drop (41 * (length table / 3)) file) in
    let c : count_refusal table or short ≡ none =
    counted (count_refusal table or short) file done n (or_refusing (count_refusal table) short (count_refusing table) (when_all_refusing (ltb (length file) (41 * (length table / 3))) 12)) e in
    let q : writing table file ≡ done = ap (λ (r : Option Answer). unless r file done) c in
    let a : count (41 * (length table / 3)) ≡ count n = ap (λ (d : Outcome). d.answer) (sym q) ∙ e in
    let k : 41 * (length table / 3) ≡ n = cc in
    (or_left (count_refusal table) short c, (k, ap (λ (d : Outcome). d.buffer) q ∙ rw k))

-- what the checks left of the file or the table
pub some-line : (file : List ℕ) → file_refusal file ≡ none → length (lines file) ≡ 0 → ⊥
unfolding file_refusal
some-line file e =
    let w : when (eqb (length (lines file)) 0) (refused_at 3 0) ≡ none = or_left (when (eqb (length (lines file)) 0) (refused_at 3 0)) (lines_refusal 0 (lines file)) e in
    eqb-false (length (lines file)) 0 (when-none (eqb (length (lines file)) 0) (refused_at 3 0) w)

pub even_count : (table : List ℕ) → count_refusal table ≡ none → (length table ≡ 0 → ⊥) × ((length table % 3 ≡ 0) × (length table / 3 ≤ 512))
unfolding count_refusal
even_count table e =
    let a : Option Answer = when (eqb (length table) 0) (refused_at 3 0) in
    let b : Option Answer = when (not (eqb (length table % 3) 0)) (refused_at 3 0) in
    let c : Option Answer = when (ltb 512 (length table / 3)) (refused_at 3 512) in
    let r : b or c ≡ none = or_right a (b or c) e in (
      eqb-false (length table) 0 (when-none (eqb (length table) 0) (refused_at 3 0) (or_left a (b or c) e)),
      (
        eqb-true (length table % 3) 0 (not-false (eqb (length table % 3) 0) (when-none (not (eqb (length table % 3) 0)) (refused_at 3 0) (or_left b c r))),
        ltb-false 512 (length table / 3) (when-none (ltb 512 (length table / 3)) (refused_at 3 512) (or_right b c r)),
      ),
    )
