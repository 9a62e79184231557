-- A code that is read number by number: what its check says of the header, of one instruction after another, and of the output registers.
use Prim.Native.Nat.{ℕ, zero, suc, ◌+◌, ◌-◌, ◌≤◌, ◌<◌}
use mathlib.Core.Path.{◌≡◌, refl, sym, ap, ◌∙◌}
use mathlib.Core.Bool.{Bool, true, false}
use mathlib.Core.List.{List, [], ◌∷◌}
use native.Mathlib.Nat.{add-zero}
use native.Mathlib.Numerals.{add-one}
use native.Mathlib.Omega.{arith}
use borrow.Author.Tests.{leb-true, eqb-true, ne_eqb, ltb-true, lt-ltb}
use lib.Dec.{eqb, leb, ltb}
use lib.ListN.{length, get_or, take, drop, length-drop}
use lib.Seq.{get_or-drop, drop-drop, take_all, drop-cons}
use Rattle.word.specs.Choice.{◌and◌}
use Rattle.std.proofs.Common.{◌≢◌, ◌↔◌, IsTrue, EachIndex}
use Rattle.word.proofs.Lists.{first-true, second-true, both_true}
use Rattle.flat.specs.Flat.{Instruction, width}
use Rattle.flat.specs.Code.{header, results_at, instruction_at, instructions_of, input_count, output_count, instruction_count, cell_count, decode}
use Rattle.flat.specs.Steps.{Header}
use Rattle.flat.specs.Check.{all_below, instruction_ok, instructions_ok, header_ok, body_ok, code_ok}

and-false : (a : Bool) → a and false ≡ false
and-false true = refl
and-false false = refl

pub and-true : (a : Bool) → a and true ≡ a
and-true true = refl
and-true false = refl

-- the parts of a conjunction that holds
pub two : (a b c : Bool) → a and b and c ≡ true → (a ≡ true) × (b ≡ true)
two a b c h = (first-true a _ h, first-true b c (second-true a _ h))

pub four : (a b c d : Bool) → a and b and c and d ≡ true → (a ≡ true) × ((b ≡ true) × ((c ≡ true) × (d ≡ true)))
four a b c d h = let t = second-true b _ (second-true a _ h) in let p = two a b _ h in (p.0, (p.1, (first-true c d t, second-true c d t)))

pub header_says : (xs : List ℕ) → header_ok xs ≡ true → Header xs
header_says xs e =
    let h = four (leb (input_count xs) 32) (leb (output_count xs) 32) (leb (instruction_count xs) 2048) (leb (cell_count xs) 16384 and eqb (length xs) (results_at (instruction_count xs) + output_count xs)) e in
    let t = h.1.1.1 in
    record {
      ins = leb-true _ _ h.0;
      outs = leb-true _ _ h.1.0;
      count = leb-true _ _ h.1.1.0;
      cells = leb-true _ _ (first-true (leb (cell_count xs) 16384) _ t);
      long = eqb-true _ _ (second-true (leb (cell_count xs) 16384) _ t);
    }

-- a list too short for a header is none
pub too_short : (xs : List ℕ) → length xs < header → header_ok xs ≡ false
too_short xs h = rw (ne_eqb (length xs) (results_at (instruction_count xs) + output_count xs) (λ e. omega arith)) (simp and-false)

-- the output registers are all that is left behind the instructions
pub results-all : (xs : List ℕ) → Header xs → take (output_count xs) (drop (results_at (instruction_count xs)) xs) ≡ drop (results_at (instruction_count xs)) xs
results-all xs h = take_all (output_count xs) (drop (results_at (instruction_count xs)) xs) (rw length-drop (omega arith))

pub instructions-next : (k p : ℕ) (xs : List ℕ) → instructions_of (suc k) (drop p xs) ≡ instruction_at xs p ∷ instructions_of k (drop (p + width) xs)
instructions-next k p xs = simp (get_or-drop, drop-drop, add-zero)

-- the check, one instruction on: of those that write the registers from own to end, from place p on
module _ (cells end own p : ℕ) (xs : List ℕ) where
  ok-next : (k : ℕ) → instructions_ok cells end own (instructions_of (suc k) (drop p xs))
      ≡ instruction_ok cells end own (instruction_at xs p) and instructions_ok cells end (suc own) (instructions_of k (drop (p + width) xs))
  unfolding instructions_ok
  ok-next k = ap (λ l. instructions_ok cells end own l) (instructions-next k p xs)

  pub ok_step : own < end → instructions_ok cells end own (instructions_of (end - own) (drop p xs))
      ≡ instruction_ok cells end own (instruction_at xs p) and instructions_ok cells end (own + 1) (instructions_of (end - (own + 1)) (drop (p + width) xs))
  ok_step h =
      let z : end - own ≡ suc (end - suc own) = omega arith in
      rw (z, add-one own) (ok-next (end - suc own))

  pub ok_end : end ≤ own → instructions_ok cells end own (instructions_of (end - own) (drop p xs)) ≡ true
  unfolding instructions_ok
  ok_end h = let z : end - own ≡ 0 = omega arith in rw z

-- the check of all instructions is that of those that are left, from register own and place p on
pub record Checking (cells end : ℕ) (xs : List ℕ) (all : Bool) (own p : ℕ) : Type 0 where
  pub same : all ≡ instructions_ok cells end own (instructions_of (end - own) (drop p xs))

module _ {cells end : ℕ} {xs : List ℕ} {all : Bool} {own p : ℕ} (k : Checking cells end xs all own p) where
  pub checked-all : end ≤ own → all ≡ true
  checked-all h = k.same ∙ ok_end cells end own p xs h

  -- the next instruction, and whether it passes
  module _ (h : own < end) {x : Instruction} {here : Bool} (f : here ≡ instruction_ok cells end own x) (i : x ≡ instruction_at xs p) where
    next : all ≡ here and instructions_ok cells end (own + 1) (instructions_of (end - (own + 1)) (drop (p + width) xs))
    next = k.same ∙ ok_step cells end own p xs h ∙ ap (λ b. b and instructions_ok cells end (own + 1) (instructions_of (end - (own + 1)) (drop (p + width) xs))) (sym (f ∙ ap (instruction_ok cells end own) i))

    pub check_fails : here ≡ false → all ≡ false
    check_fails q = next ∙ rw q

    pub check_goes : here ≡ true → Checking cells end xs all (own + 1) (p + width)
    check_goes q = record { same = next ∙ rw q }

-- the output registers, one on
pub below_step : (end i : ℕ) (xs : List ℕ) → i < length xs → all_below end (drop i xs) ≡ ltb (get_or xs i 0) end and all_below end (drop (i + 1) xs)
below_step end i xs h = rw (drop-cons xs i 0 h, add-one)

-- all are below r exactly when each is
all-index : (r : ℕ) (xs : List ℕ) → all_below r xs ≡ true → EachIndex xs (λ k. get_or xs k 0 < r)
all-index r (x ∷ xs) h zero i = ltb-true x r (first-true (ltb x r) (all_below r xs) h)
all-index r (x ∷ xs) h (suc k) i = all-index r xs (second-true (ltb x r) (all_below r xs) h) k (omega arith)
all-index r [] h k i = absurd (omega arith)

index_all : (r : ℕ) (xs : List ℕ) → EachIndex xs (λ k. get_or xs k 0 < r) → all_below r xs ≡ true
index_all r [] h = refl
index_all r (x ∷ xs) h = both_true (ltb x r) (all_below r xs) (lt-ltb x r (h 0 (omega arith))) (index_all r xs (λ k i. h (suc k) (omega arith)))

pub below_all : (r : ℕ) (xs : List ℕ) (b : Bool) → (IsTrue b ↔ EachIndex xs (λ k. get_or xs k 0 < r)) → b ≡ all_below r xs
below_all r xs true h = sym (index_all r xs (h.0 refl))
below_all r xs false h = go (all_below r xs) refl
  where
    go : (b : Bool) → all_below r xs ≡ b → false ≡ b
    go true e = h.1 (all-index r xs e)
    go false e = refl

-- the check opened: the instructions, and all that is left behind them
pub body_opened : (xs : List ℕ) → Header xs → body_ok (input_count xs + instruction_count xs) (decode xs)
    ≡ instructions_ok (cell_count xs) (input_count xs + instruction_count xs) (input_count xs) (instructions_of (instruction_count xs) (drop header xs))
    and all_below (input_count xs + instruction_count xs) (drop (results_at (instruction_count xs)) xs)
unfolding decode
body_opened xs h = rw (results-all xs h)

pub code_opened : (xs : List ℕ) → code_ok xs ≡ header_ok xs and body_ok (input_count xs + instruction_count xs) (decode xs)
unfolding code_ok
code_opened xs = refl

-- what the check of a code shows
module _ (xs : List ℕ) (ok : code_ok xs ≡ true) where
  pub code-header : Header xs
  code-header = header_says xs (first-true (header_ok xs) _ (sym (code_opened xs) ∙ ok))

  body-true : instructions_ok (cell_count xs) (input_count xs + instruction_count xs) (input_count xs) (instructions_of (instruction_count xs) (drop header xs))
      and all_below (input_count xs + instruction_count xs) (drop (results_at (instruction_count xs)) xs) ≡ true
  body-true = sym (body_opened xs code-header) ∙ second-true (header_ok xs) _ (sym (code_opened xs) ∙ ok)

  pub code-instructions : instructions_ok (cell_count xs) (input_count xs + instruction_count xs) (input_count xs) (instructions_of (instruction_count xs) (drop header xs)) ≡ true
  code-instructions = first-true _ (all_below (input_count xs + instruction_count xs) (drop (results_at (instruction_count xs)) xs)) body-true

  pub code-results : all_below (input_count xs + instruction_count xs) (drop (results_at (instruction_count xs)) xs) ≡ true
  code-results =
      second-true (instructions_ok (cell_count xs) (input_count xs + instruction_count xs) (input_count xs) (instructions_of (instruction_count xs) (drop header xs))) _ body-true

-- a number that is none of the numbers of a table's names
pub unnumbered : {A : Type 0} (number_of : A → ℕ) (n : ℕ) → ((a : A) → number_of a ≢ n) → (a : A) → eqb n (number_of a) ≡ false
unnumbered number_of n h a = ne_eqb n (number_of a) (λ e. h a (sym e))
