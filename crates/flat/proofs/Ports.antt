-- Inputs into the registers, outputs out of them, and the tick between.
use Prim.Native.Nat.{ℕ, ◌+◌, ◌≤◌, ◌<◌}
use mathlib.Core.Path.{◌≡◌, refl, sym, ap, ap₂, ◌∙◌}
use mathlib.Core.Bool.{Bool, true}
use mathlib.Core.List.{List, [], ◌∷◌, ◌++◌, append_assoc, append-nil}
use native.Mathlib.Nat.{add-zero}
use native.Mathlib.Numerals.{add-one}
use native.Mathlib.Omega.{arith}
use borrow.Author.Tests.{ltb-true, lt-ltb}
use lib.Dec.{ltb}
use lib.ListN.{length, get_or, set, take, drop, drop_of_length-le}
use lib.Seq.{take-suc, take-suc-set, drop-cons, get_or-take, take_all}
use Rattle.word.specs.Choice.{◌and◌}
use Rattle.word.specs.Tick.{tick, stepped}
use Rattle.word.proofs.Lists.{first-true, second-true, both_true}
use Rattle.flat.specs.Flat.{Machine, machine, execute, execute_clips, held}
use Rattle.flat.specs.Code.{header, results_at, most_registers, instructions_of, input_count, output_count, instruction_count, decode, code_tick}
use Rattle.flat.specs.Check.{all_below}
use Rattle.flat.specs.Steps.{Checked}
use Rattle.flat.proofs.Decoded.{code-results, results-all, below_step}

pub put_one : (ρ xs : List ℕ) (i : ℕ) → i < length ρ → i < length xs → take i ρ ≡ take i xs → take (i + 1) (set ρ i (get_or xs i 0)) ≡ take (i + 1) xs
put_one ρ xs i h g e = rw (add-one, take-suc-set ρ i (get_or xs i 0) h, e, take-suc xs i 0 g)

-- registers from e on make no difference to those below
held_below : (ρ rs : List ℕ) (e : ℕ) → all_below e rs ≡ true → held (take e ρ) rs ≡ held ρ rs
held_below ρ [] e h = refl
held_below ρ (r ∷ rs) e h =
    ap₂ {C = List ℕ} (λ x xs. x ∷ xs) (get_or-take e ρ r 0 (ltb-true r e (first-true (ltb r e) (all_below e rs) h))) (held_below ρ rs e (second-true (ltb r e) (all_below e rs) h))

more-below : (rs : List ℕ) (e f : ℕ) → e ≤ f → all_below e rs ≡ true → all_below f rs ≡ true
more-below [] e f l h = refl
more-below (r ∷ rs) e f l h =
    let b : r < e = ltb-true r e (first-true (ltb r e) (all_below e rs) h) in
    both_true (ltb r f) (all_below f rs) (lt-ltb r f (omega arith)) (more-below rs e f l (second-true (ltb r e) (all_below e rs) h))

-- the output registers of a checked code, where there are registers for any code
pub results-below : (code ρ : List ℕ) (c : ℕ) → Checked code → c ≡ instruction_count code → most_registers ≤ length ρ → all_below (length ρ) (drop (results_at c) code) ≡ true
results-below code ρ c k e l =
    rw e (more-below (drop (results_at (instruction_count code)) code) (input_count code + instruction_count code) (length ρ) (omega (arith, k.head.ins, k.head.count)) (code-results code k.ok))

-- outputs so far, and those that are left
pub record Gathering (code : List ℕ) (from : ℕ) (ρ ys : List ℕ) (i : ℕ) : Type 0 where
  pub below : all_below (length ρ) (drop (from + i) code) ≡ true
  pub same : take i ys ++ held ρ (drop (from + i) code) ≡ held ρ (drop from code)

pub gather_none : (code : List ℕ) (from : ℕ) (ρ ys : List ℕ) → all_below (length ρ) (drop from code) ≡ true → Gathering code from ρ ys 0
gather_none code from ρ ys h = record { below = rw add-zero h; same = rw add-zero }

module _ {code : List ℕ} {from : ℕ} {ρ ys : List ℕ} {i : ℕ} (g : Gathering code from ρ ys i) (h : from + i < length code) where
  parts : ltb (get_or code (from + i) 0) (length ρ) and all_below (length ρ) (drop (from + i + 1) code) ≡ true
  parts = sym (below_step (length ρ) (from + i) code h) ∙ g.below

  pub gather_in : get_or code (from + i) 0 < length ρ
  gather_in = ltb-true _ _ (first-true (ltb (get_or code (from + i) 0) (length ρ)) (all_below (length ρ) (drop (from + i + 1) code)) parts)

  pub gather_one : (a : ℕ) → a ≡ get_or code (from + i) 0 → i < length ys → Gathering code from ρ (set ys i (get_or ρ a 0)) (i + 1)
  gather_one a q b =
      let z : from + (i + 1) ≡ from + i + 1 = omega arith in
      let c : drop (from + i) code ≡ a ∷ drop (from + i + 1) code = drop-cons code (from + i) 0 h ∙ rw (q, add-one) in
      record {
        below = rw z (second-true (ltb (get_or code (from + i) 0) (length ρ)) (all_below (length ρ) (drop (from + i + 1) code)) parts);
        same =
            rw (z, add-one i, take-suc-set ys i (get_or ρ a 0) b)
            (append_assoc (take i ys) (get_or ρ a 0 ∷ []) (held ρ (drop (from + i + 1) code)) ∙ sym (ap (λ l. take i ys ++ held ρ l) c) ∙ g.same);
      }

pub gathered : (code : List ℕ) (from : ℕ) (ρ ys : List ℕ) (i : ℕ) → Gathering code from ρ ys i → length ys ≤ i → length code ≤ from + i → ys ≡ held ρ (drop from code)
gathered code from ρ ys i g h l =
    let n : drop (from + i) code ≡ [] = drop_of_length-le code {i = from + i} l in
    sym (take_all i ys h) ∙ sym (append-nil (take i ys)) ∙ ap (λ rs. take i ys ++ held ρ rs) (sym n) ∙ g.same

-- a tick of the code that numbers stand for, opened
decoded_tick : (code xs controls cs : List ℕ) → code_tick (decode code) (tick xs controls) cs
    ≡ stepped (held (execute controls (instructions_of (instruction_count code) (drop header code)) (machine xs 0 cs)).registers (take (output_count code) (drop (results_at (instruction_count code)) code)))
    (execute controls (instructions_of (instruction_count code) (drop header code)) (machine xs 0 cs)).cells
    (execute_clips controls (instructions_of (instruction_count code) (drop header code)) (machine xs 0 cs))
unfolding decode code_tick
decoded_tick code xs controls cs = refl

-- inputs put, instructions executed, outputs gathered: a tick
pub ticked : (code xs controls cs ρ₁ ρ₂ cs₂ ys : List ℕ) (clipped : Bool) → Checked code → take (input_count code) ρ₁ ≡ xs
    → execute controls (instructions_of (instruction_count code) (drop header code)) (machine (take (input_count code) ρ₁) 0 cs) ≡ machine (take (input_count code + instruction_count code) ρ₂) 0 cs₂
    → ys ≡ held ρ₂ (drop (results_at (instruction_count code)) code)
    → clipped ≡ execute_clips controls (instructions_of (instruction_count code) (drop header code)) (machine (take (input_count code) ρ₁) 0 cs)
    → code_tick (decode code) (tick xs controls) cs ≡ stepped ys cs₂ clipped
ticked code xs controls cs ρ₁ ρ₂ cs₂ ys clipped k e m q c =
    ap (λ l. code_tick (decode code) (tick l controls) cs) (sym e)
    ∙ decoded_tick code (take (input_count code) ρ₁) controls cs
    ∙ ap₂ (λ (m : Machine) rs. stepped (held m.registers rs) m.cells (execute_clips controls (instructions_of (instruction_count code) (drop header code)) (machine (take (input_count code) ρ₁) 0 cs))) m (results-all code k.head)
    ∙ ap₂ (λ l b. stepped l cs₂ b) (held_below ρ₂ (drop (results_at (instruction_count code)) code) (input_count code + instruction_count code) (code-results code k.ok) ∙ sym q) (sym c)
