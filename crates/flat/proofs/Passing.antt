-- Code that passes the check: one instruction of each kind, and instructions one after another.
use Prim.Native.Nat.{ℕ, suc, ◌+◌, ◌≤◌, ◌<◌}
use mathlib.Core.Path.{◌≡◌, refl}
use mathlib.Core.Bool.{Bool, true, false}
use mathlib.Core.List.{List, [], ◌∷◌, ◌++◌}
use native.Mathlib.Nat.{add-zero, add-suc, suc-add}
use native.Mathlib.Omega.{arith}
use borrow.Author.Tests.{ltb-true}
use lib.Dec.{eqb, leb, ltb, lit<}
use lib.ListN.{length}
use Rattle.word.specs.Choice.{pick}
use Rattle.word.specs.Operation.{operands, operand}
use Rattle.word.proofs.Lists.{both_true, first-true, second-true, is_below, is-most}
use Rattle.flat.specs.Flat.{Instruction}
use Rattle.flat.specs.Instructions as flat
use Rattle.flat.specs.Check.{input_ok, instruction_ok, instructions_ok}

-- in a code of so many cells, whose registers end before `end`, with the own register r
module _ (cells end r : ℕ) where
  pub number_ok : (v : ℕ) → instruction_ok cells end r (flat.number v) ≡ true
  unfolding instruction_ok
  number_ok v = refl

  pub control-ok : (slot : ℕ) → slot < 16 → instruction_ok cells end r (flat.control slot) ≡ true
  unfolding instruction_ok
  control-ok slot h = both_true (ltb slot 16) true (is_below slot 16 h) refl

  input_ok_lem : (op k x : ℕ) → (k < operands op → x < r) → input_ok op k r (operand op k x) ≡ true
  input_ok_lem op k x h = go (ltb k (operands op)) (λ e. h (ltb-true k (operands op) e))
    where
      go : (has : Bool) → (has ≡ true → x < r) → pick has (ltb (pick has x 0) r) (eqb (pick has x 0) 0) ≡ true
      go true h = is_below x r (h refl)
      go false h = refl

  pub operation-ok : (op x y z : ℕ) → 0 < operands op → x < r → (1 < operands op → y < r) → (2 < operands op → z < r) → instruction_ok cells end r (flat.operation op x y z) ≡ true
  unfolding instruction_ok
  operation-ok op x y z o h f g =
      both_true (ltb 0 (operands op)) _ (is_below 0 (operands op) o)
      (both_true (ltb x r) _ (is_below x r h) (both_true _ _ (input_ok_lem op 1 y f) (both_true _ true (input_ok_lem op 2 z g) refl)))

  pub addition-ok : (x y : ℕ) → x < r → y < r → instruction_ok cells end r (flat.addition x y) ≡ true
  addition-ok x y h g = operation-ok 1 x y 0 (unfold operands in lit< tt) h (λ e. g) (λ e. omega arith)

  pub delay-ok : (x y a d : ℕ) → x < r → y < r → d ≤ 4095 → a + suc d ≤ cells → instruction_ok cells end r (flat.delay x y a d) ≡ true
  unfolding instruction_ok
  delay-ok x y a d h g l u =
      both_true (ltb x r) _ (is_below x r h) (both_true (ltb y r) _ (is_below y r g) (both_true (leb d 4095) _ (is-most d 4095 l) (both_true (leb (a + suc d) cells) true (is-most (a + suc d) cells u) refl)))

  pub read_ok : (a : ℕ) → a < cells → instruction_ok cells end r (flat.read a) ≡ true
  unfolding instruction_ok
  read_ok a h = both_true (ltb a cells) true (is_below a cells h) refl

  pub write-ok : (a x : ℕ) → a < cells → x < r → instruction_ok cells end r (flat.write a x) ≡ true
  unfolding instruction_ok
  write-ok a x h g = both_true (ltb a cells) _ (is_below a cells h) (both_true (ltb x r) true (is_below x r g) refl)

  pub skip-ok : (x k : ℕ) → x < r → suc (r + k) ≤ end → instruction_ok cells end r (flat.skip x k) ≡ true
  unfolding instruction_ok
  skip-ok x k h g = both_true (ltb x r) _ (is_below x r h) (both_true (leb (suc (r + k)) end) true (is-most (suc (r + k)) end g) refl)

  pub none-ok : instructions_ok cells end r [] ≡ true
  unfolding instructions_ok
  none-ok = refl

  pub more-ok : (x : Instruction) (xs : List Instruction) → instruction_ok cells end r x ≡ true → instructions_ok cells end (suc r) xs ≡ true → instructions_ok cells end r (x ∷ xs) ≡ true
  unfolding instructions_ok
  more-ok x xs p q = both_true _ _ p q

  pub one_ok : (x : Instruction) → instruction_ok cells end r x ≡ true → instructions_ok cells end r (x ∷ []) ≡ true
  unfolding instructions_ok
  one_ok x p = both_true _ true p refl

pub append_ok : (cells end r : ℕ) (xs ys : List Instruction) → instructions_ok cells end r xs ≡ true → instructions_ok cells end (r + length xs) ys ≡ true → instructions_ok cells end r (xs ++ ys) ≡ true
unfolding instructions_ok
append_ok cells end r [] ys p q = rw add-zero at q
append_ok cells end r (x ∷ xs) ys p q =
    both_true _ _ (first-true (instruction_ok cells end r x) _ p)
    (append_ok cells end (suc r) xs ys (second-true (instruction_ok cells end r x) _ p) (rw (add-suc, ← suc-add) at q))
