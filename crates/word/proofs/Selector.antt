-- "Add op 10 with three inputs: it gives the second when the first is 0, otherwise the third."
use Rattle.std.proofs.Common.{◌≡◌, ℕ, zero, suc, ◌^◌, ◌<◌, ◌≤◌, leb, length, take, refl, arith, lit≤, get_or-take, leb-true}
use native.Mathlib.Decide.{dec_lt}
use lib.Dec.{eqb-suc-zero}
use lib.ListN.{get_or-eq_default}
use Rattle.word.specs.Operation.{select, operate, operand_table, operands}
use Rattle.word.proofs.Each.{each_at, each-every}

three-inputs : operands 10 ≡ 3
unfolding operands
three-inputs = refl

-- no other operation has a third input
pub selector_alone : (o : ℕ) → (o ≡ 10 → ⊥) → operands o ≤ 2
unfolding operands
selector_alone o n = go (dec_lt o 10)
  where
    go : Dec (o < 10) → operands o ≤ 2
    go (yes l) = rw (← get_or-take 10 operand_table o 0 l) (each_at (λ x. x ≤ 2) 0 (take 10 operand_table) o (lit≤ tt) (each-every (λ x. x ≤ 2) (λ x. leb x 2) (λ x h. leb-true x 2 h) (take 10 operand_table) refl))
    go (no l) = let m : length operand_table ≤ o = omega arith in rw (get_or-eq_default operand_table 0 m) (lit≤ tt)

second_at_zero : (b c : ℕ) → select 0 b c ≡ b
unfolding select
second_at_zero b c = refl

third_otherwise : (a b c : ℕ) → select (suc a) b c ≡ c
unfolding select
third_otherwise a b c = rw eqb-suc-zero

pub select_word : (a b c : ℕ) → b < 2 ^ 32 → c < 2 ^ 32 → select a b c < 2 ^ 32
select_word zero b c hb hc = rw (second_at_zero b c) hb
select_word (suc a) b c hb hc = rw (third_otherwise a b c) hc

op_10 : (a b c : ℕ) → operate 10 a b c ≡ select a b c
unfolding operate
op_10 a b c = refl
