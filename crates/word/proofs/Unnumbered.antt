-- What a number that is no operation's gives.
use Rattle.std.proofs.Common.{◌≡◌, ◌≢◌, ℕ, ◌<◌, false, eqb, length, refl, sym, arith, ne_eqb}
use native.Mathlib.Decide.{dec_lt}
use lib.ListN.{get_or-eq_default}
use Rattle.word.specs.declared.Operation.{Operation}
use Rattle.word.specs.declared.Operation.TheVariants.{Add, Subtract, Multiply, Quotient, Remainder, Less, Equal, Absolute, Negate, Select}
use Rattle.word.specs.Operation.{operate, operand_table, operands}
use Rattle.word.specs.Table.{number_of}

abbrev pub Unnumbered : ℕ → Type 0
Unnumbered op = (o : Operation) → number_of o ≢ op

other : (op : ℕ) → Unnumbered op → (o : Operation) → eqb op (number_of o) ≡ false
other op h o = ne_eqb op (number_of o) (λ e. h o (sym e))

pub operate_none : (op a b c : ℕ) → Unnumbered op → operate op a b c ≡ 0
unfolding operate
operate_none op a b c h =
    simp (other op h Add, other op h Subtract, other op h Multiply, other op h Quotient, other op h Remainder, other op h Less, other op h Equal, other op h Absolute, other op h Negate, other op h Select)

pub operands_none : (op : ℕ) → Unnumbered op → operands op ≡ 0
unfolding operands
operands_none op h = go (dec_lt op (length operand_table))
  where
    go : Dec (op < length operand_table) → operands op ≡ 0
    go (yes l) =
        let none : op ≡ 0 = omega (arith, h Add, h Subtract, h Multiply, h Quotient, h Remainder, h Less, h Equal, h Absolute, h Negate, h Select) in
        rw none refl
    go (no l) = get_or-eq_default operand_table 0 (omega arith)
