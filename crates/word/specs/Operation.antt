-- The operations of the document's table on words, through their signed reading; how many inputs each has; the demand.
use Rattle.std.specs.Prelude.{ℕ, Bool, not, List, [], ◌∷◌, pos, ◌+ℤ◌, ◌-ℤ◌, ◌*ℤ◌, neg_ℤ, ◌==◌, int_div, int_lt, int_rem, nat_lt, slice_index, unsigned_abs}
use Rattle.word.specs.Choice.{pick, bit}
use Rattle.word.specs.Word.{value, low}

-- "Sums, differences and products keep the low 32 bits."
unfoldable pub add : ℕ → ℕ → ℕ
add a b = low (value a +ℤ value b)

unfoldable pub subtract : ℕ → ℕ → ℕ
subtract a b = low (value a -ℤ value b)

unfoldable pub multiply : ℕ → ℕ → ℕ
multiply a b = low (value a *ℤ value b)

-- "toward zero; by 0 gives 0; -2147483648 by -1 gives -2147483648", the low bits of the quotient
unfoldable pub quotient : ℕ → ℕ → ℕ
quotient a b = pick (b == 0) 0 (low (int_div (value a) (value b)))

-- "sign of the dividend; by 0 or by -1 gives 0"
unfoldable pub remainder : ℕ → ℕ → ℕ
remainder a b = pick (b == 0) 0 (low (int_rem (value a) (value b)))

unfoldable pub less : ℕ → ℕ → ℕ
less a b = bit (int_lt (value a) (value b))

unfoldable pub equal : ℕ → ℕ → ℕ
equal a b = bit (a == b)

-- "both give -2147483648 for itself"
unfoldable pub absolute : ℕ → ℕ
absolute a = low (pos (unsigned_abs (value a)))

unfoldable pub negate : ℕ → ℕ
negate a = low (neg_ℤ (value a))

-- E4: "it gives the second when the first is 0, otherwise the third"
unfoldable pub select : ℕ → ℕ → ℕ → ℕ
select a b c = pick (a == 0) b c

-- the operation `op` of the table; one with fewer inputs does not read the others
unfoldable pub operate : ℕ → ℕ → ℕ → ℕ → ℕ
operate op a b c =
    pick (op == 1) (add a b)
    (pick (op == 2) (subtract a b)
    (pick (op == 3) (multiply a b)
    (pick (op == 4) (quotient a b)
    (pick (op == 5) (remainder a b)
    (pick (op == 6) (less a b)
    (pick (op == 7) (equal a b)
    (pick (op == 8) (absolute a)
    (pick (op == 9) (negate a)
    (pick (op == 10) (select a b c) 0)))))))))

-- the table's column "inputs" by op number; there is no op 0
abbrev pub operand_table : List ℕ
operand_table = 0 ∷ 2 ∷ 2 ∷ 2 ∷ 2 ∷ 2 ∷ 2 ∷ 2 ∷ 1 ∷ 1 ∷ 3 ∷ []

-- how many inputs the operation `op` has; 0 where there is no such operation
unfoldable pub operands : ℕ → ℕ
operands op = slice_index operand_table op

-- x as the input k of the operation `op`, counted from 0: "a one-input op has 0 for the last"
abbrev pub operand : (op k x : ℕ) → ℕ
operand op k x = pick (nat_lt k (operands op)) x 0

-- E1: "A tick is now a demand when the clock isn't 0."
unfoldable pub demand : ℕ → Bool
demand clock = not (clock == 0)
