-- "Sums, differences and products keep the low 32 bits": the law, one over the three.
use Rattle.std.specs.Prelude.{◌≡◌, ℕ, ◌+◌, ◌-◌, ◌*◌, ◌%◌, ◌^◌, ℤ, ◌+ℤ◌, ◌-ℤ◌, ◌*ℤ◌}
use Rattle.word.specs.Word.{low}

pub data Arithmetic : Type 0 where
  sum : Arithmetic
  difference : Arithmetic
  product : Arithmetic

-- the operation on whole numbers
abbrev pub exact : Arithmetic → ℤ → ℤ → ℤ
exact sum x y = x +ℤ y
exact difference x y = x -ℤ y
exact product x y = x *ℤ y

-- and on the bits of words
abbrev pub on_words : Arithmetic → ℕ → ℕ → ℕ
on_words sum a b = a + b
on_words difference a b = a + (2 ^ 32 - b)
on_words product a b = a * b

-- the low bits of the exact result are those of the operation on the low bits, modulo 2^32
abbrev pub KeepsLowBits : Type 0
KeepsLowBits = (o : Arithmetic) (x y : ℤ) → low (exact o x y) ≡ on_words o (low x) (low y) % 2 ^ 32
