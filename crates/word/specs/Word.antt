-- "A sample is a 32-bit two's complement whole number." A word is the number of its bits, from 0 to 2^32 - 1.
use Rattle.std.specs.Prelude.{ℕ, suc, ◌-◌, ◌%◌, ◌^◌, min, Bool, true, false, ℤ, pos, negsuc, nat_lt}
use Rattle.word.specs.Choice.{pick}

-- the signed reading of a word: the whole number that it stands for
unfoldable pub value : ℕ → ℤ
value w = pick (nat_lt w (2 ^ 31)) (pos w) (negsuc (2 ^ 32 - suc w))

-- "the low 32 bits" of a whole number: the word that is equal to it modulo 2^32
unfoldable pub low : ℤ → ℕ
low (pos n) = n % 2 ^ 32
low (negsuc n) = 2 ^ 32 - suc (n % 2 ^ 32)

-- "taken as 0 below 0 and as D above D"
abbrev pub within : ℕ → ℤ → ℕ
within d (pos n) = min n d
within d (negsuc n) = 0

-- the amount A of a delay of at most d, from its second input
unfoldable pub clamp : ℕ → ℕ → ℕ
clamp amount d = within d (value amount)

-- E6: "whether the amount was outside 0 to D"
abbrev pub outside : ℕ → ℤ → Bool
outside d (pos n) = nat_lt d n
outside d (negsuc n) = true

unfoldable pub clipped : ℕ → ℕ → Bool
clipped amount d = outside d (value amount)

-- the word of a magnitude with its sign
abbrev pub with_sign : Bool → ℕ → ℕ
with_sign true m = m
with_sign false m = (2 ^ 32 - m) % 2 ^ 32
