-- The law of the low bits for each operation and all whole numbers, spelled out: a weaker statement would not give them.
use Rattle.std.proofs.Common.{◌≡◌, ◌+◌, ◌-◌, ◌*◌, ◌%◌, ◌^◌, ℤ, ◌+ℤ◌, ◌-ℤ◌, ◌*ℤ◌}
use Rattle.word.specs.Word.{low}
use Rattle.word.specs.LowBits.Arithmetic.{sum, difference, product}
use Rattle.word.proofs.Low.{keeps_low_bits}

sums : (x y : ℤ) → low (x +ℤ y) ≡ (low x + low y) % 2 ^ 32
sums x y = keeps_low_bits sum x y

differences : (x y : ℤ) → low (x -ℤ y) ≡ (low x + (2 ^ 32 - low y)) % 2 ^ 32
differences x y = keeps_low_bits difference x y

products : (x y : ℤ) → low (x *ℤ y) ≡ (low x * low y) % 2 ^ 32
products x y = keeps_low_bits product x y
