-- `word::multiply` meets its contract: the product of two words fits 64 bits.
use Rattle.std.proofs.Common.{ℕ, ◌*◌, ◌^◌, ◌<◌, sym, lt_of_le_of_lt, le_of_lt, mul-le-mul_left, mul-lt-mul_of_pos_right, lit<}
use Rattle.word.specs.Operation.{multiply}
use Rattle.word.specs.LowBits.Arithmetic.{product}
use Rattle.word.proofs.Forms.{word_form}
use Rattle.word.proofs.multiply.Goals as goal

below : (a b : ℕ) → a < 2 ^ 32 → b < 2 ^ 32 → a * b < 2 ^ 64
below a b ha hb = lt_of_le_of_lt (mul-le-mul_left a (le_of_lt hb)) (mul-lt-mul_of_pos_right ha (lit< tt))

pub returns : goal.returns
unfolding multiply
returns c = sym (word_form product _ _ c.ranges.a.fits c.ranges.b.fits)
