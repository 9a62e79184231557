-- Words as 32-bit numbers: one to one, and the room that they need.
use Prim.Native.Nat.{ℕ, suc, ◌-◌, ◌%◌, ◌^◌, ◌≤◌, ◌<◌}
use mathlib.Core.Path.{◌≡◌, ◌∙◌}
use mathlib.Core.Bool.{true}
use native.Mathlib.Decide.{dec_lt}
use native.Mathlib.Omega.{arith}
use borrow.Author.Tests.{lt-ltb, ltb-true}
use lib.IntN.{ℤ, pos, negsuc}
use lib.ListN.{length}
use Rattle.word.specs.Word.{value, low}
use Rattle.word.proofs.Low.{value-small, value_large}
use Rattle.number.specs.Number.{numeral, fits}
use Rattle.number.proofs.Decimal.{decimal-length}
use Rattle.number.proofs.Put.{numeral-small, numeral_large}

pub value-fits : (w : ℕ) → w < 2 ^ 32 → fits (value w) ≡ true
value-fits w h = go (dec_lt w (2 ^ 31))
  where
    go : Dec (w < 2 ^ 31) → fits (value w) ≡ true
    go (yes s) = rw (value-small w s) (lt-ltb w (2 ^ 31) s)
    go (no l) = let b : 2 ^ 31 ≤ w = omega arith in rw (value_large w b) (lt-ltb (2 ^ 32 - suc w) (2 ^ 31) (omega arith))

pub value_low : (z : ℤ) → fits z ≡ true → value (low z) ≡ z
unfolding low
value_low (pos n) f =
    let b : n < 2 ^ 31 = ltb-true n (2 ^ 31) f in
    let e : n % 2 ^ 32 ≡ n = omega arith in
    rw e (value-small n b)
value_low (negsuc n) f =
    let b : n < 2 ^ 31 = ltb-true n (2 ^ 31) f in
    let e : 2 ^ 32 - suc (2 ^ 32 - suc (n % 2 ^ 32)) ≡ n = omega arith in
    value_large (2 ^ 32 - suc (n % 2 ^ 32)) (omega arith) ∙ rw e

-- a word's numeral is at most ten digits behind a minus
pub numeral-room : (w : ℕ) → w < 2 ^ 32 → length (numeral (value w)) ≤ 11
numeral-room w h = go (dec_lt w (2 ^ 31))
  where
    go : Dec (w < 2 ^ 31) → length (numeral (value w)) ≤ 11
    go (yes s) = rw (numeral-small w s) (omega (arith, decimal-length w 10 (omega arith) (omega arith)))
    go (no l) =
        let b : 2 ^ 31 ≤ w = omega arith in
        rw (numeral_large w (2 ^ 32 - w) b h (omega arith)) (omega (arith, decimal-length (2 ^ 32 - w) 10 (omega arith) (omega arith)))

-- every word has room in 12 columns
pub word_room : (w : ℕ) → w < 2 ^ 32 → length (numeral (value w)) ≤ 12
word_room w h = omega (arith, numeral-room w h)
