-- The lowest number that a test holds for.
use Rattle.std.specs.Prelude.{ℕ, zero, suc, Bool}
use Rattle.word.specs.Choice.{pick}

-- of the n numbers from i on; the one behind them where it holds for none
unfoldable pub lowest : (ℕ → Bool) → (n i : ℕ) → ℕ
lowest test zero i = i
lowest test (suc n) i = pick (test i) i (lowest test n (suc i))
