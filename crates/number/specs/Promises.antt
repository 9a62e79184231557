-- What the function that reads a column promises, and its helpers.
use Rattle.std.specs.Prelude.{Option as StdOption, Some, None, MatchOption, ◌≢◌, ℕ, ◌+◌, ◌≤◌, ◌<◌, ◌≡◌, List, leb, ℤ, length, get_or}
use Rattle.std.proofs.Math.Option.{Option, none, some}
use Rattle.word.specs.Choice.{pick, ◌and◌}
use Rattle.word.specs.Word.{low}
use Rattle.number.specs.Number.{space, decimal, same, amount}

-- the natural number, at most `most`, whose decimal text this is
unfoldable pub natural : ℕ → List ℕ → Option ℕ
natural most text = let n = amount 0 text in pick (same (decimal n) text and leb n most) (some n) none

-- a natural number, and a number by its word
abbrev pub natural_found : Option ℕ → StdOption ℕ
natural_found none = None
natural_found (some n) = Some n

abbrev pub found : Option ℤ → StdOption ℕ
found none = None
found (some z) = Some (low z)

-- r spaces stand before anything else
pub record Spaces (text : List ℕ) (r : ℕ) : Type 0 where
  pub within : r ≤ length text
  pub all : (k : ℕ) → k < r → get_or text k 0 ≡ space
  pub end : r < length text → get_or text r 0 ≡ space → ⊥

-- where the first byte stands that is no space
abbrev pub Unspaced : List ℕ → StdOption ℕ → Type 0
Unspaced text r = MatchOption r (Spaces text (length text)) (λ at. (at < length text) × Spaces text at)

-- the digit that a byte is
abbrev pub Digit : ℕ → StdOption ℕ → Type 0
Digit byte r = MatchOption r ((d : ℕ) → d < 10 → byte ≢ 48 + d) (λ d. (d < 10) × (byte ≡ 48 + d))
