-- Ticks as they are printed: a line a tick, its outputs as numerals with a space between.
use Rattle.std.specs.Prelude.{ℕ, zero, suc, List, [], ◌∷◌, ◌++◌, leb, take, drop}
use Rattle.word.specs.Choice.{pick, ◌and◌}
use Rattle.word.specs.Limits.{widest}
use Rattle.word.specs.Word.{value}
use Rattle.number.specs.Number.{space, numeral}
use Rattle.number.specs.Row.{line_feed}
use Rattle.player.specs.Samples.{most_ticks}

-- the line of a tick with these outputs; without outputs it is empty
abbrev pub tick_line : List ℕ → List ℕ
tick_line [] = line_feed ∷ []
tick_line (w ∷ []) = numeral (value w) ++ (line_feed ∷ [])
tick_line (w ∷ (v ∷ ws)) = numeral (value w) ++ (space ∷ tick_line (v ∷ ws))

-- the lines of k ticks with m outputs each
abbrev pub ticks_text : (m k : ℕ) → List ℕ → List ℕ
ticks_text m zero ws = []
ticks_text m (suc k) ws = tick_line (take m ws) ++ ticks_text m k (drop m ws)

-- the lines of a block of ticks; of one that is too large, none: "inputs or outputs above 32" are no circuit's
unfoldable pub block_text : (m k : ℕ) → List ℕ → List ℕ
block_text m k ws = pick (leb m widest and leb k most_ticks) (ticks_text m k ws) []
