-- The lines of ticks, on examples.
use mathlib.Core.Path.{◌≡◌, refl}
use mathlib.Core.List.{[], ◌∷◌}
use Rattle.word.specs.Word.{value}
use Rattle.number.specs.Number.{digits, decimal, numeral}
use Rattle.player.specs.Ticks.{block_text}

-- two ticks of two outputs: "1 -1" and "0 12"
two-ticks : block_text 2 2 (1 ∷ 4294967295 ∷ 0 ∷ 12 ∷ 7 ∷ []) ≡ 49 ∷ 32 ∷ 45 ∷ 49 ∷ 10 ∷ 48 ∷ 32 ∷ 49 ∷ 50 ∷ 10 ∷ []
unfolding block_text numeral decimal digits value
two-ticks = refl

-- a tick without outputs is an empty line
no_outputs : block_text 0 3 (5 ∷ []) ≡ 10 ∷ 10 ∷ 10 ∷ []
unfolding block_text
no_outputs = refl

-- of a block that is too large there is no line
too_wide : block_text 33 1 [] ≡ []
unfolding block_text
too_wide = refl

too_long : block_text 0 257 [] ≡ []
unfolding block_text
too_long = refl
