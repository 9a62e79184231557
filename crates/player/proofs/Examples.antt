-- The definitions on samples, by computation.
use Prim.Native.Nat.{ℕ}
use mathlib.Core.Path.{◌≡◌, refl}
use mathlib.Core.List.{List, [], ◌∷◌, map, flatten}
use Rattle.word.specs.Word.{low}
use Rattle.word.specs.Tick.{tick, zeros}
use Rattle.number.specs.Number.{digits, decimal, numeral, column, candidate, number_in}
use Rattle.column.specs.Line.{lines}
use Rattle.player.specs.declared.samples.Stop.TheVariants.{Full, Rest, Control, Malformed}
use Rattle.player.specs.Samples.{circuit_part, samples_part, words, said, starting, reads, block_read, history, asked}
use Rattle.player.specs.Samples.Said.{inputs, control, malformed}

-- "a", line feed, empty line, "b", empty line; an empty line at the very beginning; none
parted : map circuit_part ((97 ∷ 10 ∷ 10 ∷ 98 ∷ 10 ∷ 10 ∷ []) ∷ (10 ∷ 97 ∷ []) ∷ (97 ∷ 10 ∷ 98 ∷ []) ∷ []) ≡ (97 ∷ 10 ∷ []) ∷ [] ∷ (97 ∷ 10 ∷ 98 ∷ []) ∷ []
unfolding circuit_part
parted = refl

samples_parted : map samples_part ((97 ∷ 10 ∷ 10 ∷ 98 ∷ 10 ∷ 10 ∷ []) ∷ (10 ∷ 97 ∷ []) ∷ (97 ∷ 10 ∷ 98 ∷ []) ∷ []) ≡ (98 ∷ 10 ∷ 10 ∷ []) ∷ (97 ∷ []) ∷ [] ∷ []
unfolding samples_part circuit_part
samples_parted = refl

-- lines of two inputs: "1 -2", " 01 2", "  1  2 ", "1", "1 2 3", "", "1\t2", "1 2\r", "1 2147483648", "control 15 -1", " control  0 7 ", "control 16 7", "control -1 7", "control 3", "control 3 7 9", "controls 3 7", "Control 3 7"
lines-said :
    map (said 2)
    ((49 ∷ 32 ∷ 45 ∷ 50 ∷ []) ∷
    (32 ∷ 48 ∷ 49 ∷ 32 ∷ 50 ∷ []) ∷
    (32 ∷ 32 ∷ 49 ∷ 32 ∷ 32 ∷ 50 ∷ 32 ∷ []) ∷
    (49 ∷ []) ∷
    (49 ∷ 32 ∷ 50 ∷ 32 ∷ 51 ∷ []) ∷
    [] ∷
    (49 ∷ 9 ∷ 50 ∷ []) ∷
    (49 ∷ 32 ∷ 50 ∷ 13 ∷ []) ∷
    (49 ∷ 32 ∷ 50 ∷ 49 ∷ 52 ∷ 55 ∷ 52 ∷ 56 ∷ 51 ∷ 54 ∷ 52 ∷ 56 ∷ []) ∷
    (99 ∷ 111 ∷ 110 ∷ 116 ∷ 114 ∷ 111 ∷ 108 ∷ 32 ∷ 49 ∷ 53 ∷ 32 ∷ 45 ∷ 49 ∷ []) ∷
    (32 ∷ 99 ∷ 111 ∷ 110 ∷ 116 ∷ 114 ∷ 111 ∷ 108 ∷ 32 ∷ 32 ∷ 48 ∷ 32 ∷ 55 ∷ 32 ∷ []) ∷
    (99 ∷ 111 ∷ 110 ∷ 116 ∷ 114 ∷ 111 ∷ 108 ∷ 32 ∷ 49 ∷ 54 ∷ 32 ∷ 55 ∷ []) ∷
    (99 ∷ 111 ∷ 110 ∷ 116 ∷ 114 ∷ 111 ∷ 108 ∷ 32 ∷ 45 ∷ 49 ∷ 32 ∷ 55 ∷ []) ∷
    (99 ∷ 111 ∷ 110 ∷ 116 ∷ 114 ∷ 111 ∷ 108 ∷ 32 ∷ 51 ∷ []) ∷
    (99 ∷ 111 ∷ 110 ∷ 116 ∷ 114 ∷ 111 ∷ 108 ∷ 32 ∷ 51 ∷ 32 ∷ 55 ∷ 32 ∷ 57 ∷ []) ∷
    (99 ∷ 111 ∷ 110 ∷ 116 ∷ 114 ∷ 111 ∷ 108 ∷ 115 ∷ 32 ∷ 51 ∷ 32 ∷ 55 ∷ []) ∷
    (67 ∷ 111 ∷ 110 ∷ 116 ∷ 114 ∷ 111 ∷ 108 ∷ 32 ∷ 51 ∷ 32 ∷ 55 ∷ []) ∷
    [])
    ≡ inputs (1 ∷ 4294967294 ∷ []) ∷
    malformed ∷
    inputs (1 ∷ 2 ∷ []) ∷
    malformed ∷
    malformed ∷
    malformed ∷
    malformed ∷
    malformed ∷
    malformed ∷
    control 15 4294967295 ∷
    control 0 7 ∷
    malformed ∷
    malformed ∷
    malformed ∷
    malformed ∷
    malformed ∷
    malformed ∷
    []
unfolding said words number_in candidate column numeral decimal digits low
lines-said = refl

-- with no inputs an empty line is a tick
empty-said : said 0 [] ≡ inputs []
unfolding said words
empty-said = refl

-- "1 -2", "control 3 7", an empty line, "x"
abbrev pub text : List ℕ
text = 49 ∷ 32 ∷ 45 ∷ 50 ∷ 10 ∷ 99 ∷ 111 ∷ 110 ∷ 116 ∷ 114 ∷ 111 ∷ 108 ∷ 32 ∷ 51 ∷ 32 ∷ 55 ∷ 10 ∷ 10 ∷ 120 ∷ []

-- "1 -2", "3 4", "5"
abbrev pub two-ticks : List ℕ
two-ticks = 49 ∷ 32 ∷ 45 ∷ 50 ∷ 10 ∷ 51 ∷ 32 ∷ 52 ∷ 10 ∷ 53 ∷ []

-- a block that a control ends; one that lacks room for a third word; one whose third line has no line feed; a malformed line
control_ends : reads 2 text (9 ∷ 9 ∷ 9 ∷ 9 ∷ []) ≡ block_read (record { ticks = 1; bytes = 17; stop = Control 3 7 }) (1 ∷ 4294967294 ∷ 9 ∷ 9 ∷ [])
unfolding reads starting flatten lines said words number_in candidate column numeral decimal digits low
control_ends = refl

room_ends : reads 2 two-ticks (9 ∷ 9 ∷ 9 ∷ []) ≡ block_read (record { ticks = 1; bytes = 5; stop = Full }) (1 ∷ 4294967294 ∷ 9 ∷ [])
unfolding reads starting flatten lines said words number_in candidate column numeral decimal digits low
room_ends = refl

rest_ends : reads 2 two-ticks (9 ∷ 9 ∷ 9 ∷ 9 ∷ 9 ∷ 9 ∷ 9 ∷ []) ≡ block_read (record { ticks = 2; bytes = 9; stop = Rest }) (1 ∷ 4294967294 ∷ 3 ∷ 4 ∷ 9 ∷ 9 ∷ 9 ∷ [])
unfolding reads starting flatten lines said words number_in candidate column numeral decimal digits low
rest_ends = refl

malformed_ends : reads 1 text (9 ∷ 9 ∷ []) ≡ block_read (record { ticks = 0; bytes = 0; stop = Malformed }) (9 ∷ 9 ∷ [])
unfolding reads starting flatten lines said words number_in candidate column numeral decimal digits low
malformed_ends = refl

-- an empty circuit, then a tick of no inputs, a control, another tick, and a malformed last line
asked_for : asked 0 (10 ∷ 10 ∷ 99 ∷ 111 ∷ 110 ∷ 116 ∷ 114 ∷ 111 ∷ 108 ∷ 32 ∷ 51 ∷ 32 ∷ 55 ∷ 10 ∷ 10 ∷ 120 ∷ []) ≡ tick [] (zeros 16) ∷ tick [] (0 ∷ 0 ∷ 0 ∷ 7 ∷ zeros 12) ∷ []
unfolding asked history samples_part circuit_part lines said words number_in candidate column numeral decimal digits low
asked_for = refl
