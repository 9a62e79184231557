-- The input of a player: a column file, an empty line, and then the samples, one line a tick.
use Rattle.std.specs.Prelude.{ℕ, suc, ◌+◌, ◌-◌, Bool, true, false, eqb, ltb, ℤ, length, drop, set}
use mathlib.Core.List.{List, [], ◌∷◌, map, flatten}
use Rattle.std.proofs.Math.Option.{Option, none, some}
use Rattle.std.proofs.lemmas.List.Edits.{sets}
use Rattle.word.specs.Choice.{pick, ◌and◌}
use Rattle.word.specs.Limits.{control_count}
use Rattle.word.specs.Word.{low}
use Rattle.word.specs.Tick.{Tick, tick, head_or, zeros}
use Rattle.number.specs.Number.{space, same, contains, number_in, word_of}
use Rattle.number.specs.Row.{line_feed}
use Rattle.column.specs.Line.{lines, before}
use Rattle.player.specs.declared.samples.Stop.{Stop}
use Rattle.player.specs.declared.samples.Stop.TheVariants.{Full, Rest, Control, Malformed}
use Rattle.player.specs.declared.samples.Block.{Block}

-- what stands before the first empty line, which is a line feed after a line feed; `last` is the byte before
abbrev pub up_to_empty : ℕ → List ℕ → List ℕ
up_to_empty last [] = []
up_to_empty last (b ∷ bs) = pick (eqb b line_feed and eqb last line_feed) [] (b ∷ up_to_empty b bs)

-- the column file: what stands before the first empty line, also at the very beginning, or all of it if there is none
unfoldable pub circuit_part : List ℕ → List ℕ
circuit_part input = up_to_empty line_feed input

-- the samples: what stands after that empty line
unfoldable pub samples_part : List ℕ → List ℕ
samples_part input = drop (suc (length (circuit_part input))) input

-- what stands before the first byte c
abbrev pub up_to : ℕ → List ℕ → List ℕ
up_to c [] = []
up_to c (b ∷ bs) = pick (eqb b c) [] (b ∷ up_to c bs)

-- what stands between spaces
abbrev pub pieces : List ℕ → List (List ℕ)
pieces [] = [] ∷ []
pieces (b ∷ bs) = pick (eqb b space) ([] ∷ pieces bs) (before b (pieces bs))

abbrev pub non_empty : List (List ℕ) → List (List ℕ)
non_empty [] = []
non_empty ([] ∷ ls) = non_empty ls
non_empty ((b ∷ l) ∷ ls) = (b ∷ l) ∷ non_empty ls

-- the words of a line: the non-empty runs of bytes other than space
unfoldable pub words : List ℕ → List (List ℕ)
words text = non_empty (pieces text)

-- what a line says: the inputs of a tick, the value of a control's slot, or nothing
pub data Said : Type 0 where
  inputs : List ℕ → Said
  control : ℕ → ℕ → Said
  malformed : Said

abbrev pub is_number : Option ℤ → Bool
is_number none = false
is_number (some z) = true

abbrev pub are_numbers : List (List ℕ) → Bool
are_numbers [] = true
are_numbers (w ∷ ws) = is_number (number_in w) and are_numbers ws

-- the 32-bit word of a number's text
abbrev pub word_in : List ℕ → ℕ
word_in w = word_of (number_in w)

-- a tick: exactly n words, each a number in the form of the column file
abbrev pub is_tick : ℕ → List (List ℕ) → Bool
is_tick n ws = eqb (length ws) n and are_numbers ws

abbrev pub tick_said : ℕ → List (List ℕ) → Said
tick_said n ws = pick (is_tick n ws) (inputs (map word_in ws)) malformed

-- a control's slot, 0 to 15, and its value; the word of a negative number is above 15
abbrev pub setting : Option ℤ → Option ℤ → Said
setting none v = malformed
setting (some s) none = malformed
setting (some s) (some v) = pick (ltb (low s) control_count) (control (low s) (low v)) malformed

abbrev pub control_said : List (List ℕ) → Said
control_said [] = malformed
control_said (s ∷ []) = malformed
control_said (s ∷ (v ∷ [])) = setting (number_in s) (number_in v)
control_said (s ∷ (v ∷ (w ∷ ws))) = malformed

-- the bytes of "control"
abbrev pub control_word : List ℕ
control_word = 99 ∷ 111 ∷ 110 ∷ 116 ∷ 114 ∷ 111 ∷ 108 ∷ []

-- what the words of a line say, where a tick has n inputs
abbrev pub words_said : ℕ → List (List ℕ) → Said
words_said n ws = pick (same (head_or [] ws) control_word) (control_said (drop 1 ws)) (tick_said n ws)

-- a line has at most so many bytes, with its line feed
abbrev pub longest_line : ℕ
longest_line = 65536

-- what a line says, without its line feed; a longer one is malformed
unfoldable pub said : ℕ → List ℕ → Said
said n text = pick (ltb (length text) longest_line) (words_said n (words text)) malformed

-- a line without its line feed, and whether it has one
abbrev pub text_of : List ℕ → List ℕ
text_of line = up_to line_feed line

abbrev pub whole : List ℕ → Bool
whole line = contains line_feed line

-- what stands first in the lines of samples: the inputs of ticks, the bytes of their lines, and why there are no more
pub record Start : Type 0 where
  pub ticks : List (List ℕ)
  pub bytes : ℕ
  pub stop : Stop

abbrev pub stopped : ℕ → Stop → Start
stopped bytes stop = record { ticks = []; bytes = bytes; stop = stop }

-- a line of so many bytes, by what it says, and what follows it; a control's line counts, a malformed one does not
abbrev pub line_then : Said → ℕ → Start → Start
line_then (inputs xs) bytes next = record { ticks = xs ∷ next.ticks; bytes = bytes + next.bytes; stop = next.stop }
line_then (control slot value) bytes next = stopped bytes (Control slot value)
line_then malformed bytes next = stopped 0 Malformed

-- no further tick of n inputs, of at most `most` and with room for so many words
abbrev pub no_more : ℕ → ℕ → ℕ → Bool
no_more n most room = pick (eqb most 0) true (ltb room n)

-- whole lines one after another, as long as each is a tick and there is room
unfoldable pub starting : ℕ → ℕ → ℕ → List (List ℕ) → Start
starting n most room [] = pick (no_more n most room) (stopped 0 Full) (stopped 0 Rest)
starting n most room (l ∷ ls) =
    let next = starting n (most - 1) (room - n) ls in
    pick (no_more n most room) (stopped 0 Full) (pick (whole l) (line_then (said n (text_of l)) (length l) next) (stopped 0 Rest))

-- a block has at most 256 ticks
abbrev pub most_ticks : ℕ
most_ticks = 256

-- the complete result of reading a block: the answer, and the lent words after it
pub record BlockRead : Type 0 where
  pub block : Block
  pub samples : List ℕ

abbrev pub block_read : Block → List ℕ → BlockRead
block_read block samples = record { block = block; samples = samples }

-- the ticks that stand first in a text, their inputs one after another in the lent words
unfoldable pub reads : ℕ → List ℕ → List ℕ → BlockRead
unfolding flatten
reads n text samples =
    let s = starting n most_ticks (length samples) (lines text) in
    block_read (record { ticks = length s.ticks; bytes = s.bytes; stop = s.stop }) (sets samples 0 (flatten s.ticks))

-- a line, by what it says, before the ticks that follow it
abbrev pub line_before : Said → List ℕ → (List ℕ → List Tick) → List Tick
line_before (inputs xs) controls after = tick xs controls ∷ after controls
line_before (control slot value) controls after = after (set controls slot value)
line_before malformed controls after = []

-- the ticks of the lines from the first on, each with its inputs and the controls that hold, up to the first malformed line
unfoldable pub history : ℕ → List ℕ → List (List ℕ) → List Tick
history n controls [] = []
history n controls (l ∷ ls) = line_before (said n (text_of l)) controls (λ cs. history n cs ls)

-- the ticks that an input asks for: its samples, with all controls 0 until set
unfoldable pub asked : ℕ → List ℕ → List Tick
asked n input = history n (zeros control_count) (lines (samples_part input))
