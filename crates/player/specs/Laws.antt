-- What is proved of the input, of a block, and of all blocks together.
use Rattle.std.specs.Prelude.{ℕ, ◌-◌, ◌*◌, ◌≤◌, ◌<◌, ◌≡◌, false, ◌⊎◌, length, take, drop, set}
use mathlib.Core.List.{List, [], ◌∷◌, ◌++◌, map, flatten}
use Rattle.std.proofs.Math.Option.{none}
use Rattle.word.specs.Limits.{control_count}
use Rattle.word.specs.Tick.{Tick, tick}
use Rattle.column.specs.Line.{enough_bytes, lines}
use Rattle.number.specs.Row.{line_feed}
use Rattle.column.specs.File.{file_refusal, reading}
use Rattle.player.specs.declared.samples.Stop.{Stop}
use Rattle.player.specs.declared.samples.Stop.TheVariants.{Full, Rest, Control, Malformed}
use Rattle.player.specs.declared.samples.Block.{Block}
use Rattle.player.specs.Samples.{circuit_part, samples_part, longest_line, whole, Start, starting, most_ticks, reads, history}

-- the circuit of the first k bytes is the first k bytes of the circuit
abbrev pub CircuitOfFirst : Type 0
CircuitOfFirst = (k : ℕ) (input : List ℕ) → circuit_part (take k input) ≡ take k (circuit_part input)

-- the first k bytes of an input decide how its circuit is read, if k is enough for a column file
abbrev pub CircuitDecided : Type 0
CircuitDecided = (k : ℕ) (input table : List ℕ) → enough_bytes ≤ k → reading (circuit_part (take k input)) table ≡ reading (circuit_part input) table

-- and a circuit that is not refused is found whole in them
abbrev pub CircuitComplete : Type 0
CircuitComplete = (k : ℕ) (input : List ℕ) → enough_bytes ≤ k → file_refusal (circuit_part (take k input)) ≡ none → circuit_part (take k input) ≡ circuit_part input

-- circuit and samples, with the line feed of the empty line between, are the input; or there is no empty line
abbrev pub InputParts : Type 0
InputParts = (input : List ℕ) → (circuit_part input ++ (line_feed ∷ samples_part input) ≡ input) ⊎ ((circuit_part input ≡ input) × (samples_part input ≡ []))

-- what a caller may count on of a block that was read from a text
pub record Bounded (n : ℕ) (text samples : List ℕ) (block : Block) : Type 0 where
  pub few : block.ticks ≤ most_ticks
  pub room : block.ticks * n ≤ length samples
  pub within : block.bytes ≤ length text
  pub onward : block.ticks ≤ block.bytes
  pub full : block.stop ≡ Full → (block.ticks ≡ most_ticks) ⊎ (length samples - block.ticks * n < n)
  pub rest : block.stop ≡ Rest → whole (drop block.bytes text) ≡ false
  pub slot : (slot value : ℕ) → block.stop ≡ Control slot value → (slot < control_count) × (block.ticks < block.bytes)

abbrev pub BlockBounded : Type 0
BlockBounded = (n : ℕ) (text samples : List ℕ) → Bounded n text samples (reads n text samples).block

-- the words that a block has put first are the inputs of its ticks, n to a tick
abbrev pub InputsFirst : Type 0
InputsFirst = (n : ℕ) (text samples : List ℕ) → take ((reads n text samples).block.ticks * n) (reads n text samples).samples ≡ flatten (starting n most_ticks (length samples) (lines text)).ticks

-- the ticks after a block, by why it ends: a control holds from then on
abbrev pub goes_on : ℕ → List ℕ → Stop → List ℕ → List Tick
goes_on n controls Full rest = history n controls (lines rest)
goes_on n controls Rest rest = history n controls (lines rest)
goes_on n controls (Control slot value) rest = history n (set controls slot value) (lines rest)
goes_on n controls Malformed rest = []

-- the ticks of a block, then those of what is left of its text and of what comes after it
abbrev pub block_then : ℕ → List ℕ → Start → List ℕ → List ℕ → List Tick
block_then n controls s text more = map (λ xs. tick xs controls) s.ticks ++ goes_on n controls s.stop (drop s.bytes text ++ more)

-- however the samples are cut into pieces and blocks, the ticks are the same
abbrev pub BlocksJoin : Type 0
BlocksJoin = (n most room : ℕ) (controls text more : List ℕ) → history n controls (lines (text ++ more)) ≡ block_then n controls (starting n most room (lines text)) text more

-- a piece of 65,536 bytes without a line feed begins a line that is malformed, whatever comes after it
abbrev pub LongLine : Type 0
LongLine = (n : ℕ) (controls piece more : List ℕ) → longest_line ≤ length piece → whole piece ≡ false → history n controls (lines (piece ++ more)) ≡ []

-- a last line without a line feed is the same line with one
abbrev pub LastLine : Type 0
LastLine = (n : ℕ) (controls rest : List ℕ) → 0 < length rest → whole rest ≡ false → history n controls (lines (rest ++ (line_feed ∷ []))) ≡ history n controls (lines rest)
