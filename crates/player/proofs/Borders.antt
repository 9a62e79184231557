-- The laws at their borders: a premise that asked for more, or a conclusion that said less, would fail here.
use Prim.Native.Nat.{ℕ, ◌-◌, ◌*◌, ◌≤◌, ◌<◌}
use mathlib.Core.Path.{◌≡◌, sym, ap, ◌∙◌}
use mathlib.Core.Bool.{false}
use mathlib.Core.List.{List, [], ◌∷◌, ◌++◌, flatten}
use mathlib.Core.Logic.{◌⊎◌, inl, inr, ⊎_elim}
use mathlib.Core.Option.{none}
use native.Mathlib.Omega.{arith}
use borrow.Author.Tests.{lt-ltb}
use lib.ListN.{length, take, drop}
use Rattle.word.specs.Word.{low}
use Rattle.word.specs.Tick.{tick, zeros}
use Rattle.number.specs.Number.{digits, decimal, numeral, column, candidate, number_in}
use Rattle.column.specs.Line.{lines}
use Rattle.column.specs.File.{file_refusal, reading}
use Rattle.player.specs.declared.samples.Block.{Block}
use Rattle.player.specs.declared.samples.Stop.TheVariants.{Full, Rest, Control}
use Rattle.player.specs.Samples.{circuit_part, samples_part, words, words_said, longest_line, said, whole, starting, block_read, reads, history}
use Rattle.player.proofs.Parts.{circuit_of_first, input_parts}
use Rattle.player.proofs.Decided.{circuit_decided, circuit-complete}
use Rattle.player.proofs.Joined.{blocks_join, last_line, long-line}
use Rattle.player.proofs.Bounds.{block_bounded, read_bounded, inputs-first}

-- the bytes that decide on a column file
first-bytes : (input : List ℕ) → circuit_part (take 20993 input) ≡ take 20993 (circuit_part input)
first-bytes input = circuit_of_first 20993 input

enough_read : (input table : List ℕ) → reading (circuit_part (take 20993 input)) table ≡ reading (circuit_part input) table
enough_read input table = circuit_decided 20993 input table (omega arith)

enough_complete : (input : List ℕ) → file_refusal (circuit_part (take 20993 input)) ≡ none → circuit_part (take 20993 input) ≡ circuit_part input
enough_complete input e = circuit-complete 20993 input (omega arith) e

-- an empty line, or none
samples-after : (input : List ℕ) → length (circuit_part input) < length input → circuit_part input ++ (10 ∷ samples_part input) ≡ input
samples-after input h = ⊎_elim (λ e. e) (λ p. absurd (let e : length (circuit_part input) ≡ length input = ap length p.0 in omega arith)) (input_parts input)

only-circuit : (input : List ℕ) → circuit_part input ++ (10 ∷ samples_part input) ≡ input ⊎ samples_part input ≡ []
only-circuit input = ⊎_elim (λ e. inl e) (λ p. inr p.1) (input_parts input)

-- the widest circuit's block: all 256 ticks fit, and a full block has them
module _ (text samples : List ℕ) (l : length samples ≡ 8192) where
  full_block : (reads 32 text samples).block.stop ≡ Full → (reads 32 text samples).block.ticks ≡ 256
  full_block e =
      let b = block_bounded 32 text samples in
      ⊎_elim (λ g. g) (λ (g : length samples - (reads 32 text samples).block.ticks * 32 < 32). omega (arith, b.few)) (b.full e)

  in_room : (reads 32 text samples).block.ticks * 32 ≤ 8192
  in_room = omega (arith, (block_bounded 32 text samples).room)

-- a block as its reader leaves it
module _ (n : ℕ) (text samples : List ℕ) (r : Block) (samples' : List ℕ) (e : block_read r samples' ≡ reads n text samples) where
  at_most_256 : r.ticks ≤ 256
  at_most_256 = omega (arith, (read_bounded n text samples r samples' e).few)

  in_text : (r.ticks ≤ r.bytes) × (r.bytes ≤ length text)
  in_text = let b = read_bounded n text samples r samples' e in (b.onward, b.within)

  no_line_left : r.stop ≡ Rest → whole (drop r.bytes text) ≡ false
  no_line_left f = (read_bounded n text samples r samples' e).rest f

  one_of_sixteen : (slot value : ℕ) → r.stop ≡ Control slot value → (slot ≤ 15) × (r.ticks < r.bytes)
  one_of_sixteen slot value f = let p = (read_bounded n text samples r samples' e).slot slot value f in (omega (arith, p.0), p.1)

-- the words of three ticks of two inputs
three-ticks : (text samples : List ℕ) → (reads 2 text samples).block.ticks ≡ 3 → take 6 (reads 2 text samples).samples ≡ flatten (starting 2 256 (length samples) (lines text)).ticks
three-ticks text samples e = ap (λ (k : ℕ). take (k * 2) (reads 2 text samples).samples) (sym e) ∙ inputs-first 2 text samples

-- a block that a control ends, and what comes after it: "1 -2", "control 3 7", and then any bytes
control-holds : (more : List ℕ) → history 2 (zeros 16) (lines ((49 ∷ 32 ∷ 45 ∷ 50 ∷ 10 ∷ 99 ∷ 111 ∷ 110 ∷ 116 ∷ 114 ∷ 111 ∷ 108 ∷ 32 ∷ 51 ∷ 32 ∷ 55 ∷ 10 ∷ []) ++ more)) ≡ tick (1 ∷ 4294967294 ∷ []) (zeros 16) ∷ history 2 (0 ∷ 0 ∷ 0 ∷ 7 ∷ zeros 12) (lines more)
unfolding starting lines said words number_in candidate column numeral decimal digits low
control-holds more = blocks_join 2 256 8192 (zeros 16) ((49 ∷ 32 ∷ 45 ∷ 50 ∷ 10 ∷ 99 ∷ 111 ∷ 110 ∷ 116 ∷ 114 ∷ 111 ∷ 108 ∷ 32 ∷ 51 ∷ 32 ∷ 55 ∷ 10 ∷ [])) more

-- a piece that ends inside of a line: "1 2", "3", and then any bytes
cut_line : (controls more : List ℕ) → history 2 controls (lines ((49 ∷ 32 ∷ 50 ∷ 10 ∷ 51 ∷ []) ++ more)) ≡ tick (1 ∷ 2 ∷ []) controls ∷ history 2 controls (lines (51 ∷ more))
unfolding starting lines said words number_in candidate column numeral decimal digits low
cut_line controls more = blocks_join 2 1 2 controls ((49 ∷ 32 ∷ 50 ∷ 10 ∷ 51 ∷ [])) more

-- the longest line, and one byte more
longest_said : (n : ℕ) (t : List ℕ) → length t ≡ 65535 → said n t ≡ words_said n (words t)
unfolding said
longest_said n t e = rw (lt-ltb (length t) longest_line (omega arith))

too_long : (n : ℕ) (controls piece more : List ℕ) → length piece ≡ 65536 → whole piece ≡ false → history n controls (lines (piece ++ more)) ≡ []
too_long n controls piece more e w = long-line n controls piece more (omega arith) w

-- a last line of one byte
last_byte : (n b : ℕ) (controls : List ℕ) → whole (b ∷ []) ≡ false → history n controls (lines (b ∷ 10 ∷ [])) ≡ history n controls (lines (b ∷ []))
last_byte n b controls e = last_line n controls (b ∷ []) (omega arith) e
