-- A block of ticks as it is run and put into a text.
use Rattle.std.specs.Prelude.{◌≡◌, ℕ, ◌*◌, List, Option, take}
use Rattle.std.specs.Io.KnownBytes.{Appends}
use Rattle.word.specs.Tick.{zeros}
use Rattle.cells.specs.Block.{Ran}
use Rattle.flat.specs.Code.{input_count, output_count}
use Rattle.flat.specs.Run.{ran}
use Rattle.number.specs.Put.{Begins}
use Rattle.player.specs.Ticks.{block_text}

-- the run of so many ticks on the samples that stand first
unfoldable pub block_ran : List ℕ → ℕ → List ℕ → List ℕ → List ℕ → Ran
block_ran code ticks samples controls cells = ran code ticks (take (ticks * input_count code) samples) controls cells (zeros 8192)

-- the cells are as the run leaves them, and the text begins with the lines of its outputs
pub record BlockPut (code : List ℕ) (ticks : ℕ) (samples controls cells text : List ℕ) (n : ℕ) (cells' text' : List ℕ) : Type 0 where
  pub cells_are : cells' ≡ (block_ran code ticks samples controls cells).cells
  pub lines : Begins (block_text (output_count code) ticks (block_ran code ticks samples controls cells).outputs) text n text'

-- the cells are as the run leaves them, and what is written, where it is known, has grown by the lines of its outputs
pub record BlockPlayed (code : List ℕ) (ticks : ℕ) (samples controls cells : List ℕ) (written : Option (List ℕ)) (cells' : List ℕ) (written' : Option (List ℕ)) : Type 0 where
  pub cells_are : cells' ≡ (block_ran code ticks samples controls cells).cells
  pub lines : Appends written written' (block_text (output_count code) ticks (block_ran code ticks samples controls cells).outputs)
