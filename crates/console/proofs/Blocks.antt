-- A block that is run and put, by what the runner and the printer leave.
use Rattle.std.proofs.Common.{◌≡◌, ℕ, ◌*◌, List, take, ap}
use Rattle.word.specs.Tick.{zeros}
use Rattle.refusal.specs.Answer.{Answer}
use Rattle.cells.specs.Block.{Ran, ran_as}
use Rattle.flat.specs.Code.{input_count, output_count}
use Rattle.flat.specs.Run.{ran}
use Rattle.number.specs.Put.{Begins}
use Rattle.player.specs.Ticks.{block_text}
use Rattle.console.specs.Block.{block_ran, BlockPut}

pub block-put : (code : List ℕ) (ticks : ℕ) (samples controls cells text : List ℕ) (a : Answer) (cells' outputs' text' : List ℕ) (i m n : ℕ) → i ≡ input_count code → m ≡ output_count code →
    ran_as a cells' outputs' ≡ ran code ticks (take (ticks * i) samples) controls cells (zeros 8192) → Begins (block_text m ticks outputs') text n text' → BlockPut code ticks samples controls cells text n cells' text'
unfolding block_ran
block-put code ticks samples controls cells text a cells' outputs' text' i m n e f r p =
    let q : ran_as a cells' outputs' ≡ ran code ticks (take (ticks * input_count code) samples) controls cells (zeros 8192) = rw e at r in
    let o : outputs' ≡ (ran code ticks (take (ticks * input_count code) samples) controls cells (zeros 8192)).outputs = ap (λ (x : Ran). x.outputs) q in
    record { cells_are = ap (λ (x : Ran). x.cells) q; lines = rw (o, f) at p }
