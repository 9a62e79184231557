-- The runner: the complete result of one call, its answer, the lent cells and the output buffer after it.
use Rattle.std.specs.Prelude.{ℕ, List, length}
use Rattle.word.specs.Choice.{pick}
use Rattle.cells.specs.Block.{Ran, refusal, called}
use Rattle.flat.specs.Code.{Code, decode, code_tick}
use Rattle.flat.specs.Check.{code_ok}

-- a call of a code that passed the check: 14, then 12; else its ticks
abbrev pub checks : Code → ℕ → List ℕ → List ℕ → List ℕ → List ℕ → Ran
checks k = called (code_tick k) k.inputs (length k.results) k.cells

-- "Runner: 13, 14, 12", for any list of numbers as code
unfoldable pub ran : List ℕ → ℕ → List ℕ → List ℕ → List ℕ → List ℕ → Ran
ran code ticks inputs controls cells outputs =
    pick (code_ok code) (checks (decode code) ticks inputs controls cells outputs) (refusal 13 cells outputs)
