-- Runs of flat code in a list of calls.
use Rattle.std.specs.Prelude.{ℕ, List}
use Rattle.calls.specs.Calls.{Arguments, Call, Program}
use Rattle.flat.specs.Run.{ran}

-- the runner with a code
abbrev pub run_of : List ℕ → Program
run_of code a cells = ran code a.ticks a.inputs a.controls cells a.outputs

-- a run, lent cells from `from` on
abbrev pub run_call : List ℕ → Arguments → ℕ → Call
run_call code a from = record { from = from; lent = a.lent; outputs = a.outputs; work = run_of code a }
