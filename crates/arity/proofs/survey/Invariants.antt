-- Before node i the state holds and i rows are filled.
use Rattle.std.proofs.Common.{◌≡◌}
use Rattle.arity.specs.Check.{first_cell}
use Rattle.arity.specs.Survey.{filled}
use Rattle.arity.specs.Steps.{State}
use Rattle.arity.proofs.survey.Given as goal

abbrev pub invariant-loop-i : goal.invariant-loop-i
invariant-loop-i l =
    State l.table l.shape l.marks l.i
    × (l.cells ≡ first_cell l.table l.i)
    × (l.shape ≡ filled l.table l.i l.fn.shape)
