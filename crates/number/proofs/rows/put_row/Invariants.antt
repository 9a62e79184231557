use Rattle.number.proofs.RowText.{Filled}
use Rattle.number.proofs.rows.put_row.Given as goal

abbrev pub invariant-loop-j : goal.invariant-loop-j
invariant-loop-j l = Filled l.numbers l.initial.line l.line l.j
