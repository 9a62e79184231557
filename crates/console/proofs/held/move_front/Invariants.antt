use Rattle.console.proofs.Moves.{Moving}
use Rattle.console.proofs.held.move_front.Given as goal

abbrev pub invariant-loop-i : goal.invariant-loop-i
invariant-loop-i l = Moving l.initial.buffer l.at l.count l.buffer l.i
