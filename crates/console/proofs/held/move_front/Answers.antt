use Rattle.std.proofs.Common.{refl, arith}
use Rattle.console.proofs.Moves.{moved, moving_next, stays}
use Rattle.console.proofs.held.move_front.Goals as goal

pub returns-then-at-eq0 : goal.returns-then-at-eq0
returns-then-at-eq0 c = stays _ _ _ c.if-at-eq0.true c.requires.1

pub loop-i-preserved : goal.loop-i-preserved
loop-i-preserved c = moving_next (omega arith) c.loop-i.invariant c.loop-i-test.true (omega arith) (omega arith)

pub returns : goal.returns
returns c = moved (omega arith) c.loop-i.invariant _ refl c.loop-i-test.false
