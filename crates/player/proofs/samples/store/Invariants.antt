-- `player::samples::store` meets its contract: the words before the rest are stored.
use Rattle.std.proofs.Common.{length}
use Rattle.player.proofs.Lines.{Storing}
use Rattle.player.proofs.samples.store.Given as goal

abbrev pub invariant-loop-word : goal.invariant-loop-word
invariant-loop-word l = Storing l.line l.initial.samples l.from l.samples l.rest l.next

abbrev pub decreases-loop-word : goal.decreases-loop-word
decreases-loop-word l = length l.rest
