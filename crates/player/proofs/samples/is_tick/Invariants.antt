-- `player::samples::is_tick` meets its contract: the words before the rest are counted, each a number.
use Rattle.std.proofs.Common.{length}
use Rattle.player.proofs.Lines.{Counting}
use Rattle.player.proofs.samples.is_tick.Given as goal

abbrev pub invariant-loop-word : goal.invariant-loop-word
invariant-loop-word l = Counting l.line l.rest l.count

abbrev pub decreases-loop-word : goal.decreases-loop-word
decreases-loop-word l = length l.rest
