-- `player::samples::read_block` meets its contract: the ticks before `at` are read.
use Prim.Native.Nat.{◌-◌}
use Rattle.player.proofs.Reading.{Reading}
use Rattle.player.proofs.samples.read_block.Given as goal

abbrev pub invariant-loop-ticks : goal.invariant-loop-ticks
invariant-loop-ticks l = Reading l.text l.inputs l.initial.samples l.samples l.at l.ticks l.next

abbrev pub decreases-loop-ticks : goal.decreases-loop-ticks
decreases-loop-ticks l = 256 - l.ticks
