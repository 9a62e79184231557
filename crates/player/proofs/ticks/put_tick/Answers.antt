-- `player::ticks::put_tick` meets its contract: the line from output j on completes what is put.
use Rattle.player.proofs.TickLines.{more-next}
use Rattle.player.proofs.ticks.put_tick.Goals as goal

pub loop-j-preserved : goal.loop-j-preserved
loop-j-preserved c = more-next c.args.outputs.now c.loop-j.j c.loop-j.invariant c.loop-j-test.true c.put_numeral-at.ensures
