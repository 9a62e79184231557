-- `player::ticks::put_ticks` meets its contract: a block within the bounds has room.
use native.Mathlib.Omega.{arith}
use Rattle.player.proofs.TickLines.{block_wide, block-long, block-put}
use Rattle.player.proofs.ticks.put_ticks.Goals as goal

pub returns-then-outputs-gt-BEAM : goal.returns-then-outputs-gt-BEAM
returns-then-outputs-gt-BEAM c = block_wide c.args.outputs _ _ _ (omega arith)

pub returns-then-ticks-gt256 : goal.returns-then-ticks-gt256
returns-then-ticks-gt256 c = block-long c.args.outputs c.args.ticks _ _ (omega arith) (omega arith)

pub returns : goal.returns
returns c = block-put c.args.outputs c.args.ticks _ _ _ _ (omega arith) (omega arith) c.put_lines.ensures
