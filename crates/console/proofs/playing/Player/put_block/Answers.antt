use Rattle.console.proofs.Blocks.{block-put}
use Rattle.console.proofs.playing.Player.put_block.Goals as goal

pub returns-clause-put : goal.returns-clause-put
returns-clause-put c = block-put c.args.self.now.code.now c.args.ticks c.args.samples.now c.args.self.now.controls _ _ _ _ _ _ c.index.result c.index-2.result _ c.index.ensures c.index-2.ensures c.run.ensures c.put_ticks.ensures
