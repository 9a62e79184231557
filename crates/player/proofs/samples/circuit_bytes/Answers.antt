-- `player::samples::circuit_bytes` meets its contract: no empty line stands before `at`.
use Rattle.std.proofs.Common.{rules}
use Rattle.player.specs.Samples.{circuit_part}
use Rattle.player.proofs.samples.circuit_bytes.Goals as goal

pub loop-at-init : goal.loop-at-init
unfolding circuit_part
loop-at-init c = search rules
