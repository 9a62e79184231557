use Rattle.console.specs.Held.{Stands}
use Rattle.console.proofs.playing.Player.play.Given as goal

abbrev pub invariant-loop : goal.invariant-loop
invariant-loop g l = Stands l.rest l.buffer
