-- `player::ticks::put_tick` meets its contract: the line from output j on completes what is put.
use Rattle.std.proofs.Common.{drop}
use Rattle.player.specs.Ticks.{tick_line}
use Rattle.number.proofs.Filling.{Filling}
use Rattle.player.proofs.ticks.put_tick.Given as goal

abbrev pub invariant-loop-j : goal.invariant-loop-j
invariant-loop-j l = Filling (tick_line l.outputs) l.initial.text l.from (tick_line (drop l.j l.outputs)) l.text l.at
