-- `player::ticks::put_lines` meets its contract: the lines of the ticks that are left complete those that are put.
use Rattle.std.proofs.Common.{◌-◌, ◌*◌, drop}
use Rattle.player.specs.Ticks.{ticks_text}
use Rattle.number.proofs.Filling.{Filling}
use Rattle.player.proofs.ticks.put_lines.Given as goal

abbrev pub invariant-loop-tick : goal.invariant-loop-tick
invariant-loop-tick l = Filling (ticks_text l.outputs l.ticks l.samples) l.initial.text 0 (ticks_text l.outputs (l.ticks - l.tick) (drop (l.outputs * l.tick) l.samples)) l.text l.at
