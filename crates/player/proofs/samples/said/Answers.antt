-- `player::samples::said` meets its contract: the first word decides.
use Rattle.std.proofs.Common.{◌∙◌, arith}
use Rattle.player.proofs.Sayings.{says_long, says_control, says_tick}
use Rattle.player.proofs.samples.said.Goals as goal

pub returns-then-line-ge-LONGEST_LINE : goal.returns-then-line-ge-LONGEST_LINE
returns-then-line-ge-LONGEST_LINE c = says_long c.args.line.now c.args.inputs (omega arith)

pub returns-in-Some : goal.returns-in-Some
returns-in-Some c = c.setting.ensures ∙ says_control c.args.line.now c.args.inputs (omega arith) c.in-Some.rest.now c.in-Some.ensures

pub returns : goal.returns
returns c = c.then_some.ensures ∙ rw c.is_tick.ensures (says_tick c.args.line.now c.args.inputs (omega arith) c.in_default.ensures)
