use Rattle.std.proofs.Common.{◌≤◌, length}
use Rattle.script.proofs.text.read_list.Given as goal

abbrev pub invariant-loop-numbers : goal.invariant-loop-numbers
invariant-loop-numbers l = l.count ≤ length l.list

abbrev pub decreases-loop-numbers : goal.decreases-loop-numbers
decreases-loop-numbers l = length l.rest
