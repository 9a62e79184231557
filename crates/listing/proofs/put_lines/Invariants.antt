-- `listing::put_lines` meets its contract: the lines that are left complete those that are put.
use Rattle.listing.proofs.Laying.{Laying}
use Rattle.listing.proofs.put_lines.Given as goal

abbrev pub invariant-loop-line : goal.invariant-loop-line
invariant-loop-line l = Laying l.numbers l.width l.count l.initial.text l.from l.text l.line l.at
