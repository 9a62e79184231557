-- `flat::tick::gather` meets its contract: the outputs so far with those that are left are what the output registers hold.
use Rattle.flat.proofs.Ports.{Gathering}
use Rattle.flat.proofs.tick.gather.Given as goal

abbrev pub invariant-loop-i : goal.invariant-loop-i
invariant-loop-i l = Gathering l.code l.from l.registers l.outputs l.i
