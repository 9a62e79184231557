-- `translator::place::ascending` meets its contract.
use Rattle.translator.specs.Emit.{up_from}
use lib.ListN.{length, take}
use mathlib.Core.Path.{◌≡◌}
use Rattle.translator.proofs.place.ascending.Given as goal

abbrev pub invariant-loop-i : goal.invariant-loop-i
invariant-loop-i l = (length l.regs ≡ 32) × (take l.i l.regs ≡ up_from l.first l.i)
