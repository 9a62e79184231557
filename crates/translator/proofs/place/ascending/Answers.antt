-- `translator::place::ascending` meets its contract.
use Prim.Native.Nat.{◌+◌}
use Rattle.translator.proofs.Loops.{ascend_next}
use lib.ListN.{length-set}
use native.Mathlib.Omega.{arith}
use mathlib.Core.Path.{refl}
use Rattle.translator.proofs.place.ascending.Goals as goal

pub loop-i-preserved : goal.loop-i-preserved
loop-i-preserved c = (simp length-set c.loop-i.invariant.0, ascend_next c.loop-i.regs c.loop-i.i _ (c.args.first + c.loop-i.i) c.loop-i.invariant.1 refl (omega (arith, c.loop-i.invariant.0)))
