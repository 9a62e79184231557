-- `translator::merge::put_merges` meets its contract.
use Prim.Native.Nat.{◌-◌}
use Rattle.translator.proofs.Loops.{sum_room, sum-next, sum_stored}
use lib.ListN.{length-set}
use native.Mathlib.Omega.{arith}
use Rattle.translator.proofs.merge.put_merges.Goals as goal

pub put_terms-s-requires-clause-room : goal.put_terms-s-requires-clause-room
put_terms-s-requires-clause-room c = sum_room _ _ _ _ _ c.entry.ensures (c.args.b - c.loop-i.i) c.loop-i.invariant.1 (omega arith)

pub loop-i-preserved : goal.loop-i-preserved
loop-i-preserved c = (simp length-set c.loop-i.invariant.0, sum_stored _ c.args.b c.loop-i.i _ c.loop-i.sums _ (sum-next _ _ _ _ _ c.entry.ensures (c.args.b - c.loop-i.i) c.loop-i.invariant.1 (omega arith) c.put_terms-s.ensures) (omega (arith, c.loop-i.invariant.0)))
