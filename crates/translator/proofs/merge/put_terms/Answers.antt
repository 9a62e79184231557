-- `translator::merge::put_terms` meets its contract.
use Prim.Native.Nat.{◌+◌, ◌-◌, ◌*◌}
use Rattle.translator.proofs.Loops.{term_next}
use native.Mathlib.Omega.{arith}
use Rattle.translator.proofs.merge.put_terms.Goals as goal

pub loop-j-preserved : goal.loop-j-preserved
loop-j-preserved c =
    term_next _ _ _ _ _ c.entry-term.ensures (c.args.k - c.loop-j.j) (c.args.k - (c.loop-j.j + 1)) (omega arith) c.loop-j.invariant (c.args.from + (c.loop-j.j + 1) * c.args.b) (omega arith) (rw c.addition.ensures at c.push-q.ensures)
