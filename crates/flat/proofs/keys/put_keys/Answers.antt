-- `flat::keys::put_keys` meets its contract: the keys so far stand before the next register.
use native.Mathlib.Omega.{arith}
use lib.ListN.{length-set}
use Rattle.flat.proofs.Keyed.{keys_one}
use Rattle.flat.proofs.keys.put_keys.Goals as goal

pub loop-own-preserved : goal.loop-own-preserved
loop-own-preserved c =
    let i = c.loop-own.invariant in
    (omega arith, (simp length-set i.1.0, keys_one i.1.1 (omega arith) (omega arith) i.0 c.instruction_at.ensures c.key_of.ensures))
