-- `beam::repeated` meets its contract.
use mathlib.Core.Path.{◌≡◌, refl}
use native.Mathlib.Omega.{arith}
use lib.ListN.{length, length-set}
use Rattle.beam.proofs.Copies.{repeats_next, repeats_all}
use Rattle.beam.proofs.repeated.Goals as goal

pub loop-i-preserved : goal.loop-i-preserved
loop-i-preserved c =
    let l : length c.loop-i.r ≡ 32 = c.loop-i.invariant.0 in
    (simp length-set l, repeats_next c.args.b c.args.a (omega (arith, c.well_formed.0.1.0.1)) c.loop-i.r c.loop-i.i _ (omega arith) (omega arith) refl c.loop-i.invariant.1)

pub returns : goal.returns
returns c =
    repeats_all c.args.b c.args.a (omega (arith, c.well_formed.0.1.0.1)) c.loop-i.r c.loop-i.i c.args.n (omega arith) (omega (arith, c.loop-i.invariant.0)) c.loop-i.invariant.1
