-- `beam::sum` meets its contract.
use mathlib.Core.Path.{◌∙◌}
use native.Mathlib.Omega.{arith}
use lib.ListN.{take}
use Rattle.beam.proofs.Sums.{sum-next}
use Rattle.beam.proofs.sum.Goals as goal

pub loop-i-preserved : goal.loop-i-preserved
loop-i-preserved c =
    (omega arith, sum-next c.args.k c.loop-i.i c.args.b c.loop-i.total c.loop-i.next _ _ (take c.args.m c.args.a.now) (omega arith) c.entry.ensures c.add-total.ensures ∙ c.loop-i.invariant.1)
