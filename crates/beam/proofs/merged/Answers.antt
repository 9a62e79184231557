-- `beam::merged` meets its contract.
use Prim.Native.Nat.{ℕ, ◌+◌, ◌-◌, ◌/◌}
use mathlib.Core.Path.{ap, ◌∙◌}
use native.Mathlib.Omega.{arith}
use lib.ListN.{take, length-set}
use Rattle.signal.specs.Signal.{sum_from}
use Rattle.beam.proofs.Sums.{sums_next}
use Rattle.beam.proofs.merged.Goals as goal

pub loop-i-preserved : goal.loop-i-preserved
loop-i-preserved c = (simp length-set c.loop-i.invariant.0, sums_next c.loop-i.r (take c.args.m c.args.a) _ c.args.b (c.args.m / c.args.b - 1) c.loop-i.i _ (omega arith) (omega (arith, c.loop-i.invariant.0)) (c.sum.ensures ∙ ap (λ (v : ℕ). sum_from (c.args.m / c.args.b - 1) c.args.b v (c.loop-i.i + c.args.b) (take c.args.m c.args.a)) c.entry-first.ensures) c.loop-i.invariant.1)
