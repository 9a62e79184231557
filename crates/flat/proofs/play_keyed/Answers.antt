-- `flat::play_keyed` meets its contract: playing what is left gives what playing all gives.
use Prim.Native.Nat.{ℕ, ◌+◌, ◌-◌, ◌<◌}
use mathlib.Core.Path.{◌≡◌, refl, ◌∙◌}
use native.Mathlib.Omega.{arith}
use Rattle.word.proofs.Lists.{bit-few}
use Rattle.cells.proofs.Playing.{writes_fit, plays_on, ends, part-is, part-long, part_back}
use Rattle.flat.proofs.play_keyed.Goals as goal

one_on : (t i : ℕ) → t - i - 1 ≡ t - (i + 1)
one_on t i = omega arith

pub loop-i-preserved : goal.loop-i-preserved
loop-i-preserved c =
    let some : 0 < c.args.ticks - c.loop-i.i = omega arith in
    let f = writes_fit c.loop-i.invariant.0 some in
    let lz = c.run_tick-clipped.auto.outputs ∙ part-long c.loop-i.written c.index-m.result c.loop-i.outputs f in
    let ly = part_back c.loop-i.written c.index-m.result c.loop-i.outputs c.run_tick-clipped.new.outputs f lz in
    let on = plays_on c.loop-i.invariant.0 some _ c.run_tick-clipped.new.outputs _ _ _ _ (part-is c.loop-i.read c.index-n.result c.args.inputs.now) c.run_tick-clipped.ensures lz refl ly in (
      rw c.bit-clips.ensures (rw (one_on c.args.ticks c.loop-i.i) at on),
      (c.run_tick-clipped.auto.registers ∙ c.loop-i.invariant.1.0, (ly ∙ c.loop-i.invariant.1.1.0, (c.run_tick-clipped.auto.cells ∙ c.loop-i.invariant.1.1.1.0, omega (arith, c.bit-clips.ensures, bit-few c.run_tick-clipped.result, c.loop-i.invariant.1.1.1.1)))),
    )

pub returns : goal.returns
returns c = ends _ _ _ _ _ _ _ _ _ _ _ _ c.loop-i.invariant.0 (omega arith)
