-- `player::ticks::put_lines` meets its contract: the lines of the ticks that are left complete those that are put.
use Rattle.std.proofs.Common.{◌≡◌, ◌+◌, ◌-◌, ◌*◌, length, take, drop, ap, arith}
use Rattle.word.proofs.Each.{words_of}
use Rattle.number.proofs.Filling.{filling_start}
use Rattle.player.specs.Ticks.{tick_line, ticks_text}
use Rattle.player.proofs.TickLines.{tick-room, tick-next, ticks-put, lines-room}
use Rattle.player.proofs.ticks.put_lines.Goals as goal

pub loop-tick-init : goal.loop-tick-init
loop-tick-init c =
    let a = c.args in
    let n : a.ticks - 0 ≡ a.ticks = omega arith in
    let z : a.outputs * 0 ≡ 0 = omega arith in
    rw (n, z) (filling_start (ticks_text a.outputs a.ticks a.samples.now) a.text.now 0)

pub put_tick-at-requires : goal.put_tick-at-requires
put_tick-at-requires c =
    let a = c.args in
    let first = a.outputs * c.loop-tick.tick in
    let room = lines-room a.outputs a.ticks a.samples.now (words_of a.samples.now (λ k. (c.type_inv.samples k).fits)) c.requires.1.0 c.requires.1.1 in
    let n : first + a.outputs - first ≡ a.outputs = omega arith in
    let e = ap (λ k. length (tick_line (take k (drop first a.samples.now)))) n in
    omega (arith, e, tick-room a.samples.now a.outputs (a.ticks - c.loop-tick.tick) first c.loop-tick.invariant (omega (arith, c.loop-tick-test.true)) room)

pub loop-tick-preserved : goal.loop-tick-preserved
loop-tick-preserved c =
    let a = c.args in
    let first = a.outputs * c.loop-tick.tick in
    let n : first + a.outputs - first ≡ a.outputs = omega arith in
    let k : a.ticks - c.loop-tick.tick - 1 ≡ a.ticks - (c.loop-tick.tick + 1) = omega arith in
    let s : first + a.outputs ≡ a.outputs * (c.loop-tick.tick + 1) = omega arith in
    rw (k, s) at (tick-next a.samples.now a.outputs (a.ticks - c.loop-tick.tick) first c.loop-tick.invariant (omega (arith, c.loop-tick-test.true)) (rw n at c.put_tick-at.ensures))

pub returns : goal.returns
returns c =
    let a = c.args in
    let room = lines-room a.outputs a.ticks a.samples.now (words_of a.samples.now (λ k. (c.type_inv.samples k).fits)) c.requires.1.0 c.requires.1.1 in
    ticks-put a.samples.now a.outputs (a.ticks - c.loop-tick.tick) (a.outputs * c.loop-tick.tick) c.loop-tick.invariant (omega (arith, c.loop-tick-test.false)) room
