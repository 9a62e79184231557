-- `player::samples::read_block` meets its contract: the ticks before `at` are read.
use Rattle.std.proofs.Common.{◌≡◌, ◌+◌, ◌-◌, ◌<◌, ℕ, List, length, take, drop, refl, ap, ◌∙◌, arith, length-drop, Some, None}
use Rattle.number.proofs.Scan.{rest_lent}
use Rattle.number.specs.Row.{line_feed}
use Rattle.player.specs.Samples.{text_of}
use Rattle.player.specs.Promises.{FirstByte}
use Rattle.player.proofs.UpTo.{byte_found}
use Rattle.player.proofs.Reading.{reading_starts, ends_full, ends_no_room, ends_rest, ends_malformed, ends_control, tick-room, one-tick}
use Rattle.player.proofs.samples.read_block.Goals as goal

line_end : (text : List ℕ) (at n : ℕ) → FirstByte (take (length text - at) (drop at text)) line_feed (Some n) → (at + n ≡ at + length (text_of (drop at text))) × (at + n < length text)
line_end text at n f =
    let e = rest_lent text at in
    let g : FirstByte (drop at text) line_feed (Some n) = rw e at f in
    let l = byte_found line_feed (drop at text) (Some n) g in
    (omega (arith, l), omega (arith, g.0, length-drop at text))

pub loop-ticks-init : goal.loop-ticks-init
loop-ticks-init c = reading_starts c.args.text.now c.args.inputs c.args.samples.now

pub returns-then-ticks-eq-MOST_TICKS : goal.returns-then-ticks-eq-MOST_TICKS
returns-then-ticks-eq-MOST_TICKS c =
    let a = c.args in
    let l = c.loop-ticks in
    rw c.stopped.ensures (ends_full a.text.now a.inputs a.samples.now l.samples l.at l.ticks l.next l.invariant c.if-ticks-eq-MOST_TICKS.true)

pub returns-then-samples-next : goal.returns-then-samples-next
returns-then-samples-next c =
    let a = c.args in
    let l = c.loop-ticks in
    rw c.stopped-then-samples-next.ensures (ends_no_room a.text.now a.inputs a.samples.now l.samples l.at l.ticks l.next l.invariant c.if-ticks-eq-MOST_TICKS.false c.if-samples-next.true)

pub returns-in_default : goal.returns-in_default
returns-in_default c =
    let a = c.args in
    let l = c.loop-ticks in
    let n = byte_found line_feed (drop l.at a.text.now) None (rw (rest_lent a.text.now l.at) at c.in_default.ensures) in
    rw c.stopped-in_default.ensures (ends_rest a.text.now a.inputs a.samples.now l.samples l.at l.ticks l.next l.invariant c.if-ticks-eq-MOST_TICKS.false c.if-samples-next.false (length a.text.now) (omega (arith, n, length-drop l.at a.text.now)) refl)

pub returns-in-None : goal.returns-in-None
returns-in-None c =
    let a = c.args in
    let l = c.loop-ticks in
    let n = line_end a.text.now l.at _ c.in-Some.ensures in
    rw c.stopped-in-None.ensures (ends_malformed a.text.now a.inputs a.samples.now l.samples l.at l.ticks l.next l.invariant c.if-ticks-eq-MOST_TICKS.false c.if-samples-next.false (l.at + c.in-Some.length) n.0 n.1 c.said.result c.said.ensures c.in-None.is)

pub returns-in-Some-Control : goal.returns-in-Some-Control
returns-in-Some-Control c =
    let a = c.args in
    let l = c.loop-ticks in
    let n = line_end a.text.now l.at _ c.in-Some.ensures in
    rw c.stopped-in-Some-Control.ensures (ends_control a.text.now a.inputs a.samples.now l.samples l.at l.ticks l.next l.invariant c.if-ticks-eq-MOST_TICKS.false c.if-samples-next.false (l.at + c.in-Some.length) n.0 n.1 c.said.result c.said.ensures c.in-Some-Control.slot c.in-Some-Control.value (c.in-Some-Control.is ∙ ap Some c.in-Some-Control.field-0-is))

pub store-requires : goal.store-requires
store-requires c =
    let a = c.args in
    let l = c.loop-ticks in
    let n = line_end a.text.now l.at _ c.in-Some.ensures in
    tick-room a.text.now a.inputs a.samples.now l.samples l.at l.ticks l.next l.invariant c.if-ticks-eq-MOST_TICKS.false c.if-samples-next.false (l.at + c.in-Some.length) n.0 n.1 c.said.result c.said.ensures (c.in-Some-Tick.is ∙ ap Some c.in-Some-Tick.field-0-is)

pub loop-ticks-preserved : goal.loop-ticks-preserved
loop-ticks-preserved c =
    let a = c.args in
    let l = c.loop-ticks in
    let n = line_end a.text.now l.at _ c.in-Some.ensures in
    one-tick a.text.now a.inputs a.samples.now l.samples l.at l.ticks l.next l.invariant c.if-ticks-eq-MOST_TICKS.false c.if-samples-next.false (l.at + c.in-Some.length) n.0 n.1 c.said.result c.said.ensures (_) (c.in-Some-Tick.is ∙ ap Some c.in-Some-Tick.field-0-is) c.store.ensures
