-- `translator::emit::emit_node` meets its contract. A node's parts are written by functions outside the cycle, and what is still to be written is carried
-- from part to part.
use native.Mathlib.Omega.{arith}
use mathlib.Core.Path.{sym}
use Rattle.walker.specs.Ready.{Joins, Demands}
use Rattle.walker.proofs.ByKind.{joins}
use Rattle.walker.proofs.Wires.{first_below, second_below}
use Rattle.translator.proofs.Leaves.{body_below}
use Rattle.translator.proofs.Stages.{opening-room, opened, first-room, halved, middle-room, linked, second-room, ending, closed, skip-room, skipped, body-room, held, demanded}
use Rattle.translator.proofs.emit.+emit_node.Goals as goal

pub put_opening-q-requires-clause-room : goal.put_opening-q-requires-clause-room
put_opening-q-requires-clause-room t c =
    let j : Joins c.args.circuit.now c.args.node = joins c.requires.inside.inside c.kind.ensures.value c.in-Sequence.is in
    opening-room c.kind.ensures.promise j c.args.p c.requires.room

pub emit_node-q-requires : goal.emit_node-q-requires
emit_node-q-requires t c =
    let j : Joins c.args.circuit.now c.args.node = joins c.requires.inside.inside c.kind.ensures.value c.in-Sequence.is in
    let p = c.kind.ensures.promise in
    let lower = first_below p j (rw c.table.ensures at c.first_child-first.ensures) in (
      omega (arith, lower),
      (record { inside = omega (arith, lower, c.requires.inside.inside) }, first-room (opened p j c.args.p c.requires.room c.put_opening-q.ensures) (rw c.table.ensures at c.first_child-first.ensures)),
    )

pub put_middle-r-requires-clause-room : goal.put_middle-r-requires-clause-room
put_middle-r-requires-clause-room t c =
    let j : Joins c.args.circuit.now c.args.node = joins c.requires.inside.inside c.kind.ensures.value c.in-Sequence.is in
    middle-room (halved (opened c.kind.ensures.promise j c.args.p c.requires.room c.put_opening-q.ensures) (rw c.table.ensures at c.first_child-first.ensures) c.emit_node-q.ensures)

pub emit_node-r-requires : goal.emit_node-r-requires
emit_node-r-requires t c =
    let j : Joins c.args.circuit.now c.args.node = joins c.requires.inside.inside c.kind.ensures.value c.in-Sequence.is in
    let p = c.kind.ensures.promise in
    let lower = second_below p j (rw c.table-in-Sequence.ensures at c.second_child-second.ensures) in
    let half = halved (opened p j c.args.p c.requires.room c.put_opening-q.ensures) (rw c.table.ensures at c.first_child-first.ensures) c.emit_node-q.ensures in (
      omega (arith, lower),
      (record { inside = omega (arith, lower, c.requires.inside.inside) }, second-room (linked half c.put_middle-r.ensures) (rw c.table-in-Sequence.ensures at c.second_child-second.ensures)),
    )

pub put_closing-requires-clause-room : goal.put_closing-requires-clause-room
put_closing-requires-clause-room t c =
    let j : Joins c.args.circuit.now c.args.node = joins c.requires.inside.inside c.kind.ensures.value c.in-Sequence.is in
    let half = halved (opened c.kind.ensures.promise j c.args.p c.requires.room c.put_opening-q.ensures) (rw c.table.ensures at c.first_child-first.ensures) c.emit_node-q.ensures in
    (ending (linked half c.put_middle-r.ensures) (rw c.table-in-Sequence.ensures at c.second_child-second.ensures) c.emit_node-r.ensures).going.room

pub returns-in-Sequence : goal.returns-in-Sequence
returns-in-Sequence t c =
    let j : Joins c.args.circuit.now c.args.node = joins c.requires.inside.inside c.kind.ensures.value c.in-Sequence.is in
    let half = halved (opened c.kind.ensures.promise j c.args.p c.requires.room c.put_opening-q.ensures) (rw c.table.ensures at c.first_child-first.ensures) c.emit_node-q.ensures in
    closed (ending (linked half c.put_middle-r.ensures) (rw c.table-in-Sequence.ensures at c.second_child-second.ensures) c.emit_node-r.ensures) c.put_closing.ensures

pub put_skip-q-requires-clause-room : goal.put_skip-q-requires-clause-room
put_skip-q-requires-clause-room t c =
    let d : Demands c.args.circuit.now c.args.node = record { inside = c.requires.inside.inside; kind = sym c.in-Ondemand.ensures.value } in
    skip-room c.in-Ondemand.ensures.promise d c.args.p c.requires.room

pub emit_node-q-requires-in-Ondemand : goal.emit_node-q-requires-in-Ondemand
emit_node-q-requires-in-Ondemand t c =
    let d : Demands c.args.circuit.now c.args.node = record { inside = c.requires.inside.inside; kind = sym c.in-Ondemand.ensures.value } in
    let p = c.in-Ondemand.ensures.promise in
    let lower = body_below p d in (
      omega (arith, lower, c.left-body.ensures.value),
      (record { inside = omega (arith, lower, c.left-body.ensures.value, c.requires.inside.inside) }, body-room (skipped p d c.args.p c.requires.room c.put_skip-q.ensures) c.left-body.ensures.value),
    )

pub put_holding-requires-clause-room : goal.put_holding-requires-clause-room
put_holding-requires-clause-room t c =
    let d : Demands c.args.circuit.now c.args.node = record { inside = c.requires.inside.inside; kind = sym c.in-Ondemand.ensures.value } in
    (held (skipped c.in-Ondemand.ensures.promise d c.args.p c.requires.room c.put_skip-q.ensures) c.left-body.ensures.value c.emit_node-q-in-Ondemand.ensures).going.room

pub returns-in-Ondemand : goal.returns-in-Ondemand
returns-in-Ondemand t c =
    let d : Demands c.args.circuit.now c.args.node = record { inside = c.requires.inside.inside; kind = sym c.in-Ondemand.ensures.value } in
    demanded (held (skipped c.in-Ondemand.ensures.promise d c.args.p c.requires.room c.put_skip-q.ensures) c.left-body.ensures.value c.emit_node-q-in-Ondemand.ensures) c.put_holding.ensures
