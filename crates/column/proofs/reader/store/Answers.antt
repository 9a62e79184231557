-- `column::reader::store` meets its contract: the numbers that are left complete those that are stored.
use Rattle.std.proofs.Common.{◌*◌, arith, length-drop}
use Rattle.number.proofs.Scan.{rest_lent}
use Rattle.column.proofs.Storing.{storing_starts, storing_room, storing_next, storing_ends}
use Rattle.column.proofs.reader.store.Goals as goal

pub loop-node-init : goal.loop-node-init
loop-node-init c =
    let a = c.args in
    storing_starts a.file.now a.table.now a.nodes c.requires.file_value c.requires.nodes_value.0

pub overflow_mul-node : goal.overflow_mul-node
overflow_mul-node c =
    let a = c.args in
    let l = c.loop-node in
    omega (arith, storing_room a.file.now a.table.now a.nodes l.table l.node l.invariant c.loop-node-test.true)

pub slice_bounds-store_node-count : goal.slice_bounds-store_node-count
slice_bounds-store_node-count c =
    let a = c.args in
    let l = c.loop-node in
    omega (arith, storing_room a.file.now a.table.now a.nodes l.table l.node l.invariant c.loop-node-test.true)

pub slice_bounds-store_node-start : goal.slice_bounds-store_node-start
slice_bounds-store_node-start c =
    let a = c.args in
    let l = c.loop-node in
    omega (arith, storing_room a.file.now a.table.now a.nodes l.table l.node l.invariant c.loop-node-test.true)

pub store_node-requires : goal.store_node-requires
store_node-requires c =
    let a = c.args in
    let l = c.loop-node in
    rw (rest_lent a.file.now (41 * l.node)) (omega (arith, storing_room a.file.now a.table.now a.nodes l.table l.node l.invariant c.loop-node-test.true, l.invariant.long, length-drop (41 * l.node) a.file.now))

pub loop-node-preserved : goal.loop-node-preserved
loop-node-preserved c =
    let a = c.args in
    let l = c.loop-node in
    storing_next a.file.now a.table.now a.nodes l.table l.node l.invariant _ c.loop-node-test.true (rw (rest_lent a.file.now (41 * l.node)) at c.store_node.ensures)

pub returns : goal.returns
returns c =
    let a = c.args in
    let l = c.loop-node in
    storing_ends a.file.now a.table.now a.nodes l.table l.node c.loop-node-test.false c.requires.nodes_value.0 c.requires.nodes_value.1 l.invariant
