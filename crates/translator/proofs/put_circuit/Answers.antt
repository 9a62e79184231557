-- `translator::put_circuit` meets its contract.
use Rattle.translator.proofs.Tables.{root_room, results-room, circuit_stored}
use Rattle.translator.proofs.put_circuit.Goals as goal

pub emit_node-end-requires-clause-room : goal.emit_node-end-requires-clause-room
emit_node-end-requires-clause-room c = rw c.nodes-root.ensures.value (root_room c.requires c.ascending.result c.index.ensures c.ascending.ensures)

pub keep-requires : goal.keep-requires
keep-requires c = results-room c.requires c.ascending.result c.index.ensures c.ascending.ensures c.index-2.ensures (rw c.nodes-root.ensures.value at c.emit_node-end.ensures)

pub returns : goal.returns
returns c = circuit_stored c.requires c.ascending.result c.index.ensures c.ascending.ensures c.index-2.ensures (rw c.nodes-root.ensures.value at c.emit_node-end.ensures) c.keep.ensures
