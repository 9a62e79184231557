-- `translator::place::Place::put_cells` meets its contract.
use Rattle.translator.proofs.Loops.{cell_room, cell-next, cells_done}
use Rattle.translator.proofs.Writing.{all-written}
use Rattle.translator.proofs.place.Place.put_cells.Goals as goal

pub push-q-requires : goal.push-q-requires
push-q-requires c = rw c.on_cell.ensures (cell_room _ _ _ _ c.loop-i-test.true c.loop-i.invariant)

pub loop-i-preserved : goal.loop-i-preserved
loop-i-preserved c = cell-next _ _ _ _ c.loop-i-test.true c.loop-i.invariant (rw c.on_cell.ensures at c.push-q.ensures)

pub returns : goal.returns
returns c = all-written (cells_done _ _ c.loop-i.i _ c.loop-i.invariant c.loop-i-test.false)
