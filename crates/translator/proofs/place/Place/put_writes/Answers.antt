-- `translator::place::Place::put_writes` meets its contract.
use Rattle.translator.proofs.Loops.{writes_form}
use Rattle.translator.proofs.place.Place.put_writes.Goals as goal

pub put_cells-requires-clause-room : goal.put_cells-requires-clause-room
put_cells-requires-clause-room c = rw writes_form at c.requires.room

pub returns : goal.returns
returns c = rw writes_form c.put_cells.ensures
