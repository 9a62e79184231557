-- `translator::place::Place::put_reads` meets its contract.
use Rattle.translator.proofs.Loops.{reads_form}
use Rattle.translator.proofs.place.Place.put_reads.Goals as goal

pub put_cells-requires-clause-room : goal.put_cells-requires-clause-room
put_cells-requires-clause-room c = rw (reads_form _ _ 32 c.requires.count_le_widest.0) at c.requires.room

pub returns : goal.returns
returns c = rw (reads_form _ _ 32 c.requires.count_le_widest.0) c.put_cells.ensures
