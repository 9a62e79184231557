-- `translator::parts::put_holding` meets its contract.
use Rattle.translator.proofs.Leaves.{writes_fit, reads_fit, results_fit, holds}
use Rattle.translator.proofs.parts.put_holding.Goals as goal

pub put_writes-w-requires-clause-room : goal.put_writes-w-requires-clause-room
put_writes-w-requires-clause-room c = writes_fit c.cell-cell.ensures.promise c.requires.demands c.cell-cell.ensures.value c.outputs-m.ensures c.args.q c.requires.room

pub ascending-requires : goal.ascending-requires
ascending-requires c = results_fit c.cell-cell.ensures.promise c.requires.demands c.cell-cell.ensures.value c.outputs-m.ensures c.args.q c.requires.room c.put_writes-w.ensures

pub put_reads-requires-clause-room : goal.put_reads-requires-clause-room
put_reads-requires-clause-room c = reads_fit c.cell-cell.ensures.promise c.requires.demands c.cell-cell.ensures.value c.outputs-m.ensures c.args.q c.requires.room c.put_writes-w.ensures

pub returns : goal.returns
returns c = holds c.cell-cell.ensures.promise c.requires.demands c.cell-cell.ensures.value c.outputs-m.ensures c.args.q c.requires.room c.put_writes-w.ensures c.put_reads.ensures c.ascending.ensures
