use Rattle.console.proofs.Reading.{read_further}
use Rattle.console.proofs.held.read_full.Goals as goal

pub loop-end-preserved : goal.loop-end-preserved
loop-end-preserved g c =
    let read = c.in_ok-next.ensures in
    (read.grown.within, read_further _ _ _ c.loop-end.buffer c.read_more.new.buffer c.loop-end.end c.in_ok-next.next read.grown.more read.held c.loop-end.invariant.1 read.taken)
