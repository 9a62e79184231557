-- `column::writer::put_lines` meets its contract: line after line, each in the part of the file that is lent for it.
use Rattle.word.proofs.Each.{words_of}
use Rattle.column.proofs.Writes.{writing-next, writing_ends}
use Rattle.column.proofs.writer.put_lines.Goals as goal

pub loop-node-preserved : goal.loop-node-preserved
loop-node-preserved c =
    let l = c.loop-node in
    writing-next _ c.args.nodes _ l.file l.node _ (words_of c.args.table.now (λ k. (c.type_inv.table k).fits)) c.requires.1.0 c.requires.0 c.requires.1.1
    c.loop-node-test.true c.put_line.ensures l.invariant

pub returns : goal.returns
returns c =
    let l = c.loop-node in
    writing_ends _ c.args.nodes _ l.file l.node (words_of c.args.table.now (λ k. (c.type_inv.table k).fits)) c.requires.1.0 c.requires.0 c.loop-node-test.false c.requires.1.1 l.invariant
