-- `column::writer::put_lines` meets its contract: line after line, each in the part of the file that is lent for it.
use Rattle.column.proofs.Writes.{Writing}
use Rattle.column.proofs.writer.put_lines.Given as goal

abbrev pub invariant-loop-node : goal.invariant-loop-node
invariant-loop-node l = Writing l.table l.nodes l.initial.file l.file l.node
