-- `column::writer::write` meets its contract: 3, then 12, then the lines.
use native.Mathlib.Omega.{arith}
use Rattle.column.proofs.Writes.{write-empty, write-uneven, write_many, write-short, write-put}
use Rattle.column.proofs.writer.write.Goals as goal
use Rattle.column.proofs.writer.write.Goals.{then-numbers-eq0-via-then-numbers-eq0, then-numbers-eq0-via-else-numbers-eq0+then-numbers-ne0}

pub returns-then-numbers-eq0 : goal.returns-then-numbers-eq0
returns-then-numbers-eq0 c =
    let a = c.args in
    elim c.then-numbers-eq0.branch [
      | then-numbers-eq0-via-then-numbers-eq0 w ↦ write-empty a.table.now a.file.now w.if-numbers-eq0.true
      | then-numbers-eq0-via-else-numbers-eq0+then-numbers-ne0 w ↦ write-uneven a.table.now a.file.now w.if-numbers-eq0.false w.if-numbers-ne0.true
    ]

pub returns-then-nodes-gt-NODES : goal.returns-then-nodes-gt-NODES
returns-then-nodes-gt-NODES c =
    let a = c.args in
    write_many a.table.now a.file.now c.if-numbers-eq0.false c.if-numbers-ne0.false (omega arith)

pub returns-then-file-needed : goal.returns-then-file-needed
returns-then-file-needed c =
    let a = c.args in
    write-short a.table.now a.file.now c.if-numbers-eq0.false c.if-numbers-ne0.false c.if-nodes-gt-NODES.false c.if-file-needed.true

pub returns : goal.returns
returns c =
    let a = c.args in
    let if1 = c.if-numbers-eq0 in
    write-put a.table.now a.file.now if1.false c.if-numbers-ne0.false c.if-nodes-gt-NODES.false _ c.if-file-needed.false c.put_lines.ensures
