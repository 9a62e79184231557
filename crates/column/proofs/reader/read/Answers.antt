-- `column::reader::read` meets its contract: the lines, then the buffer, and only then the stores.
use Rattle.std.proofs.Common.{arith}
use Rattle.std.proofs.lemmas.Result.{err_from_is_err_and}
use Rattle.column.proofs.Storing.{read-refused, read_short, read_stored}
use Rattle.column.proofs.reader.read.Goals as goal

pub returns-in_err-count : goal.returns-in_err-count
returns-in_err-count c =
    let a = c.args in
    let check = c.check_lines in
    let p = err_from_is_err_and c.from_residual.result c.from_residual.ensures.1 in
    rw (p.1, p.2) (read-refused a.file.now a.table.now check.result check.ensures _ c.in_err-count.was)

pub returns-then-table-nodes : goal.returns-then-table-nodes
returns-then-table-nodes c =
    let a = c.args in
    let check = c.check_lines in
    read_short a.file.now a.table.now check.result check.ensures c.in_ok-count.count c.in_ok-count.was (omega arith)

pub returns : goal.returns
returns c =
    let a = c.args in
    let check = c.check_lines in
    read_stored a.file.now a.table.now check.result check.ensures c.in_ok-count.count c.in_ok-count.was _ (omega arith) (rw c.index-nodes.ensures at c.store.ensures)
