-- `column::writer::put_line` meets its contract: the number in its column, and the row of the three behind it.
use native.Mathlib.Omega.{arith}
use borrow.Author.Rules.{rules}
use Rattle.column.proofs.Writes.{node-room, node_line_put}
use Rattle.column.proofs.writer.put_line.Goals as goal

pub put_number-requires : goal.put_number-requires
put_number-requires c =
    omega (arith, node-room c.args.node c.requires.1.0)

pub returns : goal.returns
returns c = node_line_put _ _ _ _ _ (search rules) (search rules) c.put_number.ensures c.put_row.ensures
