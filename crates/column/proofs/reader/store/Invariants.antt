-- `column::reader::store` meets its contract: the numbers that are left complete those that are stored.
use Rattle.column.proofs.Storing.{Storing}
use Rattle.column.proofs.reader.store.Given as goal

abbrev pub invariant-loop-node : goal.invariant-loop-node
invariant-loop-node l = Storing l.file l.initial.table l.nodes l.table l.node
