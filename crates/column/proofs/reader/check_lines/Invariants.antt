use Rattle.std.proofs.Common.{◌≡◌}
use Rattle.std.specs.Slice.Iter.{chunks_rest, chunks_size}
use Rattle.column.proofs.Judged.{Columns}
use Rattle.column.proofs.Checking.{Checking}
use Rattle.column.proofs.reader.check_lines.Given as goal

abbrev pub invariant-loop-bytes : goal.invariant-loop-bytes
invariant-loop-bytes l = (chunks_size l.bytes-iterator ≡ 41) × Checking l.file (chunks_rest l.bytes-iterator) l.line

abbrev pub invariant-loop-column : goal.invariant-loop-column
invariant-loop-column l = Columns l.bytes l.line l.column
