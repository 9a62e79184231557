-- The first bytes of a file decide its print, and so many are read, or all.
use Rattle.std.proofs.Common.{subst, arith}
use Rattle.std.specs.Io.KnownBytes.{Appends}
use Rattle.column.specs.Line.{enough_bytes}
use Rattle.listing.specs.Print.{file_text}
use Rattle.listing.proofs.Prefix.{prefix_prints}
use Rattle.console.proofs.Written.{begins_shows, read_written, on_ok}
use Rattle.console.proofs.translating.translate.Goals as goal

pub returns : goal.returns
returns g c =
    let read = c.in_ok-count.ensures in
    on_ok c.write_all.result (λ a. read_written file_text enough_bytes prefix_prints _ _ c.in_ok-count.count c.read_full.new.buffer _ _ (omega arith) read.within read.taken read.last (subst (Appends _ _) (begins_shows c.print-bytes.ensures) a)) c.write_all.ensures.bytes
