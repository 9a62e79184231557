use Rattle.std.proofs.Common.{sym, arith, length-take-le}
use Rattle.listing.proofs.Files.{read-within}
use Rattle.console.proofs.playing.translate_file.Goals as goal

pub slice_bounds-table-end : goal.slice_bounds-table-end
slice_bounds-table-end c = omega (arith, c.index-count.ensures, read-within _ _ _ _ c.read.ensures _ c.in_ok-nodes.was)

pub slice_bounds-translate_table-end : goal.slice_bounds-translate_table-end
slice_bounds-translate_table-end c = sym (length-take-le _ _ (omega (arith, c.index-count.ensures, read-within _ _ _ _ c.read.ensures _ c.in_ok-nodes.was)))
