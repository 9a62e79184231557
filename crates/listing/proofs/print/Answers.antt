-- `listing::print` meets its contract: the print of the reader's answer.
use mathlib.Core.Path.{sym, ap}
use Prim.Native.Nat.{ℕ, ◌*◌}
use native.Mathlib.Omega.{arith}
use lib.Seq.{length-take-le}
use Rattle.listing.proofs.Files.{read-within, file_refused, file_printed}
use Rattle.listing.proofs.print.Goals as goal

pub slice_bounds-table-end : goal.slice_bounds-table-end
slice_bounds-table-end c = omega (arith, c.index-count.ensures, read-within _ _ _ _ c.read-answer.ensures _ c.in-Ok.is)

pub slice_bounds-print_table-end : goal.slice_bounds-print_table-end
slice_bounds-print_table-end c = sym (length-take-le _ _ (omega (arith, c.index-count.ensures, read-within _ _ _ _ c.read-answer.ensures _ c.in-Ok.is)))

pub returns-in-Err : goal.returns-in-Err
returns-in-Err c = file_refused _ _ _ _ c.read-answer.ensures (omega arith) _ c.in-Err.is c.put_refusal.ensures

pub returns-in-Ok : goal.returns-in-Ok
returns-in-Ok c = file_printed _ _ _ _ c.read-answer.ensures _ c.in-Ok.is _ (ap (λ (n : ℕ). 3 * n) c.index-count.ensures) c.print_table.ensures
