-- `listing::print_table` meets its contract: the print of the translator's answer.
use mathlib.Core.Path.{sym}
use native.Mathlib.Omega.{arith}
use lib.Seq.{length-take-le}
use Rattle.listing.proofs.Tables.{is_within, is_listable, table-refused, table-listed}
use Rattle.listing.proofs.print_table.Goals as goal

pub slice_bounds-code-end : goal.slice_bounds-code-end
slice_bounds-code-end c = omega (arith, c.index-count.ensures, is_within _ _ c.translate-answer.ensures _ c.in-Ok.is, c.translate-answer.auto.code)

pub slice_bounds-put_code-end : goal.slice_bounds-put_code-end
slice_bounds-put_code-end c = sym (length-take-le _ _ (omega (arith, c.index-count.ensures, is_within _ _ c.translate-answer.ensures _ c.in-Ok.is, c.translate-answer.auto.code)))

pub put_code-requires : goal.put_code-requires
put_code-requires c = rw c.index-count.ensures (is_listable _ _ c.translate-answer.ensures _ c.in-Ok.is (λ k. (c.type_inv.table k).fits) _ c.requires)

pub returns-in-Err : goal.returns-in-Err
returns-in-Err c = table-refused _ c.translate-answer.ensures _ c.in-Err.is c.put_refusal.ensures

pub returns-in-Ok : goal.returns-in-Ok
returns-in-Ok c = table-listed _ c.translate-answer.ensures _ _ c.in-Ok.is c.index-count.ensures c.put_code.ensures
