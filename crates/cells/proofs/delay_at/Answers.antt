-- `cells::delay_at` meets its contract.
use Prim.Native.Nat.{ℕ, suc, ◌+◌, ◌-◌, ◌≤◌}
use mathlib.Core.Path.{◌≡◌, sym, ap, ◌∙◌}
use mathlib.Core.List.{List, ◌++◌}
use native.Mathlib.Omega.{arith}
use lib.ListN.{length, take, drop}
use Rattle.cells.proofs.Line.{delayed-part, moved-part}
use Rattle.cells.proofs.delay_at.Goals as goal

pub returns : goal.returns
returns c =
    let cs : List ℕ = c.args.cells.now in
    let b : ℕ = c.args.base in
    let d : ℕ = c.args.d in
    let n : ℕ = b + (d + 1) - b in
    let x : ℕ = c.args.input in
    let size : n ≡ suc d = omega arith in
    let fits : b + n ≤ length cs = omega arith in (
      c.delay_step.ensures.0 ∙ sym (delayed-part b d n x cs size fits c.args.amount),
      ap (λ l. take b cs ++ (l ++ drop n (drop b cs))) c.delay_step.ensures.1 ∙ sym (moved-part b d n x cs size fits),
      c.delay_step.ensures.2,
    )
