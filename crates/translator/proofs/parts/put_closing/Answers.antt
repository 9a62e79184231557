-- `translator::parts::put_closing` meets its contract.
use mathlib.Core.List.{[]}
use mathlib.Core.Path.{sym, ◌∙◌}
use native.Mathlib.Omega.{arith}
use Rattle.arity.specs.declared.kinds.Kind.TheVariants.{Parallel, Recursion}
use Rattle.walker.proofs.ByKind.{same_kind}
use Rattle.walker.proofs.Wires.{left-outputs, right-inputs, right-outputs, parallel-room, finished_parallel, finished_other}
use Rattle.translator.proofs.Sides.{closes_recursion, closes_other}
use Rattle.translator.proofs.parts.put_closing.Goals as goal

pub joined-requires : goal.joined-requires
joined-requires c =
    let p = c.in-Parallel.ensures.promise in
    let m = left-outputs p c.requires.joins c.left.ensures.value c.outputs-m.ensures in
    let k = right-outputs p c.requires.joins c.right.ensures.value c.outputs-k.ensures in
    omega (arith, parallel-room p c.requires.joins (sym c.in-Parallel.ensures.value))

pub returns-in-Parallel : goal.returns-in-Parallel
returns-in-Parallel c =
    let p = c.in-Parallel.ensures.promise in
    let e = sym c.in-Parallel.ensures.value in
    let m = left-outputs p c.requires.joins c.left.ensures.value c.outputs-m.ensures in
    let k = right-outputs p c.requires.joins c.right.ensures.value c.outputs-k.ensures in
    closes_other p c.requires.joins (λ f. omega arith) (finished_parallel p c.requires.joins {cs = []} e m k c.joined.ensures)

pub returns-in-Recursion : goal.returns-in-Recursion
returns-in-Recursion c =
    let p = c.in-Recursion.ensures.promise in
    let k = right-inputs p c.requires.joins c.right-in-Recursion.ensures.value c.inputs-k.ensures in
    closes_recursion p c.requires.joins (sym c.in-Recursion.ensures.value) c.cell-cell.ensures.value k c.put_writes.ensures

pub returns-in_default : goal.returns-in_default
returns-in_default c =
    let p = c.kind.ensures.promise in
    closes_other p c.requires.joins (λ e. c.in_default.not-Recursion (same_kind _ Recursion (c.kind.ensures.value ∙ e)))
    (finished_other p c.requires.joins {cs = []} (λ e. c.in_default.not-Parallel (same_kind _ Parallel (c.kind.ensures.value ∙ e))) (λ e. c.in_default.not-Recursion (same_kind _ Recursion (c.kind.ensures.value ∙ e))))
