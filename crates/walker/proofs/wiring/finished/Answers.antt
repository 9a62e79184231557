-- `walker::wiring::finished` meets its contract.
use mathlib.Core.Path.{sym, ◌∙◌}
use native.Mathlib.Omega.{arith}
use Rattle.arity.specs.declared.kinds.Kind.TheVariants.{Parallel, Recursion}
use Rattle.walker.proofs.ByKind.{same_kind}
use Rattle.walker.proofs.Wires.{left-outputs, right-inputs, right-outputs, parallel-room, cells-room, right_few_inputs, finished_parallel, finished_recursion, finished_other}
use Rattle.walker.proofs.wiring.finished.Goals as goal

pub joined-requires : goal.joined-requires
joined-requires c =
    let p = c.in-Parallel.ensures.promise in
    let a = left-outputs p c.requires.joins c.left-left.ensures.value c.outputs.ensures in
    let b = right-outputs p c.requires.joins c.right-right.ensures.value c.outputs-in-Parallel.ensures in
    omega (arith, parallel-room p c.requires.joins (sym c.in-Parallel.ensures.value))

pub returns-in-Parallel : goal.returns-in-Parallel
returns-in-Parallel c =
    let p = c.in-Parallel.ensures.promise in
    finished_parallel p c.requires.joins (sym c.in-Parallel.ensures.value)
    (left-outputs p c.requires.joins c.left-left.ensures.value c.outputs.ensures)
    (right-outputs p c.requires.joins c.right-right.ensures.value c.outputs-in-Parallel.ensures)
    c.joined.ensures

pub keep-requires : goal.keep-requires
keep-requires c =
    let p = c.in-Recursion.ensures.promise in
    let b = right-inputs p c.requires.joins c.right-right.ensures.value c.inputs.ensures in
    omega (arith, c.cell.ensures.value, right_few_inputs p c.requires.joins, cells-room p c.requires.joins (sym c.in-Recursion.ensures.value) c.requires.roomy)

pub returns-in-Recursion : goal.returns-in-Recursion
returns-in-Recursion c =
    let p = c.in-Recursion.ensures.promise in
    finished_recursion p c.requires.joins (sym c.in-Recursion.ensures.value) c.cell.ensures.value (right-inputs p c.requires.joins c.right-right.ensures.value c.inputs.ensures) c.keep.ensures

pub returns-in_default : goal.returns-in_default
returns-in_default c =
    finished_other c.kind.ensures.promise c.requires.joins
    (λ e. c.in_default.not-Parallel (same_kind _ Parallel (c.kind.ensures.value ∙ e)))
    (λ e. c.in_default.not-Recursion (same_kind _ Recursion (c.kind.ensures.value ∙ e)))
