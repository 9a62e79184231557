-- `walker::wiring::first_given` meets its contract.
use mathlib.Core.Path.{sym, ◌∙◌}
use native.Mathlib.Omega.{arith}
use Rattle.arity.specs.declared.kinds.Kind.TheVariants.{Recursion}
use Rattle.walker.proofs.ByKind.{same_kind}
use Rattle.walker.proofs.Wires.{right-inputs, cells-room, right_few_inputs, first-same}
use Rattle.walker.proofs.wiring.first_given.Goals as goal

pub fetched-requires : goal.fetched-requires
fetched-requires c =
    let p = c.in-Recursion.ensures.promise in
    let b = right-inputs p c.requires.joins c.right.ensures.value c.inputs.ensures in
    omega (arith, c.cell.ensures.value, right_few_inputs p c.requires.joins, cells-room p c.requires.joins (sym c.in-Recursion.ensures.value) c.requires.roomy)

pub returns-in_default : goal.returns-in_default
returns-in_default c = first-same c.kind.ensures.promise c.requires.joins (λ e. c.in_default.not-Recursion (same_kind _ Recursion (c.kind.ensures.value ∙ e)))
