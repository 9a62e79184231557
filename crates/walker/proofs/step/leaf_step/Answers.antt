-- `walker::step::leaf_step` meets its contract.
use mathlib.Core.Path.{sym, ◌∙◌}
use native.Mathlib.Omega.{arith}
use Rattle.arity.specs.declared.kinds.Kind.TheVariants.{Number, Control, Operation, Delay, Cable}
use Rattle.walker.proofs.ByKind.{same_kind}
use Rattle.walker.proofs.Leaves.{delay-small, delay-room, number_ticked, control_ticked, operation_ticked, delay_ticked, cable_ticked, cut_ticked, sixth}
use Rattle.walker.proofs.step.leaf_step.Goals as goal

pub returns-in-Number : goal.returns-in-Number
returns-in-Number c = number_ticked c.in-Number.ensures.promise c.requires.inside.inside (sym c.in-Number.ensures.value) c.value-value.ensures.value c.one.ensures

pub returns-in-Control : goal.returns-in-Control
returns-in-Control c =
    control_ticked c.in-Control.ensures.promise c.requires.inside.inside (sym c.in-Control.ensures.value) (c.index.ensures ∙ c.value-value.ensures.value) c.number_at.ensures c.one-in-Control.ensures

pub returns-in-Operation : goal.returns-in-Operation
returns-in-Operation c =
    operation_ticked c.in-Operation.ensures.promise c.requires.inside.inside (sym c.in-Operation.ensures.value) c.value-value.ensures.value c.inputs.ensures
    c.number_at-in-Operation.ensures c.number_at-in-Operation-2.ensures c.number_at-in-Operation-3.ensures c.operate.ensures c.one-in-Operation.ensures

pub delay_at-delayed-requires : goal.delay_at-delayed-requires
delay_at-delayed-requires c =
    let p = c.in-Delay.ensures.promise in
    let e = sym c.in-Delay.ensures.value in
    let d = c.index-in-Delay.ensures ∙ c.value-value.ensures.value in
    omega (arith, c.cell.ensures.value, delay-small p c.requires.inside.inside e, delay-room p c.requires.inside.inside e c.requires.roomy)

pub returns-in-Delay : goal.returns-in-Delay
returns-in-Delay c =
    delay_ticked c.in-Delay.ensures.promise c.requires.inside.inside (sym c.in-Delay.ensures.value) c.cell.ensures.value (c.index-in-Delay.ensures ∙ c.value-value.ensures.value) c.inputs.ensures
    c.number_at-in-Delay.ensures c.number_at-in-Delay-2.ensures c.delay_at-delayed.ensures.0 c.delay_at-delayed.ensures.1 c.delay_at-delayed.ensures.2 c.tell.ensures c.one-in-Delay.ensures

pub returns-in-Cable : goal.returns-in-Cable
returns-in-Cable c = cable_ticked c.in-Cable.ensures.promise c.requires.inside.inside (sym c.in-Cable.ensures.value) c.inputs.ensures c.number_at-in-Cable.ensures c.one-in-Cable.ensures

pub returns-in_default : goal.returns-in_default
returns-in_default c =
    let v = c.kind.ensures.value in
    cut_ticked c.kind.ensures.promise c.requires.inside.inside
    (sixth _ (c.kind.ensures.promise.node _ c.requires.inside.inside).least c.requires.node_bound
    (λ e. c.in_default.not-Number (same_kind _ Number (v ∙ e)))
    (λ e. c.in_default.not-Control (same_kind _ Control (v ∙ e)))
    (λ e. c.in_default.not-Operation (same_kind _ Operation (v ∙ e)))
    (λ e. c.in_default.not-Delay (same_kind _ Delay (v ∙ e)))
    (λ e. c.in_default.not-Cable (same_kind _ Cable (v ∙ e))))
