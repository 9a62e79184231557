-- `translator::emit::emit_leaf` meets its contract.
use mathlib.Core.Path.{sym, ◌∙◌}
use Rattle.arity.specs.declared.kinds.Kind.TheVariants.{Number, Control, Operation, Delay, Cable}
use Rattle.walker.proofs.ByKind.{same_kind}
use Rattle.walker.proofs.Leaves.{sixth}
use Rattle.translator.proofs.Leaves.{leaf_room, leaf_emits, number-leaf, control-leaf, operation-leaf, delay-leaf, cable_emits, cut_emits}
use Rattle.translator.proofs.emit.emit_leaf.Goals as goal

pub push_one-requires : goal.push_one-requires
push_one-requires c = rw c.number.ensures (leaf_room (number-leaf c.in-Number.ensures.promise c.requires.inside.inside c.args.p c.value-value.ensures.value (sym c.in-Number.ensures.value)) c.requires.room)

pub returns-in-Number : goal.returns-in-Number
returns-in-Number c = leaf_emits (number-leaf c.in-Number.ensures.promise c.requires.inside.inside c.args.p c.value-value.ensures.value (sym c.in-Number.ensures.value)) (rw c.number.ensures at c.push_one.ensures)

pub push_one-requires-in-Control : goal.push_one-requires-in-Control
push_one-requires-in-Control c = rw c.control.ensures (leaf_room (control-leaf c.in-Control.ensures.promise c.requires.inside.inside c.args.p c.value-value.ensures.value (sym c.in-Control.ensures.value)) c.requires.room)

pub returns-in-Control : goal.returns-in-Control
returns-in-Control c = leaf_emits (control-leaf c.in-Control.ensures.promise c.requires.inside.inside c.args.p c.value-value.ensures.value (sym c.in-Control.ensures.value)) (rw c.control.ensures at c.push_one-in-Control.ensures)

pub push_one-requires-in-Operation : goal.push_one-requires-in-Operation
push_one-requires-in-Operation c = rw c.operation.ensures (leaf_room (operation-leaf c.in-Operation.ensures.promise c.requires.inside.inside c.args.p c.inputs-n.ensures c.entry-x.ensures (sym c.in-Operation.ensures.value) c.value-value.ensures.value c.entry-y.ensures c.entry-z.ensures) c.requires.room)

pub returns-in-Operation : goal.returns-in-Operation
returns-in-Operation c = leaf_emits (operation-leaf c.in-Operation.ensures.promise c.requires.inside.inside c.args.p c.inputs-n.ensures c.entry-x.ensures (sym c.in-Operation.ensures.value) c.value-value.ensures.value c.entry-y.ensures c.entry-z.ensures) (rw c.operation.ensures at c.push_one-in-Operation.ensures)

pub push_one-requires-in-Delay : goal.push_one-requires-in-Delay
push_one-requires-in-Delay c = rw c.delay.ensures (leaf_room (delay-leaf c.in-Delay.ensures.promise c.requires.inside.inside c.args.p c.inputs-n.ensures c.entry-x.ensures (sym c.in-Delay.ensures.value) c.value-value.ensures.value c.entry-y.ensures c.cell-cell.ensures.value) c.requires.room)

pub returns-in-Delay : goal.returns-in-Delay
returns-in-Delay c = leaf_emits (delay-leaf c.in-Delay.ensures.promise c.requires.inside.inside c.args.p c.inputs-n.ensures c.entry-x.ensures (sym c.in-Delay.ensures.value) c.value-value.ensures.value c.entry-y.ensures c.cell-cell.ensures.value) (rw c.delay.ensures at c.push_one-in-Delay.ensures)

pub returns-in-Cable : goal.returns-in-Cable
returns-in-Cable c = cable_emits c.in-Cable.ensures.promise c.requires.inside.inside c.args.p c.inputs-n.ensures c.entry-x.ensures (sym c.in-Cable.ensures.value) c.one_register.ensures

pub returns-in_default : goal.returns-in_default
returns-in_default c =
    let v = c.kind.ensures.value in
    cut_emits c.kind.ensures.promise c.requires.inside.inside c.args.p
    (sixth _ (c.kind.ensures.promise.node _ c.requires.inside.inside).least c.requires.node_bound
    (λ e. c.in_default.not-Number (same_kind _ Number (v ∙ e)))
    (λ e. c.in_default.not-Control (same_kind _ Control (v ∙ e)))
    (λ e. c.in_default.not-Operation (same_kind _ Operation (v ∙ e)))
    (λ e. c.in_default.not-Delay (same_kind _ Delay (v ∙ e)))
    (λ e. c.in_default.not-Cable (same_kind _ Cable (v ∙ e))))
