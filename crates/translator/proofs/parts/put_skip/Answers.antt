-- `translator::parts::put_skip` meets its contract.
use mathlib.Core.Path.{ap, ◌∙◌}
use native.Mathlib.Omega.{arith}
use Rattle.arity.specs.Tree.{outs, need}
use Rattle.arity.specs.Table.{tree}
use Rattle.translator.proofs.Leaves.{over-few, skips}
use Rattle.translator.proofs.parts.put_skip.Goals as goal

pub overflow_add-over : goal.overflow_add-over
overflow_add-over c =
    let body = c.left-body.ensures.value in
    omega (arith, over-few c.left-body.ensures.promise c.requires.demands (c.instructions.ensures ∙ ap (λ k. need (tree c.args.circuit.now k)) body) (c.outputs.ensures ∙ ap (λ k. outs (tree c.args.circuit.now k)) body))

pub returns : goal.returns
returns c =
    let body = c.left-body.ensures.value in
    skips c.left-body.ensures.promise c.requires.demands (c.instructions.ensures ∙ ap (λ k. need (tree c.args.circuit.now k)) body) (c.outputs.ensures ∙ ap (λ k. outs (tree c.args.circuit.now k)) body)
    (rw c.skip.ensures at c.push.ensures) c.after.ensures
