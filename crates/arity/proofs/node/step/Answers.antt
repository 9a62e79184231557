-- What was judged, by cases; a node that is right leads to the next state.
use mathlib.Core.Path.{◌≡◌, refl, ◌∙◌}
use native.Mathlib.Omega.{arith}
use Rattle.arity.specs.Table.{tree}
use Rattle.arity.specs.Check.{refusal_at}
use Rattle.arity.specs.Steps.{counts_of}
use Rattle.arity.proofs.Judging.{unknown}
use Rattle.arity.proofs.Next.{next, markable, cells_fit}
use Rattle.arity.proofs.node.step.Goals as goal
use Rattle.arity.proofs.node.step.Goals.{In_ok-n}

pub returns-in_default : goal.returns-in_default
returns-in_default c = (unknown _ _ c.kind_of.ensures c.in_default.ensures, refl)

-- the counts that were found
found : (c : In_ok-n) → (refusal_at c.args.table.now c.args.node ≡ 0) × (c.in_ok-n.n ≡ counts_of (tree c.args.table.now c.args.node))
found c = c.in_ok-n.ensures

pub mark-requires-clause-left_lt_most_nodes : goal.mark-requires-clause-left_lt_most_nodes
mark-requires-clause-left_lt_most_nodes c =
    let f = found (goal.at.mark-requires-clause-left_lt_most_nodes c).In_ok-n in
    (markable c.requires.state c.requires.node_bound f.0 (c.in-Some.ensures ∙ c.kind_of.ensures) (c.index-left.ensures ∙ c.first_of.ensures) (c.index-right.ensures ∙ c.second_of.ensures)).0

pub mark-requires-clause-right_lt_most_nodes : goal.mark-requires-clause-right_lt_most_nodes
mark-requires-clause-right_lt_most_nodes c =
    let f = found (goal.at.mark-requires-clause-right_lt_most_nodes c).In_ok-n in
    (markable c.requires.state c.requires.node_bound f.0 (c.in-Some.ensures ∙ c.kind_of.ensures) (c.index-left.ensures ∙ c.first_of.ensures) (c.index-right.ensures ∙ c.second_of.ensures)).1

pub overflow_add-result : goal.overflow_add-result
overflow_add-result c =
    let f = found (goal.at.overflow_add-result c).In_ok-n in
    omega (arith, cells_fit c.requires.state c.requires.node_bound f.0 c.requires.cell_value f.1)

pub returns : goal.returns
returns c =
    let f = found (goal.at.returns c).In_ok-n in
    next c.requires.state c.requires.node_bound f.0 _ _ _ _ _ _ _ c.requires.cell_value f.1 (c.in-Some.ensures ∙ c.kind_of.ensures) (c.index-left.ensures ∙ c.first_of.ensures) (c.index-right.ensures ∙ c.second_of.ensures) c.put_row.ensures c.mark.ensures
