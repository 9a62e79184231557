-- `joining::copy::put_table` meets its contract: node after node.
use mathlib.Core.Path.{◌≡◌, ◌∙◌}
use native.Mathlib.Omega.{arith}
use Rattle.std.proofs.lemmas.Option.{MatchOption-at_some}
use Rattle.arity.specs.Table.{kind_at}
use Rattle.arity.specs.Kinds.{number_of}
use Rattle.joining.proofs.Copying.{going_on, going_ends, named, first_fits, second_fits}
use Rattle.joining.proofs.copy.put_table.Goals as goal
use Rattle.joining.proofs.copy.put_table.Goals.{After-unwrap-kind}

pub unwrap-kind-requires : goal.unwrap-kind-requires
unwrap-kind-requires c = named c.requires.accepted c.requires.space c.loop-i.invariant c.loop-i-test.true _ c.kind_of-number.ensures c.numbered.ensures

-- the kind by its name
kind : (c : After-unwrap-kind) → number_of c.unwrap-kind.result ≡ kind_at c.args.table.now c.loop-i.i
kind c = MatchOption-at_some _ _ _ c.unwrap-kind.ensures c.numbered.ensures ∙ c.kind_of-number.ensures

pub moved_field-first-requires : goal.moved_field-first-requires
moved_field-first-requires c = λ e. omega (arith, c.first_of.ensures, first_fits c.requires.accepted c.requires.space c.loop-i.invariant c.loop-i-test.true (kind (goal.at.moved_field-first-requires c).After-unwrap-kind) c.has_child.ensures e)

pub moved_field-second-requires : goal.moved_field-second-requires
moved_field-second-requires c = λ e. omega (arith, c.second_of.ensures, second_fits c.requires.accepted c.requires.space c.loop-i.invariant c.loop-i-test.true (kind (goal.at.moved_field-second-requires c).After-unwrap-kind) c.two_children.ensures e)

pub loop-i-preserved : goal.loop-i-preserved
loop-i-preserved c = going_on c.requires.accepted c.requires.space c.loop-i.invariant c.loop-i-test.true c.kind_of-number.ensures (kind (goal.at.loop-i-preserved c).After-unwrap-kind) c.first_of.ensures c.second_of.ensures c.has_child.ensures c.two_children.ensures c.moved_field-first.ensures c.moved_field-second.ensures c.put_node.ensures

pub returns : goal.returns
returns c = going_ends c.requires.accepted c.requires.space c.loop-i.invariant c.loop-i-test.false
