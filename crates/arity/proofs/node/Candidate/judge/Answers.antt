-- Each return is a law of the tests on the fields.
use mathlib.Core.Path.{sym, ◌∙◌}
use borrow.Author.Tests.{leb-true}
use Rattle.arity.specs.Kinds.{number_of}
use Rattle.arity.proofs.Judging.{Read, named, first_wrong, second_wrong, leaf-right}
use Rattle.arity.proofs.node.Candidate.judge.Goals as goal
use Rattle.arity.proofs.node.Candidate.judge.Goals.{After-second_of-second}

-- the node as it was read
read : (c : After-second_of-second) → Read c.args.self.now.table.now c.args.self.now.node (number_of c.args.self.now.kind) c.first_of-first.result c.second_of-second.result
read c = record { kind = c.args.self.now.named; first = c.first_of-first.ensures; second = c.second_of-second.ensures }

pub returns-then-not-first_in_range : goal.returns-then-not-first_in_range
returns-then-not-first_in_range c = first_wrong (read (goal.at.returns-then-not-first_in_range c).After-second_of-second) (named c.args.self.now.kind) c.first_in_range.ensures c.if-not-first_in_range.true

pub returns-then-not-second_in_range : goal.returns-then-not-second_in_range
returns-then-not-second_in_range c = second_wrong (read (goal.at.returns-then-not-second_in_range c).After-second_of-second) (named c.args.self.now.kind) c.first_in_range.ensures c.if-not-first_in_range.false c.second_in_range.ensures c.if-not-second_in_range.true

pub returns : goal.returns
returns c = leaf-right (read (goal.at.returns c).After-second_of-second) (named c.args.self.now.kind) c.first_in_range.ensures c.if-not-first_in_range.false c.second_in_range.ensures c.if-not-second_in_range.false c.args.self.now.state.right (leb-true _ 6 (sym c.is_primitive.ensures ∙ c.if-not-is_primitive.false)) c.leaf_counts.ensures
