-- Each return is a law of the tests on the marks and rows.
use mathlib.Core.Path.{◌∙◌}
use Rattle.arity.specs.Kinds.{number_of}
use Rattle.arity.proofs.Judging.{Read, seen_child, seen_rule, seen_joinable, seen_feedback, seen_ins, seen_outs, seen_right}
use Rattle.arity.proofs.node.Candidate.judge_children.Goals as goal
use Rattle.arity.proofs.node.Candidate.judge_children.Goals.{After-children_free}

-- the node as it was read
read : (c : After-children_free) → Read c.args.self.now.table.now c.args.self.now.node (number_of c.args.self.now.kind) c.index-left.result c.index-right.result
read c = record { kind = c.args.self.now.named; first = c.index-left.ensures ∙ c.first_of.ensures; second = c.index-right.ensures ∙ c.second_of.ensures }

pub returns-then-not-children_free : goal.returns-then-not-children_free
returns-then-not-children_free c = seen_child c.args.self.now.state c.requires.branching (read (goal.at.returns-then-not-children_free c).After-children_free) c.children_free.ensures c.if-not-children_free.true

pub returns-then-not-rule_fits : goal.returns-then-not-rule_fits
returns-then-not-rule_fits c =
    seen_rule c.args.self.now.state c.requires.branching (read (goal.at.returns-then-not-rule_fits c).After-children_free) c.children_free.ensures c.if-not-children_free.false c.row_at-l.ensures c.row_at-r.ensures c.rule_fits.ensures c.if-not-rule_fits.true

pub returns-then-not-feeds_back : goal.returns-then-not-feeds_back
returns-then-not-feeds_back c =
    seen_feedback c.args.self.now.state c.requires.branching (read (goal.at.returns-then-not-feeds_back c).After-children_free) c.children_free.ensures c.if-not-children_free.false c.row_at-l.ensures c.row_at-r.ensures c.rule_fits.ensures c.if-not-rule_fits.false c.feeds_back.ensures c.if-not-feeds_back.true

pub joint_counts-n-requires : goal.joint_counts-n-requires
joint_counts-n-requires c =
    seen_joinable c.args.self.now.state c.requires.branching (read (goal.at.joint_counts-n-requires c).After-children_free) c.children_free.ensures c.if-not-children_free.false c.row_at-l.ensures c.row_at-r.ensures c.rule_fits.ensures c.if-not-rule_fits.false

pub returns-then-n-gt-WIDEST : goal.returns-then-n-gt-WIDEST
returns-then-n-gt-WIDEST c =
    seen_ins c.args.self.now.state c.requires.branching (read (goal.at.returns-then-n-gt-WIDEST c).After-children_free) c.children_free.ensures c.if-not-children_free.false c.row_at-l.ensures c.row_at-r.ensures c.rule_fits.ensures c.if-not-rule_fits.false c.feeds_back.ensures c.if-not-feeds_back.false c.joint_counts-n.ensures c.if-n-gt-WIDEST.true

pub returns-then-n-gt-WIDEST-2 : goal.returns-then-n-gt-WIDEST-2
returns-then-n-gt-WIDEST-2 c =
    seen_outs c.args.self.now.state c.requires.branching (read (goal.at.returns-then-n-gt-WIDEST-2 c).After-children_free) c.children_free.ensures c.if-not-children_free.false c.row_at-l.ensures c.row_at-r.ensures c.rule_fits.ensures c.if-not-rule_fits.false c.feeds_back.ensures c.if-not-feeds_back.false c.joint_counts-n.ensures c.if-n-gt-WIDEST.false c.if-n-gt-WIDEST-2.true

pub returns : goal.returns
returns c =
    seen_right c.args.self.now.state c.requires.branching (read (goal.at.returns c).After-children_free) c.children_free.ensures c.if-not-children_free.false c.row_at-l.ensures c.row_at-r.ensures c.rule_fits.ensures c.if-not-rule_fits.false c.feeds_back.ensures c.if-not-feeds_back.false c.joint_counts-n.ensures c.if-n-gt-WIDEST.false c.if-n-gt-WIDEST-2.false
