-- By kind.
use native.Mathlib.Numerals.{add-one}
use Rattle.std.proofs.Common.{rules}
use Rattle.arity.specs.Tree.{ins, outs, size, need}
use Rattle.arity.proofs.counts.leaf_counts.Goals as goal

pub returns-in-Delay : goal.returns-in-Delay
unfolding ins outs size need
returns-in-Delay c = search (rules, add-one)
