-- By kind; the rules of merge and recursion keep the differences from falling below 0.
use mathlib.Core.Path.{ap}
use native.Mathlib.Numerals.{add-one}
use Rattle.std.proofs.Common.{rules}
use Rattle.arity.specs.Tree.{ins, outs, size, need}
use Rattle.arity.specs.Kinds.{number_of}
use Rattle.arity.proofs.Joint.{merge_less}
use Rattle.arity.proofs.counts.joint_counts.Goals as goal

pub overflow_sub-result : goal.overflow_sub-result
overflow_sub-result c = let s = c in merge_less (number_of s.args.kind) s.args.l s.args.r (ap number_of c.in-Merge.is) s.requires.fits

pub returns-in-Ondemand : goal.returns-in-Ondemand
unfolding ins outs size need
returns-in-Ondemand c = search (rules, add-one)
