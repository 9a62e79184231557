-- A merge takes no more than it is given; the counts of a primitive do not depend on its number.
use Prim.Native.Nat.{ℕ, ◌≤◌}
use mathlib.Core.Path.{◌≡◌, refl}
use mathlib.Core.Bool.{true}
use Rattle.arity.specs.Tree.{Primitive, ins, outs, size, need}
use Rattle.arity.specs.Tree.Tree.{leaf}
use Rattle.arity.specs.Tree.Primitive.{number, control, operation, delay, cable, cut}
use Rattle.arity.specs.Steps.{counts_of, rule_of}
use Rattle.arity.specs.declared.rows.Row.{Row}
use Rattle.arity.proofs.Times.{times, times_least}

-- a merge's right inputs are no more than its left outputs
pub merge_less : (k : ℕ) (l r : Row) → k ≡ 10 → rule_of k l r ≡ true → r.inputs ≤ l.outputs
merge_less k l r e h = times_least r.inputs l.outputs (times r.inputs l.outputs (rw e at h))

-- nodes without children; their number does not matter
pub leaf_any : (i : ℕ) (p : Primitive) → counts_of (leaf 0 p) ≡ counts_of (leaf i p)
unfolding ins outs size need
leaf_any i (number v) = refl
leaf_any i (control s) = refl
leaf_any i (operation o) = refl
leaf_any i (delay d) = refl
leaf_any i cable = refl
leaf_any i cut = refl
