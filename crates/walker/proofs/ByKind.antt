-- A kind is known by its number.
use Prim.Native.Nat.{ℕ, zero, suc, ◌≤◌, ◌<◌}
use mathlib.Core.Path.{◌≡◌, refl, sym, ap, ◌∙◌}
use mathlib.Core.Logic.{◌⊎◌, inl, inr}
use mathlib.Core.List.{List, [], ◌∷◌}
use native.Mathlib.Omega.{arith}
use Rattle.arity.specs.Table.{nodes, kind_at}
use Rattle.arity.specs.Kinds.{number_of}
use Rattle.arity.specs.declared.kinds.Kind.{Kind}
use Rattle.arity.specs.declared.kinds.Kind.TheVariants.{Number, Control, Operation, Delay, Cable, Cut, Sequence, Parallel, Split, Merge, Recursion, Ondemand}
use Rattle.walker.specs.Ready.{Joins}

pick : List Kind → ℕ → Kind
pick [] n = Number
pick (k ∷ l) zero = k
pick (k ∷ l) (suc n) = pick l n

from : ℕ → Kind
from n = pick (Number ∷ Number ∷ Control ∷ Operation ∷ Delay ∷ Cable ∷ Cut ∷ Sequence ∷ Parallel ∷ Split ∷ Merge ∷ Recursion ∷ Ondemand ∷ []) n

back : (k : Kind) → from (number_of k) ≡ k
unfolding from pick
back Number = refl
back Control = refl
back Operation = refl
back Delay = refl
back Cable = refl
back Cut = refl
back Sequence = refl
back Parallel = refl
back Split = refl
back Merge = refl
back Recursion = refl
back Ondemand = refl

pub same_kind : (k k' : Kind) → number_of k ≡ number_of k' → k ≡ k'
same_kind k k' e = sym (back k) ∙ ap from e ∙ back k'

two_sides : {k : Kind} → (k ≡ Sequence) ⊎ ((k ≡ Parallel) ⊎ ((k ≡ Split) ⊎ ((k ≡ Merge) ⊎ (k ≡ Recursion)))) → (7 ≤ number_of k) × (number_of k ≤ 11)
two_sides (inl e) = rw e (omega arith, omega arith)
two_sides (inr (inl e)) = rw e (omega arith, omega arith)
two_sides (inr (inr (inl e))) = rw e (omega arith, omega arith)
two_sides (inr (inr (inr (inl e)))) = rw e (omega arith, omega arith)
two_sides (inr (inr (inr (inr e)))) = rw e (omega arith, omega arith)

-- a node of one of the kinds with two sides
pub joins : {table : List ℕ} {i : ℕ} {k : Kind} → i < nodes table → number_of k ≡ kind_at table i → (k ≡ Sequence) ⊎ ((k ≡ Parallel) ⊎ ((k ≡ Split) ⊎ ((k ≡ Merge) ⊎ (k ≡ Recursion)))) → Joins table i
joins inside e k =
    let two = two_sides k in
    record { inside = inside; least = omega (arith, two.0, e); most = omega (arith, two.1, e) }
