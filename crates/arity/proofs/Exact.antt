-- The published rules give a tree the counted inputs and outputs, and no others.
use Prim.Native.Nat.{ℕ, suc, ◌+◌, ◌-◌, ◌*◌}
use mathlib.Core.Path.{◌≡◌, refl, sym, ap, ap₂, ◌∙◌, subst, subst₂}
use native.Mathlib.Omega.{arith}
use Rattle.arity.specs.Tree.{Tree, Primitive, Composition, ins, outs, prim_ins, prim_outs}
use Rattle.arity.specs.Tree.Tree.{leaf, join, ondemand}
use Rattle.arity.specs.Tree.Primitive.{number, control, operation, delay, cable, cut}
use Rattle.arity.specs.Tree.Composition.{sequence, parallel, split, merge, recursion}
use Rattle.arity.specs.WellFormed.{Fits, Ruled}
use Rattle.arity.specs.Rules.{Arity}
use Rattle.arity.specs.Acceptance.{Exact}

-- what the rules give is what is counted
pub ruled : {x : Tree} {a b : ℕ} → Arity x a b → Ruled x × (a ≡ ins x) × (b ≡ outs x)
unfolding Ruled ins outs
ruled Arity.number = (tt, refl, refl)
ruled Arity.control = (tt, refl, refl)
ruled Arity.operation = (tt, refl, refl)
ruled Arity.delay = (tt, refl, refl)
ruled Arity.cable = (tt, refl, refl)
ruled Arity.cut = (tt, refl, refl)
ruled (Arity.sequence p q) = let (u, a, b) = ruled p in let (v, c, d) = ruled q in ((u, v, sym b ∙ c), a, d)
ruled (Arity.parallel p q) = let (u, a, b) = ruled p in let (v, c, d) = ruled q in ((u, v, tt), ap₂ ◌+◌ a c, ap₂ ◌+◌ b d)
ruled (Arity.split {k = k} h p q) = let (u, a, b) = ruled p in let (v, c, d) = ruled q in ((u, v, (k, h, ap (λ (z : ℕ). k * z) (sym b) ∙ c)), a, d)
ruled (Arity.merge {k = k} h p q) = let (u, a, b) = ruled p in let (v, c, d) = ruled q in ((u, v, (k, h, ap (λ (z : ℕ). k * z) (sym c) ∙ b)), a, d)
ruled (Arity.recursion m p q) =
    let (u, a, b) = ruled p in
    let (v, c, d) = ruled q in
    ((u, v, (omega arith, omega arith)), omega arith, b)
ruled (Arity.ondemand p) = let (u, a, b) = ruled p in (u, ap suc a, b)

-- what is counted, the rules give
leaf-arity : (i : ℕ) (p : Primitive) → Arity (leaf i p) (prim_ins p) (prim_outs p)
leaf-arity i (number v) = Arity.number
leaf-arity i (control s) = Arity.control
leaf-arity i (operation o) = Arity.operation
leaf-arity i (delay d) = Arity.delay
leaf-arity i cable = Arity.cable
leaf-arity i cut = Arity.cut

join-arity : (i : ℕ) (c : Composition) (l r : Tree) → Fits c l r → Arity l (ins l) (outs l) → Arity r (ins r) (outs r)
    → Arity (join i c l r) (ins (join i c l r)) (outs (join i c l r))
unfolding ins outs
join-arity i sequence l r f p q = Arity.sequence p (subst (λ (z : ℕ). Arity r z (outs r)) (sym f) q)
join-arity i parallel l r f p q = Arity.parallel p q
join-arity i split l r f p q = Arity.split {k = f.0} f.1 p (subst (λ (z : ℕ). Arity r z (outs r)) (sym f.2) q)
join-arity i merge l r f p q = Arity.merge {k = f.0} f.1 (subst (λ (z : ℕ). Arity l (ins l) z) (sym f.2) p) q
join-arity i recursion l r f p q =
    let x : outs r + (ins l - outs r) ≡ ins l = omega (arith, f.0, f.1) in
    let y : ins r + (outs l - ins r) ≡ outs l = omega (arith, f.0, f.1) in
    subst (λ (z : ℕ). Arity (join i recursion l r) (ins l - outs r) z) y
    (Arity.recursion (outs l - ins r) (subst₂ (λ (a b : ℕ). Arity l a b) (sym x) (sym y) p) q)

pub arity : (x : Tree) → Ruled x → Arity x (ins x) (outs x)
unfolding Ruled ins outs
arity (leaf i p) u = leaf-arity i p
arity (join i c l r) u = join-arity i c l r u.2 (arity l u.0) (arity r u.1)
arity (ondemand i b) u = Arity.ondemand (arity b u)

pub exact : Exact
exact x a b = (ruled, λ (u, e, f). subst₂ (λ (m n : ℕ). Arity x m n) (sym e) (sym f) (arity x u))
