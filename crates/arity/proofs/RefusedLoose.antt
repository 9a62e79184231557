-- Refusal 9 in the check's answer: its place.
use Prim.Native.Nat.{ℕ, ◌<◌}
use mathlib.Core.Path.{◌≡◌, sym, ◌∙◌}
use mathlib.Core.List.{List}
use native.Mathlib.Omega.{arith}
use Rattle.refusal.specs.Answer.{refused_at}
use Rattle.arity.specs.Table.{nodes, tree}
use Rattle.arity.specs.Check.{feeds_back, narrow, refusal_at, first_refused, first_loose, checked}
use Rattle.arity.specs.Loose.{RefusedLoose}
use Rattle.arity.proofs.Tests.{passed}
use Rattle.arity.proofs.Right.{past}
use Rattle.arity.proofs.Loose.{one-loose, not_lower}
use Rattle.arity.proofs.Walk.{Verdict, verdict, never}
use Rattle.arity.proofs.Walk.Verdict.{miscounted, wrong_node, loose-node}

-- no row of a node is 9
no_row : (t : List ℕ) (i : ℕ) → refusal_at t i ≡ 9 → ⊥
no_row t i e =
    let g = passed (feeds_back t i) 16 _ 9 (past t i 9 e (λ l m. omega arith)).rest (λ z. omega arith) in
    omega (arith, (passed (narrow (tree t i)) 8 0 9 g.1 (λ z. omega arith)).1)

-- its place is the first loose node
place_is : (t : List ℕ) (p : ℕ) → checked t ≡ refused_at 9 p → (first_loose t < nodes t) × (p ≡ first_loose t)
place_is t p e = go (verdict t)
  where
    go : Verdict t → (first_loose t < nodes t) × (p ≡ first_loose t)
    go (miscounted i f) = let g : refused_at 3 i ≡ refused_at 9 p = sym f ∙ e in let z : ◌≡◌ {A = ℕ} 3 9 = cc g in absurd (omega arith)
    go (wrong_node f) =
        let g : refused_at (refusal_at t (first_refused t)) (first_refused t) ≡ refused_at 9 p = sym f ∙ e in
        absurd (no_row t (first_refused t) (cc g))
    go (loose-node h f) = let g : refused_at 9 (first_loose t) ≡ refused_at 9 p = sym f ∙ e in (h, cc g)
    go (Verdict.passed x f) = absurd (never _ _ _ (sym e ∙ f))

pub refused-loose : (t : List ℕ) → RefusedLoose t
refused-loose t p e = let (h, z) = place_is t p e in rw z (one-loose t h, λ q l. not_lower t q (omega arith))
