-- Refusal 16 in the check's answer: its place.
use Prim.Native.Nat.{ℕ, ◌<◌}
use mathlib.Core.Path.{◌≡◌, sym, ◌∙◌}
use mathlib.Core.Bool.{false, false≢true}
use mathlib.Core.List.{List}
use native.Mathlib.Omega.{arith}
use Rattle.refusal.specs.Answer.{refused_at}
use Rattle.arity.specs.Table.{kind_at, first_at, second_at, tree}
use Rattle.arity.specs.Check.{feeds_back, narrow, refusal_at, first_refused, first_loose}
use Rattle.arity.specs.Formed.{Children}
use Rattle.arity.specs.Feedback.{EmptyFeedback, RefusedFeedback}
use Rattle.arity.proofs.Tests.{passed, known-false}
use Rattle.arity.proofs.Feedback.{feedback-other, empty_right}
use Rattle.arity.proofs.Taken.{children_of}
use Rattle.arity.proofs.Trees.{View}
use Rattle.arity.proofs.Trees.View.{alone, two, one}
use Rattle.arity.proofs.Right.{past, view_at}
use Rattle.arity.proofs.Fitting.{arities, fitting}
use Rattle.arity.proofs.Walk.{first_passed, Verdict, verdict, never}
use Rattle.arity.proofs.Walk.Verdict.{miscounted, wrong_node, loose-node}

-- a node with row 16, and none before it
module _ (t : List ℕ) (i : ℕ) (e : refusal_at t i ≡ 16) (before : (j : ℕ) → j < i → refusal_at t j ≡ 0) where
  not_fed : feeds_back t i ≡ false
  not_fed =
      known-false (feeds_back t i)
      (λ f. omega (arith, (passed (narrow (tree t i)) 8 0 16 (rw f at (past t i 16 e (λ l m. omega arith)).rest) (λ z. omega arith)).1))

  empty-feedback : EmptyFeedback t i
  unfolding feeds_back
  empty-feedback = go (view_at t i before kids)
    where
      kids : Children t i
      kids = children_of t i (past t i 16 e (λ l m. omega arith)).children

      go : View t i → EmptyFeedback t i
      go (alone a v) = absurd (false≢true (sym not_fed ∙ feedback-other (kind_at t i) (tree t (second_at t i)) (λ k. omega arith)))
      go (two a b v) =
          let (k, z) = empty_right (kind_at t i) (tree t (second_at t i)) (arities t i before _ (kids.second a b).lower) not_fed in
          record { left = tree t (first_at t i); right = tree t (second_at t i); recursive = rw k at v; empty = z; first = λ q h. fitting t i before q (omega arith) }
      go (one a v) = absurd (false≢true (sym not_fed ∙ feedback-other (kind_at t i) (tree t (second_at t i)) (λ k. omega arith)))

-- its place is the first refused node
pub refused-feedback : (t : List ℕ) → RefusedFeedback t
refused-feedback t p e = go (verdict t)
  where
    go : Verdict t → EmptyFeedback t p
    go (miscounted i f) = let g : refused_at 3 i ≡ refused_at 16 p = sym f ∙ e in let z : ◌≡◌ {A = ℕ} 3 16 = cc g in absurd (omega arith)
    go (wrong_node f) =
        let g : refused_at (refusal_at t (first_refused t)) (first_refused t) ≡ refused_at 16 p = sym f ∙ e in
        let q : first_refused t ≡ p = cc g in
        rw (sym q) (empty-feedback t (first_refused t) (cc g) (first_passed t))
    go (loose-node h f) = let g : refused_at 9 (first_loose t) ≡ refused_at 16 p = sym f ∙ e in let z : ◌≡◌ {A = ℕ} 9 16 = cc g in absurd (omega arith)
    go (Verdict.passed x f) = absurd (never _ _ _ (sym e ∙ f))
