-- The joined table: it is accepted exactly where its last node is not refused, its refusal otherwise is that node's, and its circuit is the composition.
use Prim.Native.Nat.{ℕ, ◌+◌, ◌-◌, ◌*◌, ◌≤◌, ◌<◌}
use mathlib.Core.Path.{◌≡◌, refl, sym, ap, ◌∙◌}
use mathlib.Core.Bool.{Bool, true, false, not, ◌&&◌}
use mathlib.Core.List.{List}
use native.Mathlib.Omega.{arith}
use native.Mathlib.Decide.{dec_le, ℕ_discrete}
use lib.ListN.{length}
use lib.Dec.{leb, eqb}
use borrow.Author.Tests.{leb-true, le-leb, lt-leb, eq-eqb, ne_eqb}
use Rattle.word.specs.Choice.{pick}
use Rattle.refusal.specs.Answer.{refused_at}
use Rattle.arity.specs.Tree.{ins, outs}
use Rattle.arity.specs.Table.{kind_at, first_at, second_at, nodes, tree, circuit}
use Rattle.arity.specs.Check.{known_kind, first_in_range, second_in_range, two_children, children_free, rule, rule_fits, feedback, feeds_back, narrow, refusal_at, report, checked, IsAccepted}
use Rattle.arity.specs.Formed.{Begun, Attached}
use Rattle.arity.proofs.Taken.{of_children}
use Rattle.arity.proofs.Acceptance.{last_decides}
use Rattle.drawing.specs.Drawing.{drawing, Alike}
use Rattle.drawing.specs.Numbering.{joined}
use Rattle.drawing.specs.Joined.{composed, join_refusal, join_answer}
use Rattle.drawing.specs.Laws.{Joinable, JoinedAnswer, JoinedAccepted, JoinedDraws, JoinedMeaning}
use Rattle.drawing.proofs.Same.{unnumbered}
use Rattle.drawing.proofs.Placed.{Rows}
use Rattle.drawing.proofs.Closed.{closed-length, closed-nodes, last-kind, last-first, last-second, two-children, not-two}
use Rattle.drawing.proofs.Closing.{Closes, inner_kinds, inner_fields, inner_children, inner_fitted, closed-rows, closed-fitted, draws-join, first_alike, second_alike}
use Rattle.drawing.proofs.Accepted.{formed, fitting, rows, answer, accepted-rows}
use Rattle.drawing.proofs.Renumbered.{closes_two}

-- tests
and-false : (a : Bool) → (a && false) ≡ false
and-false true = refl
and-false false = refl

pub two-kinds : (k : ℕ) → two_children k ≡ true → (7 ≤ k) × (k ≤ 11)
two-kinds k e = go (leb 7 k) refl (leb k 11) refl e
  where
    go : (a : Bool) → leb 7 k ≡ a → (b : Bool) → leb k 11 ≡ b → (a && b) ≡ true → (7 ≤ k) × (k ≤ 11)
    go true p true q f = (leb-true 7 k p, leb-true k 11 q)
    go true p false q f = absurd (let z : ◌≡◌ {A = ℕ} 0 1 = cc f in omega arith)
    go false p b q f = absurd (let z : ◌≡◌ {A = ℕ} 0 1 = cc f in omega arith)

passed : (b : Bool) (r x : ℕ) → pick (not b) r x ≡ 0 → (r ≡ 0 → ⊥) → (b ≡ true) × (x ≡ 0)
passed true r x e n = (refl, e)
passed false r x e n = absurd (n e)

high_first : (k f : ℕ) → 7 ≤ k → first_in_range k f ≡ true
high_first k f l =
    rw (
      ne_eqb k 2 (λ e. omega arith),
      ne_eqb k 3 (λ e. omega arith),
      ne_eqb k 4 (λ e. omega arith),
      ne_eqb k 5 (λ e. omega arith),
      ne_eqb k 6 (λ e. omega arith),
    )

module _ (k : ℕ) (t u : List ℕ) (j : Joinable t u) where
  few : nodes t + nodes u < 512
  few = j.few

  some : (1 ≤ nodes t) × (1 ≤ nodes u)
  some = ((formed t j.first).least, (formed u j.second).least)

  left-rows : Rows t
  left-rows = rows t j.first

  right-rows : Rows u
  right-rows = rows u j.second

  pub joined_length : length (joined k t u) ≡ 3 * (nodes t + nodes u) + 3
  joined_length = closed-length t u k (nodes t - 1) (nodes t + nodes u - 1) left-rows right-rows

  many : nodes (joined k t u) ≡ nodes t + nodes u + 1
  many = closed-nodes t u k (nodes t - 1) (nodes t + nodes u - 1) left-rows right-rows

  kind : kind_at (joined k t u) (nodes t + nodes u) ≡ k
  kind = last-kind t u k (nodes t - 1) (nodes t + nodes u - 1) left-rows right-rows

  first : first_at (joined k t u) (nodes t + nodes u) ≡ nodes t - 1
  first = last-first t u k (nodes t - 1) (nodes t + nodes u - 1) left-rows right-rows

  second : second_at (joined k t u) (nodes t + nodes u) ≡ nodes t + nodes u - 1
  second = last-second t u k (nodes t - 1) (nodes t + nodes u - 1) left-rows right-rows

  -- the nodes below the joining one are of the stated form, and fit
  begun : Begun (joined k t u) (nodes t + nodes u)
  begun = record {
    kinds = inner_kinds t u _ _ _ left-rows right-rows;
    fields = inner_fields t u _ _ _ left-rows right-rows;
    children = inner_children t u _ _ _ left-rows right-rows;
    fitting = inner_fitted t u _ _ _ left-rows right-rows (fitting t j.first) (fitting u j.second);
  }

  left : Alike (tree (joined k t u) (nodes t - 1)) (circuit t)
  left = first_alike t u _ _ _ left-rows right-rows (nodes t - 1) (omega (arith, some.0))

  right : Alike (tree (joined k t u) (nodes t + nodes u - 1)) (circuit u)
  right =
      let z : nodes t + nodes u - 1 ≡ nodes t + (nodes u - 1) = omega (arith, some.1) in
      ap (λ (i : ℕ). drawing (tree (joined k t u) i)) z ∙ second_alike t u _ _ _ left-rows right-rows (nodes u - 1) (omega (arith, some.1))

  -- the joining node of a kind from 7 to 11
  module _ (l : 7 ≤ k) (m : k ≤ 11) where
    closes : Closes (nodes t) (nodes u) k (nodes t - 1) (nodes t + nodes u - 1)
    closes = closes_two k (nodes t) (nodes u) l m some.0 some.1

    joined-rows : Rows (joined k t u)
    joined-rows = closed-rows t u _ _ _ left-rows right-rows closes

    draws : Alike (circuit (joined k t u)) (composed k (circuit t) (circuit u))
    draws = draws-join t u _ _ _ left-rows right-rows closes l m

    at_joint : Alike (tree (joined k t u) (nodes t + nodes u)) (composed k (circuit t) (circuit u))
    at_joint =
        let z : nodes t + nodes u ≡ nodes (joined k t u) - 1 = omega (arith, many) in
        ap (λ (i : ℕ). drawing (tree (joined k t u) i)) z ∙ draws

  -- it is refused by this row
  refusal_there : refusal_at (joined k t u) (nodes t + nodes u) ≡ join_refusal k (circuit t) (circuit u)
  unfolding refusal_at rule_fits feeds_back join_refusal
  refusal_there = go (dec_le 1 k) (dec_le k 12) (dec_le 7 k) (dec_le k 11)
    where
      opened : refusal_at (joined k t u) (nodes t + nodes u)
          ≡ pick (not (known_kind k)) 4
          (pick (not (first_in_range k (nodes t - 1) && second_in_range k (nodes t + nodes u - 1))) 5
          (pick (not (children_free (joined k t u) (nodes t + nodes u))) 6
          (pick (not (rule k (ins (tree (joined k t u) (nodes t - 1))) (outs (tree (joined k t u) (nodes t - 1)))
          (ins (tree (joined k t u) (nodes t + nodes u - 1))) (outs (tree (joined k t u) (nodes t + nodes u - 1))))) 7
          (pick (not (feedback k (ins (tree (joined k t u) (nodes t + nodes u - 1))) (outs (tree (joined k t u) (nodes t + nodes u - 1))))) 16
          (pick (not (narrow (tree (joined k t u) (nodes t + nodes u)))) 8 0)))))
      opened = rw (kind, first, second)

      other : known_kind k ≡ true → (7 ≤ k → k ≤ 11 → ⊥) → refusal_at (joined k t u) (nodes t + nodes u) ≡ join_refusal k (circuit t) (circuit u)
      other e n =
          let z : nodes t + nodes u - 1 ≡ 0 → ⊥ = λ q. omega (arith, some.0, some.1) in
          opened ∙ rw (e, not-two k n, ne_eqb (nodes t + nodes u - 1) 0 z, and-false (first_in_range k (nodes t - 1)))

      go : Dec (1 ≤ k) → Dec (k ≤ 12) → Dec (7 ≤ k) → Dec (k ≤ 11) → refusal_at (joined k t u) (nodes t + nodes u) ≡ join_refusal k (circuit t) (circuit u)
      go (no a) b c d = opened ∙ rw (lt-leb 1 k (omega arith))
      go (yes a) (no b) c d = opened ∙ rw (le-leb 1 k a, lt-leb k 12 (omega arith))
      go (yes a) (yes b) (yes c) (yes d) =
          let v = unnumbered _ _ left in
          let w = unnumbered _ _ right in
          let x = unnumbered _ _ (at_joint c d) in
          opened
          ∙ rw (
            le-leb 1 k a,
            le-leb k 12 b,
            two-children k c d,
            high_first k (nodes t - 1) c,
            of_children (joined k t u) (nodes t + nodes u) ((joined-rows c d).children (nodes t + nodes u) (omega (arith, many))),
            v.inputs,
            v.outputs,
            w.inputs,
            w.outputs,
            x.inputs,
            x.outputs,
          )
      go (yes a) (yes b) (yes c) (no d) = other (rw (le-leb 1 k a, le-leb k 12 b)) (λ p q. d q)
      go (yes a) (yes b) (no c) d = other (rw (le-leb 1 k a, le-leb k 12 b)) (λ p q. c p)

  -- where it is not, its kind is one of a composition
  composes : join_refusal k (circuit t) (circuit u) ≡ 0 → (7 ≤ k) × (k ≤ 11)
  unfolding join_refusal
  composes e =
      let a = passed (known_kind k) 4 _ e (λ q. omega arith) in
      let b = passed (two_children k) 5 _ a.1 (λ q. omega arith) in
      two-kinds k b.0

  attached : refusal_at (joined k t u) (nodes t + nodes u) ≡ 0 → Attached (joined k t u)
  attached z = let c = composes (sym refusal_there ∙ z) in (joined-rows c.0 c.1).attached

  decided : checked (joined k t u) ≡ pick (eqb (refusal_at (joined k t u) (nodes t + nodes u)) 0) (report (joined k t u)) (refused_at (refusal_at (joined k t u) (nodes t + nodes u)) (nodes t + nodes u))
  decided = last_decides (joined k t u) (nodes t + nodes u) (omega (arith, joined_length)) few begun attached

  -- an accepted one joins by a composition
  of_two : IsAccepted (joined k t u) → (7 ≤ k) × (k ≤ 11)
  of_two a = go (dec_le 7 k) (dec_le k 11)
    where
      not-zero : second_at (joined k t u) (nodes t + nodes u) ≡ 0 → ⊥
      not-zero e = omega (arith, second, some.0, some.1)

      single : ((7 ≤ k) → (k ≤ 11) → ⊥) → ⊥
      single n =
          not-zero (((formed (joined k t u) a).fields (nodes t + nodes u) (omega (arith, many))).unused (λ l m. n (omega (arith, kind)) (omega (arith, kind))))

      go : Dec (7 ≤ k) → Dec (k ≤ 11) → (7 ≤ k) × (k ≤ 11)
      go (yes l) (yes m) = (l, m)
      go (yes l) (no m) = absurd (single (λ p q. m q))
      go (no l) m = absurd (single (λ p q. l p))

pub joined-draws : JoinedDraws
joined-draws k t u j a = let c = of_two k t u j a in draws k t u j c.0 c.1

pub joined-answer : JoinedAnswer
unfolding join_answer
joined-answer k t u j = go (ℕ_discrete (join_refusal k (circuit t) (circuit u)) 0)
  where
    told : checked (joined k t u) ≡ pick (eqb (join_refusal k (circuit t) (circuit u)) 0) (report (joined k t u)) (refused_at (join_refusal k (circuit t) (circuit u)) (nodes t + nodes u))
    told = decided k t u j ∙ rw (refusal_there k t u j)

    go : Dec (join_refusal k (circuit t) (circuit u) ≡ 0) → checked (joined k t u) ≡ join_answer k t u
    go (yes e) =
        let c : checked (joined k t u) ≡ report (joined k t u) = told ∙ rw (eq-eqb _ 0 e) in
        let a : IsAccepted (joined k t u) = (_, c) in
        let s = unnumbered _ _ (joined-draws k t u j a) in
        answer (joined k t u) a ∙ rw (s.inputs, s.outputs, s.instructions, s.cells, eq-eqb _ 0 e)
    go (no n) = told ∙ rw (ne_eqb _ 0 n)

pub joined-accepted : JoinedAccepted
joined-accepted k t u j = (
  λ a.
      let c = of_two k t u j a in
      (two-children k c.0 c.1, (unnumbered _ _ (at_joint k t u j c.0 c.1)).fitted (fitting (joined k t u) a (nodes t + nodes u) (omega (arith, many k t u j)))),
  λ (e, f).
      let c = two-kinds k e in
      let d = draws k t u j c.0 c.1 in
      accepted-rows (joined k t u) (joined-rows k t u j c.0 c.1) (omega (arith, many k t u j)) (omega (arith, many k t u j, few k t u j))
      (closed-fitted t u _ _ _ (left-rows k t u j) (right-rows k t u j) (closes k t u j c.0 c.1) (fitting t j.first) (fitting u j.second) ((unnumbered _ _ (sym d)).fitted f)),
)

pub joined-meaning : JoinedMeaning
joined-meaning k t u j a = (unnumbered _ _ (joined-draws k t u j a)).meaning
