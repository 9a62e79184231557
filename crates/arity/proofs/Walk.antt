-- The check from node to node: where it stops, where it passes, and what is known of a table that it accepts.
use Prim.Native.Nat.{ℕ, ◌*◌, ◌%◌, ◌≤◌, ◌<◌}
use mathlib.Core.Path.{◌≡◌, sym, ◌∙◌}
use mathlib.Core.Logic.{◌⊎◌, inl, inr}
use mathlib.Core.Bool.{true, false}
use mathlib.Core.List.{List}
use native.Mathlib.Omega.{arith}
use native.Mathlib.Decide.{dec_lt, ℕ_discrete}
use lib.ListN.{length}
use lib.Dec.{ltb}
use borrow.Author.Tests.{le-ltb, lt-ltb, ltb-false, eq-eqb, ne_eqb}
use Rattle.word.specs.Choice.{pick}
use Rattle.refusal.specs.Answer.{Answer, refused_at}
use Rattle.refusal.specs.Answer.Answer.{counts}
use Rattle.arity.specs.Table.{nodes}
use Rattle.arity.specs.Check.{refusal_at, is_refused, first_refused, report, loose, first_loose, uneven, checked}
use Rattle.arity.proofs.Lowest.{lowest-least, lowest-is}
use Rattle.arity.proofs.Loose.{tight}

-- i nodes pass, and then one is refused or none is left
pub passed_to : (t : List ℕ) (i : ℕ) → i ≤ nodes t → ((j : ℕ) → j < i → refusal_at t j ≡ 0) → (i < nodes t → refusal_at t i ≡ 0 → ⊥) → first_refused t ≡ i
passed_to t i h f g =
    lowest-is (is_refused t) (nodes t) 0 i (omega arith) (omega arith) (λ j a b. le-ltb 0 (refusal_at t j) (omega (arith, f j b)))
    (λ l. lt-ltb 0 (refusal_at t i) (omega (arith, g (omega arith))))

-- no node before the first refused one is
pub first_passed : (t : List ℕ) (i : ℕ) → i < first_refused t → refusal_at t i ≡ 0
first_passed t i h = omega (arith, ltb-false 0 (refusal_at t i) (lowest-least (is_refused t) (nodes t) 0 i (omega arith) h))

-- refusal 3
pub even : (t : List ℕ) → (length t ≡ 0 → ⊥) → length t % 3 ≡ 0 → uneven t ≡ false
even t some thirds = rw (ne_eqb (length t) 0 some, eq-eqb (length t % 3) 0 thirds)

pub not_even : (t : List ℕ) → (length t ≡ 0) ⊎ (length t % 3 ≡ 0 → ⊥) → uneven t ≡ true
not_even t (inl e) = rw (eq-eqb (length t) 0 e)
not_even t (inr n) = go (ℕ_discrete (length t) 0)
  where
    go : Dec (length t ≡ 0) → uneven t ≡ true
    go (yes e) = rw (eq-eqb (length t) 0 e)
    go (no e) = rw (ne_eqb (length t) 0 e, ne_eqb (length t % 3) 0 n)

pub unevenly : (t : List ℕ) → uneven t ≡ true → checked t ≡ refused_at 3 0
unfolding checked
unevenly t e = rw e

pub too_many : (t : List ℕ) → uneven t ≡ false → 512 < nodes t → checked t ≡ refused_at 3 512
unfolding checked
too_many t e h = rw (e, lt-ltb 512 (nodes t) h)

-- the nodes, and what comes after the last
module _ (t : List ℕ) (e : uneven t ≡ false) (most : nodes t ≤ 512) where
  abbrev after : Answer
  after = pick (ltb (first_loose t) (nodes t)) (refused_at 9 (first_loose t)) (report t)

  walked : checked t ≡ pick (ltb (first_refused t) (nodes t)) (refused_at (refusal_at t (first_refused t)) (first_refused t)) after
  unfolding checked
  walked = rw (e, le-ltb 512 (nodes t) most)

  pub stops : (i : ℕ) → i < nodes t → ((j : ℕ) → j < i → refusal_at t j ≡ 0) → (refusal_at t i ≡ 0 → ⊥) → checked t ≡ refused_at (refusal_at t i) i
  stops i h f g = walked ∙ rw (passed_to t i (omega arith) f (λ l. g), lt-ltb i (nodes t) h)

  pub passes : ((j : ℕ) → j < nodes t → refusal_at t j ≡ 0) → checked t ≡ after
  passes f = walked ∙ rw (passed_to t (nodes t) (omega arith) f (λ l. absurd (omega arith)), le-ltb (nodes t) (nodes t) (omega arith))

-- a table that passes
pub record Passed (t : List ℕ) : Type 0 where
  pub whole : 3 * nodes t ≡ length t
  pub least : 1 ≤ nodes t
  pub most : nodes t ≤ 512
  pub right : (i : ℕ) → i < nodes t → refusal_at t i ≡ 0
  pub tight : (q : ℕ) → loose t q ≡ false

-- what the check answers, case by case
pub data Verdict (t : List ℕ) : Type 0 where
  miscounted : (p : ℕ) → checked t ≡ refused_at 3 p → Verdict t
  wrong_node : checked t ≡ refused_at (refusal_at t (first_refused t)) (first_refused t) → Verdict t
  loose-node : first_loose t < nodes t → checked t ≡ refused_at 9 (first_loose t) → Verdict t
  passed : Passed t → checked t ≡ report t → Verdict t

pub verdict : (t : List ℕ) → Verdict t
verdict t = start (ℕ_discrete (length t) 0) (ℕ_discrete (length t % 3) 0) (dec_lt 512 (nodes t))
  where
    node_by_node : (length t ≡ 0 → ⊥) → length t % 3 ≡ 0 → nodes t ≤ 512 → Dec (first_refused t < nodes t) → Dec (first_loose t < nodes t) → Verdict t
    node_by_node z y x (yes w) v = wrong_node (walked t (even t z y) x ∙ rw (lt-ltb (first_refused t) (nodes t) w))
    node_by_node z y x (no w) (yes v) =
        loose-node v (walked t (even t z y) x ∙ rw (le-ltb (first_refused t) (nodes t) (omega arith), lt-ltb (first_loose t) (nodes t) v))
    node_by_node z y x (no w) (no v) =
        passed
        (record {
          whole = omega arith;
          least = omega arith;
          most = x;
          right = λ i h. first_passed t i (omega arith);
          tight = tight t (omega arith);
        })
        (walked t (even t z y) x ∙ rw (le-ltb (first_refused t) (nodes t) (omega arith), le-ltb (first_loose t) (nodes t) (omega arith)))

    start : Dec (length t ≡ 0) → Dec (length t % 3 ≡ 0) → Dec (512 < nodes t) → Verdict t
    start (yes z) y x = miscounted 0 (unevenly t (not_even t (inl z)))
    start (no z) (no y) x = miscounted 0 (unevenly t (not_even t (inr y)))
    start (no z) (yes y) (yes x) = miscounted 512 (too_many t (even t z y) x)
    start (no z) (yes y) (no x) = node_by_node z y (omega arith) (dec_lt (first_refused t) (nodes t)) (dec_lt (first_loose t) (nodes t))

-- accepted is never refused
pub never : (xs : List ℕ) (r p : ℕ) → refused_at r p ≡ counts xs → ⊥
never xs r p e = let z : ◌≡◌ {A = ℕ} 0 1 = cc in omega arith

pub has_passed : (t xs : List ℕ) → checked t ≡ counts xs → Passed t × (report t ≡ counts xs)
has_passed t xs e = go (verdict t)
  where
    go : Verdict t → Passed t × (report t ≡ counts xs)
    go (miscounted p f) = absurd (never _ _ _ (sym f ∙ e))
    go (wrong_node f) = absurd (never _ _ _ (sym f ∙ e))
    go (loose-node h f) = absurd (never _ _ _ (sym f ∙ e))
    go (passed x f) = (x, sym f ∙ e)
