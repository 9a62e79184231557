-- The survey's beginning and its ends: the answer, and the rows that are left.
use Prim.Native.Nat.{ℕ, suc, ◌-◌, ◌%◌, ◌≤◌, ◌<◌}
use mathlib.Core.Path.{◌≡◌, refl, sym, ap, ◌∙◌}
use mathlib.Core.Logic.{◌⊎◌}
use mathlib.Core.Bool.{Bool, false, not}
use mathlib.Core.List.{List}
use native.Mathlib.Omega.{arith}
use native.Mathlib.Decide.{dec_lt}
use lib.ListN.{length, get_or, take, replicate, length-replicate, get_or-replicate}
use borrow.Author.Tests.{lt-ltb, le-ltb}
use Rattle.std.proofs.lemmas.List.{get_or-take, length-take-le}
use Rattle.std.proofs.lemmas.List.Quantifiers.{position-Some}
use Rattle.std.specs.Prelude.{Result, Ok, Err, Some, position}
use Rattle.refusal.specs.Answer.{refusal_of}
use Rattle.refusal.specs.declared.Refusal.{Refusal}
use Rattle.refusal.specs.declared.Refusal.TheVariants.{WrongNodeCount, LooseNode}
use Rattle.arity.specs.Table.{nodes}
use Rattle.arity.specs.Nodes.{sum_to}
use Rattle.arity.specs.Check.{taken, refusal_at, first_cell, loose, first_loose, checked, answer_of}
use Rattle.arity.specs.Survey.{row_of, row_at, put_row, filled, surveyed}
use Rattle.arity.specs.Steps.{State, Refuses}
use Rattle.arity.specs.declared.counts.Counts.{Counts}
use Rattle.arity.specs.declared.rows.Row.{Row}
use Rattle.arity.proofs.Lowest.{lowest-is, position-none}
use Rattle.arity.proofs.Loose.{none-loose}
use Rattle.arity.proofs.Walk.{passed_to, even, not_even, unevenly, too_many, stops, passes}

-- before the first node
none-taken : (t : List ℕ) (c : ℕ) → taken t 0 c ≡ false
unfolding taken
none-taken t c = refl

pub no_cells : (t : List ℕ) → 0 ≡ first_cell t 0
unfolding sum_to
no_cells t = refl

pub start_state : (t s : List ℕ) (m : List Bool) → nodes t ≤ 512 → length s ≡ 2048 → m ≡ replicate 512 false → State t s m 0
start_state t s m a b e =
    record {
      most = a;
      room = b;
      long = ap length e ∙ length-replicate {A = Bool} 512 false;
      right = λ j h. absurd (omega arith);
      rows = λ j h. absurd (omega arith);
      marked = λ c h. ap (λ (l : List Bool). get_or l c false) e ∙ get_or-replicate {A = Bool} 512 c false false h ∙ sym (none-taken t c);
    }

-- the rows that were written
pub filled_none : (t s : List ℕ) → s ≡ filled t 0 s
unfolding filled
filled_none t s = refl

pub filled_more : (t s₀ s s' : List ℕ) (i : ℕ) → s ≡ filled t i s₀ → s' ≡ put_row s i (row_of t i) → s' ≡ filled t (suc i) s₀
unfolding filled
filled_more t s₀ s s' i e f = f ∙ ap (λ (l : List ℕ). put_row l i (row_of t i)) e

-- the rows of a table whose nodes all pass
pub surveyed-all : (t s : List ℕ) → (length t ≡ 0 → ⊥) → length t % 3 ≡ 0 → nodes t ≤ 512 → ((j : ℕ) → j < nodes t → refusal_at t j ≡ 0)
    → surveyed t s ≡ filled t (nodes t) s
unfolding surveyed
surveyed-all t s some thirds most f =
    rw (even t some thirds, le-ltb 512 (nodes t) most, passed_to t (nodes t) (omega arith) f (λ l. absurd (omega arith)))

-- the answer r to the table t, with the rows s' left of s
pub record Done (t s : List ℕ) (r : Result Counts Refusal) (s' : List ℕ) : Type 0 where
  pub answer : answer_of r ≡ checked t
  pub rows : s' ≡ surveyed t s

-- refusal 3
pub ends_uneven : (t s : List ℕ) → (length t ≡ 0) ⊎ (length t % 3 ≡ 0 → ⊥) → Done t s (Err (WrongNodeCount 0)) s
unfolding surveyed
ends_uneven t s e = record { answer = sym (unevenly t (not_even t e)); rows = rw (not_even t e) (filled_none t s) }

module _ {t : List ℕ} (some : length t ≡ 0 → ⊥) (thirds : length t % 3 ≡ 0) where
  pub ends_long : (s : List ℕ) → 512 < nodes t → Done t s (Err (WrongNodeCount 512)) s
  unfolding surveyed
  ends_long s h =
      record {
        answer = sym (too_many t (even t some thirds) h);
        rows = rw (even t some thirds, lt-ltb 512 (nodes t) h) (filled_none t s);
      }

  module _ (s₀ : List ℕ) {s : List ℕ} {m : List Bool} {i : ℕ} (w : State t s m i) (f : s ≡ filled t i s₀) where
    -- where i nodes passed
    rows_at : i ≤ nodes t → (i < nodes t → refusal_at t i ≡ 0 → ⊥) → s ≡ surveyed t s₀
    unfolding surveyed
    rows_at h g = rw (even t some thirds, le-ltb 512 (nodes t) w.most, passed_to t i h w.right g) f

    -- at a node that is refused
    pub ends_refused : {r : Refusal} {s' : List ℕ} → i < nodes t → Refuses t i (refusal_of r) → s' ≡ s → Done t s₀ (Err r) s'
    ends_refused h (e, g) q =
        record {
          answer = e ∙ sym (stops t (even t some thirds) w.most i h w.right g);
          rows = q ∙ rows_at (omega arith) (λ l. g);
        }

    -- after the last node
    module _ (last : i ≡ nodes t) where
      whole : State t s m (nodes t)
      whole = rw last at w

      rows_all : s ≡ surveyed t s₀
      rows_all = rows_at (omega arith) (λ h. absurd (omega arith))

      -- the marks of the nodes but the last
      abbrev others : List Bool
      others = take (nodes t - 1) m

      long : length others ≡ nodes t - 1
      long = length-take-le (nodes t - 1) m (omega (arith, whole.most, whole.long))

      -- they tell which are loose
      marked-loose : (q : ℕ) → q < length others → not (get_or others q false) ≡ loose t q
      marked-loose q h =
          rw (get_or-take (nodes t - 1) m q false (omega (arith, long)), whole.marked q (omega (arith, long, whole.most)), lt-ltb (suc q) (nodes t) (omega (arith, long)))

      found : {p : ℕ} → position not others ≡ Some p → (p < nodes t) × (first_loose t ≡ p)
      found {p} e =
          let (h, f, g) = position-Some not others p false e in
          (omega (arith, long), lowest-is (loose t) (nodes t) 0 p (omega arith) (omega (arith, long)) (λ q a b. sym (marked-loose q (omega arith)) ∙ g q b) (λ l. sym (marked-loose p h) ∙ f))

      none : ((p : ℕ) → position not others ≡ Some p → ⊥) → first_loose t ≡ nodes t
      none e = none-loose t (λ q. at q (dec_lt q (length others)))
        where
          at : (q : ℕ) → Dec (q < length others) → loose t q ≡ false
          at q (yes h) = sym (marked-loose q h) ∙ position-none not others e q h
          at q (no h) = rw (le-ltb (suc q) (nodes t) (omega (arith, long)))

      pub ends_loose : {p : ℕ} → position not others ≡ Some p → Done t s₀ (Err (LooseNode p)) s
      ends_loose {p} e =
          let (h, f) = found e in
          record {
            answer = rw (← f) (sym (passes t (even t some thirds) whole.most whole.right ∙ rw (lt-ltb (first_loose t) (nodes t) (omega (arith, f)))));
            rows = rows_all;
          }

      pub ends_accepted : ((p : ℕ) → position not others ≡ Some p → ⊥) → {c : ℕ} → c ≡ first_cell t i → {r : Row} → r ≡ row_at s (nodes t - 1)
          → Done t s₀ (Ok (record { inputs = r.inputs; outputs = r.outputs; instructions = r.instructions; cells = c })) s
      ends_accepted e {c} ec {r} er =
          let z : r ≡ row_of t (nodes t - 1) = er ∙ whole.rows (nodes t - 1) (omega arith) in
          record {
            answer = rw (z, ec, last) (sym (passes t (even t some thirds) whole.most whole.right ∙ rw (le-ltb (first_loose t) (nodes t) (omega (arith, none e)))));
            rows = rows_all;
          }
