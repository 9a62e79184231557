-- A list in two parts, and two blocks that hold the cells of the same past: a list of calls is worked alike on both.
use Prim.Native.Nat.{ℕ, ◌+◌}
use mathlib.Core.Path.{◌≡◌, refl, sym, ap, ap₂, ◌∙◌}
use mathlib.Core.List.{List, [], ◌∷◌, ◌++◌, map, map-append, reverse_aux, reverse_aux-append, flatten}
use native.Mathlib.Omega.{arith}
use lib.ListN.{take, drop}
use lib.Seq.{length-take-le}
use Rattle.word.specs.Tick.{Tick, Each}
use Rattle.word.proofs.Lists.{flatten_append}
use Rattle.refusal.specs.Answer.{Answer}
use Rattle.cells.specs.Block.{without_report}
use Rattle.cells.proofs.Calls.{unreported}
use Rattle.arity.specs.Tree.{Tree, ins}
use Rattle.arity.specs.Nodes.{Complete, cells_before}
use Rattle.arity.specs.WellFormed.{WellFormed}
use Rattle.signal.specs.Signal.{History}
use Rattle.calls.specs.Calls as calls
use Rattle.calls.specs.Calls.{Element, Event, Program, block_after, call_of, events, left, written, reported, added_by, written_by, ticks_added, OthersRefused, result_of}
use Rattle.calls.specs.Calls.Element.{own, other}
use Rattle.calls.specs.Law.{Answered, Lawful, history, IsProgramOf, HoldsPast}
use Rattle.calls.proofs.Law.{law, holds_around}
use Rattle.calls.proofs.Throughout.{events_append}

-- a list in two parts
module _ (work : Program) (at : ℕ) where
  pub left_append : (block : List ℕ) (xs ys : List Element) → left work at block (xs ++ ys) ≡ left work at (left work at block xs) ys
  unfolding left
  left_append block [] ys = refl
  left_append block (x ∷ xs) ys = left_append (block_after (call_of work at x) block) xs ys

  pub written_append : (block : List ℕ) (xs ys : List Element) → written work at block (xs ++ ys) ≡ written work at block xs ++ written work at (left work at block xs) ys
  unfolding written events flatten
  written_append block xs ys =
      ap (λ (es : List Event). flatten (map written_by es)) (events_append work at block xs ys)
      ∙ ap (λ (ls : List (List ℕ)). flatten ls) (map-append written_by (events work at block xs) _)
      ∙ flatten_append (map written_by (events work at block xs)) _

  pub reported_append : (block : List ℕ) (xs ys : List Element) → reported work at block (xs ++ ys) ≡ reported work at block xs + reported work at (left work at block xs) ys
  unfolding reported left
  reported_append block [] ys = omega arith
  reported_append block (x ∷ xs) ys =
      let e = reported_append (block_after (call_of work at x) block) xs ys in
      omega arith

  pub history_append : (m : ℕ) (past : History) (block : List ℕ) (xs ys : List Element)
      → calls.history work at m past block (xs ++ ys) ≡ calls.history work at m (calls.history work at m past block xs) (left work at block xs) ys
  unfolding calls.history events flatten
  history_append m past block xs ys =
      let new : List Tick = flatten (map (added_by m) (events work at (left work at block xs) ys)) in
      ap (λ (es : List Event). reverse_aux (flatten (map (added_by m) es)) past) (events_append work at block xs ys)
      ∙ ap (λ (ls : List (List Tick)). reverse_aux (flatten ls) past) (map-append (added_by m) (events work at block xs) _)
      ∙ ap (λ (fs : List Tick). reverse_aux fs past) (flatten_append (map (added_by m) (events work at block xs)) _)
      ∙ reverse_aux-append (flatten (map (added_by m) (events work at block xs))) new past

module _ (n : ℕ) (t : Tree) (w : WellFormed t) (c : Complete n t) (work : Program) (same : IsProgramOf n t work) (at : ℕ) where
  -- which ticks a call adds is the answer's to say, and that the arguments decide
  added_alike : (x : Element) (y z : Answer) → Answered n t work at x y → Answered n t work at x z → ticks_added (ins t) x y ≡ ticks_added (ins t) x z
  added_alike (own a) y z p q = go y ∙ ap (ticks_added (ins t) (own a)) (p ∙ sym q) ∙ sym (go z)
    where
      go : (y : Answer) → ticks_added (ins t) (own a) y ≡ ticks_added (ins t) (own a) (without_report y)
      go y = unreported (ticks_added (ins t) (own a)) (λ ks. refl) y
  added_alike (other d) y z p q = refl

  all_added_alike : (b₁ b₂ : List ℕ) (list : List Element)
      → Each (λ e. Answered n t work at e.element e.result.answer) (events work at b₁ list)
      → Each (λ e. Answered n t work at e.element e.result.answer) (events work at b₂ list)
      → map (added_by (ins t)) (events work at b₁ list) ≡ map (added_by (ins t)) (events work at b₂ list)
  unfolding events
  all_added_alike b₁ b₂ [] p q = refl
  all_added_alike b₁ b₂ (x ∷ xs) (p, ps) (q, qs) =
      ap₂ {C = List (List Tick)} (λ f fs. f ∷ fs)
      (added_alike x (result_of (call_of work at x) b₁).answer (result_of (call_of work at x) b₂).answer p q)
      (all_added_alike (block_after (call_of work at x) b₁) (block_after (call_of work at x) b₂) xs ps qs)

  -- a list leaves the cells of its history
  pub left-holds : (past : History) (block : List ℕ) → HoldsPast n t at past block → (list : List Element) → OthersRefused work at block list
      → HoldsPast n t at (history n t work at past block list) (left work at block list)
  left-holds past block held list o =
      rw (law n t w c work same at past block held list o).cells
      (holds_around n t w c at (history n t work at past block list) (take at block) _ (length-take-le at block held.inside))

  pub record WorkedAlike (b₁ b₂ : List ℕ) (list : List Element) (past : History) : Type 0 where
    pub history : history n t work at past b₁ list ≡ history n t work at past b₂ list
    pub written : written work at b₁ list ≡ written work at b₂ list
    pub reported : reported work at b₁ list ≡ reported work at b₂ list
    pub cells : take (cells_before t n) (drop at (left work at b₁ list)) ≡ take (cells_before t n) (drop at (left work at b₂ list))

  module _ (past : History) (b₁ b₂ : List ℕ) (h₁ : HoldsPast n t at past b₁) (h₂ : HoldsPast n t at past b₂)
      (list : List Element) (o₁ : OthersRefused work at b₁ list) (o₂ : OthersRefused work at b₂ list) where
    l₁ : Lawful n t work at past b₁ list
    l₁ = law n t w c work same at past b₁ h₁ list o₁

    l₂ : Lawful n t work at past b₂ list
    l₂ = law n t w c work same at past b₂ h₂ list o₂

    same-history : history n t work at past b₁ list ≡ history n t work at past b₂ list
    unfolding calls.history flatten
    same-history = ap (λ (ls : List (List Tick)). reverse_aux (flatten ls) past) (all_added_alike b₁ b₂ list l₁.answers l₂.answers)

    pub same_past : WorkedAlike b₁ b₂ list past
    same_past =
        record {
          history = same-history;
          written = l₁.meaning ∙ rw same-history (sym l₂.meaning);
          reported = omega (arith, l₁.reports, rw (← same-history) at l₂.reports);
          cells = (left-holds past b₁ h₁ list o₁).cells ∙ rw same-history (sym (left-holds past b₂ h₂ list o₂).cells);
        }
