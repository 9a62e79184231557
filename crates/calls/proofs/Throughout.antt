-- The law of a list of calls, of its cut after any tick, and of ticks without demand.
use Prim.Native.Nat.{ℕ, suc, ◌*◌, ◌≤◌, ◌<◌}
use mathlib.Core.Path.{◌≡◌, refl, sym, ap, ◌∙◌}
use mathlib.Core.List.{List, [], ◌∷◌, ◌++◌, map, map-append, reverse_aux, reverse_aux-append, flatten}
use native.Mathlib.Omega.{arith}
use lib.ListN.{take}
use Rattle.word.specs.Tick.{Tick, Each}
use Rattle.word.proofs.Lists.{flatten-last}
use Rattle.word.proofs.Each.{each_append}
use Rattle.refusal.specs.Answer.{Answer}
use Rattle.cells.specs.Block.{ticks_of}
use Rattle.cells.proofs.Calls.{unreported}
use Rattle.arity.specs.Tree.{Tree, ins, outs}
use Rattle.arity.specs.Nodes.{Complete, cells_before}
use Rattle.arity.specs.WellFormed.{WellFormed}
use Rattle.signal.specs.Signal.{History}
use Rattle.calls.specs.Calls as calls
use Rattle.calls.specs.Calls.{Arguments, Element, Event, Program, RefusedIfOther, block_after, call_of, event_of, events, left, ticks_added, added_by, OthersRefused, tick_of, first_ticks}
use Rattle.calls.specs.Calls.Element.{own}
use Rattle.calls.specs.Law.{Answered, Lawful, history, cut_after, TickByTick, AcceptedAfter, LawfulThroughout, IsProgramOf, HoldsPast, LawfulFromPast}
use Rattle.calls.proofs.Law.{law}
use Rattle.calls.proofs.Cut.{cut-accepted, whole-cut, adds_next}
use Rattle.calls.proofs.QuietCells.{quiet-tick}

module _ {A : Type 0} (P : A → Type 0) where
  pub each-before : (xs ys : List A) → Each P (xs ++ ys) → Each P xs
  each-before [] ys p = tt
  each-before (x ∷ xs) ys (p, ps) = (p, each-before xs ys ps)

  pub each_after : (xs ys : List A) → Each P (xs ++ ys) → Each P ys
  each_after [] ys p = p
  each_after (x ∷ xs) ys (p, ps) = each_after xs ys ps

module _ (work : Program) (at : ℕ) where
  pub events_append : (block : List ℕ) (xs ys : List Element) → events work at block (xs ++ ys) ≡ events work at block xs ++ events work at (left work at block xs) ys
  unfolding events left
  events_append block [] ys = refl
  events_append block (x ∷ xs) ys = ap (λ es. event_of work at block x ∷ es) (events_append (block_after (call_of work at x) block) xs ys)

  -- one call more
  history-more : (m : ℕ) (past : History) (block : List ℕ) (before : List Element) (x : Element)
      → calls.history work at m past block (before ++ x ∷ []) ≡ reverse_aux (added_by m (event_of work at (left work at block before) x)) (calls.history work at m past block before)
  unfolding calls.history events flatten
  history-more m past block before x =
      let es : List Event = events work at block before in
      let new : List Tick = added_by m (event_of work at (left work at block before) x) in
      ap (λ xs. reverse_aux (flatten (map (added_by m) xs)) past) (events_append block before (x ∷ []))
      ∙ ap (λ xs. reverse_aux (flatten xs) past) (map-append (added_by m) es _)
      ∙ ap (λ xs. reverse_aux xs past) (flatten-last (map (added_by m) es) new)
      ∙ reverse_aux-append (flatten (map (added_by m) es)) new past

module _ (n : ℕ) (t : Tree) (w : WellFormed t) (c : Complete n t) (work : Program) (same : IsProgramOf n t work) (at : ℕ) (past : History) (block : List ℕ)
    (held : HoldsPast n t at past block) (list : List Element) (o : OthersRefused work at block list) where
  module _ (before : List Element) (a : Arguments) (p : AcceptedAfter n t work at list before a) where
    abbrev cut_at : ℕ → List Element
    cut_at j = cut_after n t work at before a j

    others_refused : (j : ℕ) → OthersRefused work at block (cut_at j)
    unfolding OthersRefused events
    others_refused j =
        let P : Event → Type 0 = λ e. RefusedIfOther e.element e.given in
        rw (events_append work at block before (own (first_ticks (ins t) a j) ∷ []))
        (each_append P (events work at block before) _ (each-before P (events work at block before) _ (rw (p.stands, events_append work at block before (own a ∷ p.after)) at o)) (tt, tt))

    lawful_cut : (j : ℕ) → Lawful n t work at past block (cut_at j)
    lawful_cut j = law n t w c work same at past block held (cut_at j) (others_refused j)

    cut-history : (j : ℕ) → j ≤ a.ticks → history n t work at past block (cut_at j) ≡ reverse_aux (ticks_of (ins t) a.controls j (take (j * ins t) a.inputs)) (history n t work at past block before)
    unfolding events
    cut-history j h =
        let x : Element = own (first_ticks (ins t) a j) in
        let answer = (each_after (λ e. Answered n t work at e.element e.result.answer) (events work at block before) _ (rw (events_append work at block before (x ∷ [])) at (lawful_cut j).answers)).0 in
        history-more work at (ins t) past block before x
        ∙ unreported (λ (y : Answer). reverse_aux (ticks_added (ins t) x y) (history n t work at past block before)) (λ ks. refl) (event_of work at (left work at block before) x).result.answer
        ∙ ap (λ (y : Answer). reverse_aux (ticks_added (ins t) x y) (history n t work at past block before))
        (answer ∙ cut-accepted (ins t) (outs t) (cells_before t n) (a.ticks * outs t) a p.accepted j h)

    next : (j : ℕ) → j < a.ticks → history n t work at past block (cut_at (suc j)) ≡ tick_of (ins t) a j ∷ history n t work at past block (cut_at j)
    next j h =
        let h₀ : History = history n t work at past block before in
        cut-history (suc j) h
        ∙ adds_next (ins t) (outs t) (cells_before t n) (a.ticks * outs t) a p.accepted j h h₀
        ∙ ap {B = History} (λ x. tick_of (ins t) a j ∷ x) (sym (cut-history j (omega arith)))

    tick_by_tick_lem : TickByTick n t work at past block before a
    tick_by_tick_lem =
        record {
          cut = λ j h. lawful_cut j;
          first = cut-history 0 (omega arith);
          next = next;
          last = whole-cut (ins t) (outs t) (cells_before t n) (a.ticks * outs t) a p.accepted;
          quiet = λ j h i b m s q.
              quiet-tick n t w c work at past block held.inside (cut_at j) (cut_at (suc j)) (lawful_cut j) (lawful_cut (suc j)) (tick_of (ins t) a j) (next j h) i b m s q;
        }

  lawful : LawfulThroughout n t work at past block list
  lawful = record { whole = law n t w c work same at past block held list o; tick_by_tick = tick_by_tick_lem }

pub from_past : (n : ℕ) (t : Tree) → WellFormed t → Complete n t → (work : Program) → IsProgramOf n t work → LawfulFromPast n t work
from_past n t w c work same at past block held list o = lawful n t w c work same at past block held list o
