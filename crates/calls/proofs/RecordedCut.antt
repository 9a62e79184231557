-- The law of recordings, and of the list cut after any tick of an accepted walk.
use Prim.Native.Nat.{ℕ, ◌*◌, ◌≤◌}
use mathlib.Core.Path.{◌≡◌, refl, sym, ap, ◌∙◌}
use mathlib.Core.Bool.{Bool, true, false}
use mathlib.Core.List.{List, [], ◌∷◌, ◌++◌, map, map-append}
use native.Mathlib.Nat.{mul-le-mul_right}
use native.Mathlib.Omega.{arith}
use lib.ListN.{length}
use lib.Dec.{leb}
use borrow.Author.Tests.{leb-true, le-leb}
use Rattle.word.specs.Choice.{◌and◌, pick}
use Rattle.word.proofs.Lists.{first-true, second-true, both_true}
use Rattle.word.proofs.Each.{each_append}
use Rattle.refusal.specs.Answer.{count, refused_all}
use Rattle.cells.specs.Block.{block_ok}
use Rattle.cells.specs.Load.{loaded}
use Rattle.cells.proofs.Calls.{unreported}
use Rattle.arity.specs.Tree.{Tree, ins, outs}
use Rattle.arity.specs.Nodes.{Complete, cells_before}
use Rattle.arity.specs.WellFormed.{WellFormed}
use Rattle.signal.specs.Signal.{History}
use Rattle.signal.proofs.Wire.{wires_start}
use Rattle.calls.specs.Probed.{probes_of, probes_ok}
use Rattle.calls.specs.Calls.{Program, Element, answer_to}
use Rattle.calls.specs.Calls.Element.{own}
use Rattle.calls.specs.Law.{IsProgramOf, HoldsPast}
use Rattle.calls.specs.ProbedCalls.{ProbedArguments, ProbedProgram, ProbedElement, ProbedEvent, RefusedIfOtherCall, plain_element, plain, event_with, block_with, list_with, probed_events, block_left, list_left, plainly, OtherCallsRefused, probed_answer_to, first_probed, cut_probed}
use Rattle.calls.specs.ProbedCalls.ProbedElement.{own_walk}
use Rattle.calls.specs.Recorded.{HoldsLatest, ProbedAnswered, AcceptedWalk, Recorded, RecordedByTick, RecordedFromPast, RecordedFromLoad, IsProbedProgramOf}
use Rattle.calls.proofs.Cut.{cut-accepted}
use Rattle.calls.proofs.Throughout.{each-before, each_after, from_past}
use Rattle.calls.proofs.Loads.{load_holds}
use Rattle.calls.proofs.Plainly.{others_refused}
use Rattle.calls.proofs.Recorded.{recorded_law}

module _ (n : ℕ) (t : Tree) (xs : List ℕ) where
  abbrev P : ℕ
  P = length (probes_of xs)

  abbrev fit_test : ProbedArguments → Bool
  fit_test a = leb P a.kept and leb (a.walk.ticks * P) (length a.recording)

  -- what an accepted walk has passed: row 15, row 12 for list and recording, and what it passes without probes
  record Accepts (a : ProbedArguments) : Type 0 where
    named : probes_ok n t xs ≡ true
    fits : fit_test a ≡ true
    walked : answer_to (ins t) (outs t) (cells_before t n) a.walk ≡ count (a.walk.ticks * outs t)

  abbrev block_test : ProbedArguments → Bool
  block_test a = block_ok (ins t) a.walk.ticks a.walk.inputs a.walk.controls

  abbrev room_test : ProbedArguments → Bool
  room_test a = leb (cells_before t n) a.walk.lent and leb (a.walk.ticks * outs t) (length a.walk.outputs)

  accepts : (a : ProbedArguments) (x : ℕ) → probed_answer_to n t xs a ≡ count x → Accepts a
  unfolding probed_answer_to answer_to
  accepts a x = go (block_test a) (probes_ok n t xs) (room_test a) (fit_test a) refl refl refl refl
    where
      go : (b d e f : Bool) → block_test a ≡ b → probes_ok n t xs ≡ d → room_test a ≡ e → fit_test a ≡ f
          → pick b (pick d (pick (e and f) (count (a.walk.ticks * outs t)) (refused_all 12)) (refused_all 15)) (refused_all 14) ≡ count x → Accepts a
      go true true true true p q r s g = record { named = q; fits = s; walked = rw (p, r) }
      go true true true false p q r s g = absurd (let z : ◌≡◌ {A = ℕ} 0 1 = cc in omega arith)
      go true true false f p q r s g = absurd (let z : ◌≡◌ {A = ℕ} 0 1 = cc in omega arith)
      go true false e f p q r s g = absurd (let z : ◌≡◌ {A = ℕ} 0 1 = cc in omega arith)
      go false d e f p q r s g = absurd (let z : ◌≡◌ {A = ℕ} 0 1 = cc in omega arith)

  accepted : (a : ProbedArguments) → Accepts a → probed_answer_to n t xs a ≡ count (a.walk.ticks * outs t)
  unfolding probed_answer_to answer_to
  accepted a p = rw (p.named, p.fits) (go (block_test a) (room_test a) p.walked)
    where
      go : (b e : Bool) → pick b (pick e (count (a.walk.ticks * outs t)) (refused_all 12)) (refused_all 14) ≡ count (a.walk.ticks * outs t)
          → pick b (pick (e and true) (count (a.walk.ticks * outs t)) (refused_all 12)) (refused_all 14) ≡ count (a.walk.ticks * outs t)
      go true true g = g
      go true false g = g
      go false e g = g

  cut_accepts : (a : ProbedArguments) → Accepts a → (j : ℕ) → j ≤ a.walk.ticks → Accepts (first_probed (ins t) a j)
  cut_accepts a p j h =
      let long : a.walk.ticks * P ≤ length a.recording = leb-true _ _ (second-true (leb P a.kept) _ p.fits) in
      record {
        named = p.named;
        fits = both_true _ _ (first-true (leb P a.kept) _ p.fits) (le-leb (j * P) (length a.recording) (omega (arith, mul-le-mul_right P h)));
        walked = cut-accepted (ins t) (outs t) (cells_before t n) (a.walk.ticks * outs t) a.walk p.walked j h;
      }

module _ (work : ProbedProgram) (at : ℕ) where
  events_append : (block list : List ℕ) (before after : List ProbedElement)
      → probed_events work at block list (before ++ after)
      ≡ probed_events work at block list before ++ probed_events work at (block_left work at block list before) (list_left work at block list before) after
  unfolding probed_events block_left list_left
  events_append block list [] after = refl
  events_append block list (x ∷ before) after =
      ap (λ es. event_with work at block list x ∷ es) (events_append (block_with work at block list x) (list_with work at block list x) before after)

  plainly_append : (block list : List ℕ) (before after : List ProbedElement)
      → plainly work at block list (before ++ after) ≡ plainly work at block list before ++ plainly work at (block_left work at block list before) (list_left work at block list before) after
  unfolding plainly
  plainly_append block list before after =
      ap (map (λ (e : ProbedEvent). (plain e).element)) (events_append block list before after)
      ∙ map-append (λ (e : ProbedEvent). (plain e).element) (probed_events work at block list before) _

module _ (n : ℕ) (t : Tree) (w : WellFormed t) (c : Complete n t) (xs : List ℕ) (walk : Program) (is-walk : IsProgramOf n t walk)
    (work : ProbedProgram) (is-work : IsProbedProgramOf n t xs work) (at : ℕ) (past : History) (block list : List ℕ) where
  -- an accepted walk in the list is itself without probes
  plain_walk : (before : List ProbedElement) (a : ProbedArguments) (after : List ProbedElement) → Recorded n t xs walk work at past block list (before ++ own_walk a ∷ after)
      → Accepts n t xs a
      → let b = block_left work at block list before in
      let l = list_left work at block list before in
      plainly work at block list (before ++ own_walk a ∷ after)
      ≡ plainly work at block list before ++ own a.walk ∷ plainly work at (block_with work at b l (own_walk a)) (list_with work at b l (own_walk a)) after
  unfolding plainly probed_events
  plain_walk before a after r p =
      let b : List ℕ = block_left work at block list before in
      let l : List ℕ = list_left work at block list before in
      let e : ProbedEvent = event_with work at b l (own_walk a) in
      let answer = (each_after (λ e. ProbedAnswered n t xs e.element e.result.ran.answer) (probed_events work at block list before) _
      (rw (events_append work at block list before (own_walk a ∷ after)) at r.answers)).0 in
      plainly_append work at block list before (own_walk a ∷ after)
      ∙ ap (λ (x : Element). plainly work at block list before ++ x ∷ plainly work at (block_with work at b l (own_walk a)) (list_with work at b l (own_walk a)) after)
      (unreported (plain_element e.call e.latest (own_walk a)) (λ ks. refl) e.result.ran.answer ∙ ap (plain_element e.call e.latest (own_walk a)) (answer ∙ accepted n t xs a p))

  module _ (u : HoldsPast n t at past block) (v : HoldsLatest t (probes_of xs) past list) (elements : List ProbedElement) (o : OtherCallsRefused work at block list elements) where
    abbrev record_law : (zs : List ProbedElement) → OtherCallsRefused work at block list zs → Recorded n t xs walk work at past block list zs
    record_law = recorded_law n t w c xs walk is-walk work is-work at past block list u v

    module _ (before : List ProbedElement) (a : ProbedArguments) (p : AcceptedWalk n t xs elements before a) where
      cut-refused : (j : ℕ) → OtherCallsRefused work at block list (cut_probed (ins t) before a j)
      unfolding OtherCallsRefused probed_events
      cut-refused j =
          let Q : ProbedEvent → Type 0 = λ e. RefusedIfOtherCall e e.element in
          let es : List ProbedEvent = probed_events work at block list before in
          rw (events_append work at block list before (own_walk (first_probed (ins t) a j) ∷ []))
          (each_append Q es _ (each-before Q es _ (rw (p.stands, events_append work at block list before (own_walk a ∷ p.after)) at o)) (tt, tt))

      cut-recorded : (j : ℕ) → Recorded n t xs walk work at past block list (cut_probed (ins t) before a j)
      cut-recorded j = record_law (cut_probed (ins t) before a j) (cut-refused j)

      by_tick : RecordedByTick n t xs walk work at past block list elements before a
      unfolding plainly probed_events
      by_tick =
          let k = accepts n t xs a _ p.accepted in
          record {
            walked = record {
              after = _;
              stands = ap (plainly work at block list) p.stands ∙ plain_walk before a p.after (rw p.stands at (record_law elements o)) k;
              accepted = k.walked;
            };
            alike = λ j h. plain_walk before (first_probed (ins t) a j) [] (cut-recorded j) (cut_accepts n t xs a k j h);
            cut = λ j h. cut-recorded j;
          }

pub recorded_from_past : (n : ℕ) (t : Tree) → WellFormed t → Complete n t → (xs : List ℕ) (walk : Program) → IsProgramOf n t walk
    → (work : ProbedProgram) → IsProbedProgramOf n t xs work → RecordedFromPast n t xs walk work
recorded_from_past n t w c xs walk is-walk work is-work at past block list u v elements o =
    record {
      walks = from_past n t w c walk is-walk at past block u (plainly work at block list elements) (others_refused n t xs walk is-walk work is-work at block list elements o);
      whole = recorded_law n t w c xs walk is-walk work is-work at past block list u v elements o;
      tick_by_tick = by_tick n t w c xs walk is-walk work is-work at past block list u v elements o;
    }

pub recorded_from_load : (n : ℕ) (t : Tree) → WellFormed t → Complete n t → (xs : List ℕ) (walk : Program) → IsProgramOf n t walk
    → (work : ProbedProgram) → IsProbedProgramOf n t xs work → (d : ℕ) → cells_before t n ≤ d → RecordedFromLoad n t xs walk work d
recorded_from_load n t w c xs walk is-walk work is-work d enough named cells list e h z =
    recorded_from_past n t w c xs walk is-walk work is-work 0 [] (loaded named cells).buffer list (load_holds n t w c d enough named cells e h) (z ∙ sym (wires_start t (probes_of xs)))
