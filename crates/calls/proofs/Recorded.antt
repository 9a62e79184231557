-- The law of recordings: over every list of walks with the same probes, what they record is what the meaning gives for each wire.
use Prim.Native.Nat.{ℕ}
use mathlib.Core.Path.{◌≡◌, refl, sym, ap, ap₂, ◌∙◌}
use mathlib.Core.List.{List, [], ◌∷◌, ◌++◌, map, reverse_aux, reverse_aux-append, flatten, append_assoc, append-nil}
use lib.ListN.{length, drop, take, take-append-drop}
use lib.Seq.{length-take-le}
use Rattle.word.specs.Tick.{Tick, Each}
use Rattle.arity.specs.Tree.{Tree, ins}
use Rattle.arity.specs.Nodes.{Complete, cells_before}
use Rattle.arity.specs.WellFormed.{WellFormed}
use Rattle.signal.specs.Signal.{History}
use Rattle.signal.specs.Wire.{Probe, wire_after, watched}
use Rattle.signal.specs.Contents.{cells_after}
use Rattle.signal.proofs.Wire.{watched_causal}
use Rattle.calls.specs.Probed.{probes_of}
use Rattle.calls.specs.Calls as calls
use Rattle.calls.specs.Calls.{Program, Event, added_by}
use Rattle.calls.specs.Law.{IsProgramOf, HoldsPast}
use Rattle.calls.specs.ProbedCalls.{ProbedProgram, ProbedElement, ProbedEvent, RefusedIfOtherCall, plain, recorded_by, event_with, block_with, list_with, probed_events, block_left, list_left, plainly, recordings, OtherCallsRefused}
use Rattle.calls.specs.Recorded.{KeptRecording, HoldsLatest, ProbedAnswered, recording_after, history, Recorded, IsProbedProgramOf}
use Rattle.calls.proofs.NewSamples.{since}
use Rattle.calls.proofs.Law.{holds_around, law}
use Rattle.calls.proofs.Watched.{shown_in}
use Rattle.calls.proofs.Plainly.{same-events, same_block, refusals, others_refused}
use Rattle.calls.proofs.RecordedBy.{handled}

module _ (n : ℕ) (t : Tree) (w : WellFormed t) (c : Complete n t) (xs : List ℕ) (walk : Program) (is-walk : IsProgramOf n t walk)
    (work : ProbedProgram) (is-work : IsProbedProgramOf n t xs work) (at : ℕ) where
  abbrev ps : List Probe
  ps = probes_of xs

  -- all ticks that the calls add
  abbrev all_added : List ℕ → List ℕ → List ProbedElement → List Tick
  all_added block list elements = flatten (map (added_by (ins t)) (map plain (probed_events work at block list elements)))

  history-is : (past : History) (block list : List ℕ) (elements : List ProbedElement)
      → history n t xs walk work at past block list elements ≡ reverse_aux (all_added block list elements) past
  unfolding calls.history
  history-is past block list elements =
      ap (λ (es : List Event). reverse_aux (flatten (map (added_by (ins t)) es)) past) (same-events n t xs walk is-walk work is-work at block list elements)

  -- after one call the block holds the cells of the history with its ticks
  next-holds : (h : History) (block list : List ℕ) → HoldsPast n t at h block → (x : ProbedElement) → RefusedIfOtherCall (event_with work at block list x) x
      → HoldsPast n t at (reverse_aux (added_by (ins t) (plain (event_with work at block list x))) h) (block_with work at block list x)
  unfolding OtherCallsRefused block_left flatten probed_events
  next-holds h block list held x o =
      let one : List ProbedElement = x ∷ [] in
      let new : List Tick = added_by (ins t) (plain (event_with work at block list x)) in
      let behind : List ℕ = drop (cells_before t n) (drop at block) in
      let l = law n t w c walk is-walk at h block held (plainly work at block list one) (others_refused n t xs walk is-walk work is-work at block list one (o, tt)) in
      let e : history n t xs walk work at h block list one ≡ reverse_aux new h = history-is h block list one ∙ ap (λ fs. reverse_aux fs h) (append-nil new) in
      rw (same_block n t xs walk is-walk work is-work at block list one ∙ l.cells ∙ ap (λ (H : History). take at block ++ (cells_after n t H ++ behind)) e)
      (holds_around n t w c at (reverse_aux new h) (take at block) behind (length-take-le at block held.inside))

  -- the calls from a block and a list that hold the cells and the latest values of the history h
  record From (h : History) (block list : List ℕ) (elements : List ProbedElement) : Type 0 where
    answers : Each (λ e. ProbedAnswered n t xs e.element e.result.ran.answer) (probed_events work at block list elements)
    buffers : Each (KeptRecording (length ps)) (probed_events work at block list elements)
    recording : shown_in t ps h ++ recordings work at (length ps) block list elements ≡ shown_in t ps (reverse_aux (all_added block list elements) h)
    latest : take (length ps) (list_left work at block list elements) ≡ map (wire_after t (reverse_aux (all_added block list elements) h)) ps
    rest : drop (length ps) (list_left work at block list elements) ≡ drop (length ps) list

  from : (h : History) (block list : List ℕ) → HoldsPast n t at h block → HoldsLatest t ps h list → (elements : List ProbedElement)
      → OtherCallsRefused work at block list elements → From h block list elements
  unfolding OtherCallsRefused probed_events recordings list_left flatten
  from h block list u v [] o = record { answers = tt; buffers = tt; recording = append-nil (shown_in t ps h); latest = v; rest = refl }
  from h block list u v (x ∷ elements) o =
      let k = handled n t w c xs h list v at block u work is-work x o.0 in
      let e : ProbedEvent = event_with work at block list x in
      let new : List Tick = added_by (ins t) (plain e) in
      let block' : List ℕ = block_with work at block list x in
      let list' : List ℕ = list_with work at block list x in
      let f : From (reverse_aux new h) block' list' elements = from (reverse_aux new h) block' list' (next-holds h block list u x o.0) k.leaves.latest elements o.1 in
      let g = reverse_aux-append new (all_added block' list' elements) h in
      let more : List ℕ = recordings work at (length ps) block' list' elements in
      record {
        answers = (k.answer, f.answers);
        buffers = (k.leaves.keeps, f.buffers);
        recording = sym (append_assoc (shown_in t ps h) (recorded_by (length ps) e) more)
            ∙ ap (λ ys. ys ++ more) k.leaves.recording ∙ f.recording ∙ ap (shown_in t ps) (sym g);
        latest = f.latest ∙ ap (λ (H : History). map (wire_after t H) ps) (sym g);
        rest = f.rest ∙ k.leaves.rest;
      }

  pub recorded_law : (past : History) (block list : List ℕ) → HoldsPast n t at past block → HoldsLatest t ps past list → (elements : List ProbedElement)
      → OtherCallsRefused work at block list elements → Recorded n t xs walk work at past block list elements
  unfolding recording_after
  recorded_law past block list u v elements o =
      let f = from past block list u v elements o in
      let e = sym (history-is past block list elements) in
      let vs : List ℕ = list_left work at block list elements in
      record {
        answers = f.answers;
        refusals = refusals n t xs walk is-walk work is-work at block list elements o;
        buffers = f.buffers;
        same = same-events n t xs walk is-walk work is-work at block list elements;
        cells = same_block n t xs walk is-walk work is-work at block list elements;
        recording = since (watched t ps) (watched_causal t ps) past (all_added block list elements) _ f.recording ∙ ap (recording_after (length past) t ps) e;
        latest = sym (take-append-drop (length ps) vs) ∙ ap₂ {C = List ℕ} (λ x y. x ++ y) (f.latest ∙ ap (λ (H : History). map (wire_after t H) ps) e) f.rest;
      }
