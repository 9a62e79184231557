-- One call with probes, on a block and a list that hold the cells and the latest values of a history.
use Prim.Native.Nat.{ℕ, zero, suc, ◌*◌, ◌%◌, ◌≤◌, ◌<◌}
use mathlib.Core.Path.{◌≡◌, refl, sym, ap, ap₂, ◌∙◌}
use mathlib.Core.Bool.{Bool, true, false}
use mathlib.Core.List.{List, [], ◌∷◌, ◌++◌, map, reverse_aux, append_assoc, append-nil}
use native.Mathlib.Omega.{arith}
use lib.ListN.{length, drop, take, length-take, length-map, take-append-drop}
use lib.Seq.{take-take, take_at, drop_at, drop-append-le}
use lib.Dec.{eqb, leb, ltb}
use borrow.Author.Tests.{leb-true, ltb-true}
use Rattle.word.specs.Choice.{pick, ◌and◌}
use Rattle.word.specs.Limits.{most_probes}
use Rattle.word.specs.Tick.{Tick, Each}
use Rattle.word.proofs.Lists.{first-true, second-true}
use Rattle.refusal.specs.Answer.{count, refused_all}
use Rattle.cells.specs.Block.{without_report, ticks_of, block_ok, answered}
use Rattle.arity.specs.Tree.{Tree, ins, outs}
use Rattle.arity.specs.Nodes.{Complete, subtree, cells_before}
use Rattle.arity.specs.WellFormed.{WellFormed}
use Rattle.signal.specs.Signal.{History}
use Rattle.signal.specs.Wire.{Probe, wire_after}
use Rattle.signal.specs.Contents.{cells_after}
use Rattle.calls.specs.Probes.{Noted, recorded}
use Rattle.calls.specs.Probed.{Probed, probes_of, all_named, probes_ok, untouched, watches, probed}
use Rattle.calls.specs.Calls.{ticks_added}
use Rattle.calls.specs.Law.{HoldsPast}
use Rattle.calls.specs.ProbedCalls.{ProbedCall, ProbedArguments, ProbedProgram, ProbedElement, RefusedProbed, RefusedIfOtherCall, plain_element, recorded_count, probed_call_of, event_with, probed_answer_to}
use Rattle.calls.specs.ProbedCalls.ProbedElement.{own_walk, other_call}
use Rattle.calls.specs.Recorded.{HoldsLatest, ProbedAnswered, IsProbedProgramOf}
use Rattle.calls.proofs.Run.{walk-right}
use Rattle.calls.proofs.Plays.{cells_at, cells-long}
use Rattle.calls.proofs.Handled.{lent_enough}
use Rattle.calls.proofs.SameWalk.{End, watched, refuses}
use Rattle.calls.proofs.Watched.{shown_in, records}
use Rattle.calls.proofs.Plainly.{walk_end}

length-ticks : (n : ℕ) (controls : List ℕ) (k : ℕ) (inputs : List ℕ) → length (ticks_of n controls k inputs) ≡ k
length-ticks n controls zero inputs = refl
length-ticks n controls (suc k) inputs = ap suc (length-ticks n controls k (drop n inputs))

all-named : (n : ℕ) (t : Tree) (ps : List Probe) → all_named n t ps ≡ true → Each (λ p. p.node < n) ps
all-named n t [] e = tt
all-named n t (p ∷ ps) e =
    let here : Bool = ltb p.node n and ltb p.output (outs (subtree t p.node)) in
    (ltb-true p.node n (first-true (ltb p.node n) _ (first-true here (all_named n t ps) e)), all-named n t ps (second-true here (all_named n t ps) e))

named : (n : ℕ) (t : Tree) (xs : List ℕ) → probes_ok n t xs ≡ true → Each (λ p. p.node < n) (probes_of xs)
named n t xs e =
    all-named n t (probes_of xs) (second-true (leb (length (probes_of xs)) most_probes) _ (second-true (eqb (length xs % 2) 0) _ e))

module _ (n : ℕ) (t : Tree) (w : WellFormed t) (c : Complete n t) (xs : List ℕ) where
  abbrev ps : List Probe
  ps = probes_of xs

  abbrev P : ℕ
  P = length ps

  abbrev N : ℕ
  N = cells_before t n

  -- what a call with the result r, after the history h, leaves of its recording and the list; and the history after it
  module _ (h : History) (list : List ℕ) (x : ProbedElement) (call : ProbedCall) (r : Probed) where
    abbrev history_with : History
    history_with = reverse_aux (ticks_added (ins t) (plain_element call (take call.kept list) x r.ran.answer) r.ran.answer) h

    pub record Leaves : Type 0 where
      pub recording : shown_in t ps h ++ take (recorded_count P x r.ran.answer) r.recording ≡ shown_in t ps history_with
      pub keeps : drop (recorded_count P x r.ran.answer) r.recording ≡ drop (recorded_count P x r.ran.answer) call.recording
      pub latest : take P (r.latest ++ drop call.kept list) ≡ map (wire_after t history_with) ps
      pub rest : drop P (r.latest ++ drop call.kept list) ≡ drop P list

  module _ (h : History) (list : List ℕ) (v : HoldsLatest t ps h list) where
    refused_leaves : (call : ProbedCall) (cells : List ℕ) → RefusedProbed call cells (take call.kept list)
        → Leaves h list (other_call call) call (call.work cells (take call.kept list))
    refused_leaves call cells o =
        let e = take-append-drop call.kept list in
        rw o.nothing (record { recording = append-nil (shown_in t ps h); keeps = refl; latest = ap (take P) e ∙ v; rest = ap (drop P) e })

    module _ (at : ℕ) (block : List ℕ) (held : HoldsPast n t at h block) (work : ProbedProgram) (is-work : IsProbedProgramOf n t xs work) (a : ProbedArguments) where
      abbrev cells : List ℕ
      cells = take a.walk.lent (drop at block)

      abbrev latest : List ℕ
      latest = take a.kept list

      abbrev call : ProbedCall
      call = probed_call_of work at (own_walk a)

      -- what it is lent is enough if the circuit's cells and the probes' numbers are among it
      cells-lent : leb N (length cells) ≡ leb N a.walk.lent
      cells-lent =
          let long : length (cells_after n t h) ≡ N = ap length (sym (walk-right n t w c h).cells) ∙ cells-long n t w c h in
          lent_enough N a.walk.lent (drop at block) (omega (arith, length-take N (drop at block), ap length held.cells))

      list_lent : leb P (length latest) ≡ leb P a.kept
      list_lent = lent_enough P a.kept list (omega (arith, length-take P list, ap length v, length-map ps (wire_after t h)))

      abbrev full : Probed
      full = watches n t ps a.walk.ticks a.walk.inputs a.walk.controls cells a.walk.outputs latest a.recording

      answers : without_report (work a cells latest).ran.answer ≡ probed_answer_to n t xs a
      unfolding probed probed_answer_to watches answered
      answers =
          ap (λ (r : Probed). without_report r.ran.answer) (is-work a cells latest)
          ∙ rw (cells-lent, list_lent)
          (go (block_ok (ins t) a.walk.ticks a.walk.inputs a.walk.controls) (probes_ok n t xs) (leb N a.walk.lent and leb (a.walk.ticks * outs t) (length a.walk.outputs))
          (leb P a.kept and leb (a.walk.ticks * P) (length a.recording)))
        where
          no : ℕ → Probed
          no x = untouched (refused_all x) cells a.walk.outputs latest a.recording

          go : (b d e f : Bool) → without_report (pick b (pick d (pick e (pick f full (no 12)) (no 12)) (no 15)) (no 14)).ran.answer
              ≡ pick b (pick d (pick (e and f) (count (a.walk.ticks * outs t)) (refused_all 12)) (refused_all 15)) (refused_all 14)
          go true true true true = refl
          go true true true false = refl
          go true true false f = refl
          go true false e f = refl
          go false d e f = refl

      abbrev fs : List Tick
      fs = ticks_of (ins t) a.walk.controls a.walk.ticks a.walk.inputs

      -- the walk's ticks are those after h
      goes_on : N ≤ length cells → P ≤ length latest
          → recorded (cells_before t) t ps fs (take N cells) (take P latest) ≡ recorded (cells_before t) t ps fs (cells_at n t w c h) (map (wire_after t h) ps)
      goes_on room fits =
          ap₂ (recorded (cells_before t) t ps fs)
          (take-take N a.walk.lent (drop at block) (omega (arith, length-take a.walk.lent (drop at block))) ∙ held.cells ∙ sym (walk-right n t w c h).cells)
          (take-take P a.kept list (omega (arith, length-take a.kept list)) ∙ v)

      accepted_leaves : probes_ok n t xs ≡ true → N ≤ length cells → P ≤ length latest → Leaves h list (own_walk a) call full
      unfolding watches answered
      accepted_leaves ok room fits =
          let k = records n t w c ps (named n t xs ok) fs h in
          let s : Noted = recorded (cells_before t) t ps fs (cells_at n t w c h) (map (wire_after t h) ps) in
          let K : ℕ = a.walk.ticks * P in
          let lr : length s.recording ≡ K = k.long ∙ ap (λ j. j * P) (length-ticks (ins t) a.walk.controls a.walk.ticks a.walk.inputs) in
          let ll : length s.latest ≡ P = ap length k.latest ∙ length-map ps _ in
          let e : (s.latest ++ drop P latest) ++ drop a.kept list ≡ s.latest ++ drop P list =
          append_assoc s.latest (drop P latest) (drop a.kept list)
          ∙ ap (λ l. s.latest ++ l) (sym (drop-append-le P latest (drop a.kept list) fits) ∙ ap (drop P) (take-append-drop a.kept list)) in
          rw (goes_on room fits)
          (record {
            recording = ap (λ l. shown_in t ps h ++ l) (take_at s.recording _ K lr) ∙ k.recording;
            keeps = drop_at s.recording _ K lr;
            latest = ap (take P) e ∙ take_at s.latest (drop P list) P ll ∙ k.latest;
            rest = ap (drop P) e ∙ drop_at s.latest (drop P list) P ll;
          })

      own_leaves : Leaves h list (own_walk a) call (work a cells latest)
      own_leaves = go (walk_end n t xs work is-work a cells latest)
        where
          go : {r : Probed} → End n t xs a.walk.ticks a.walk.inputs a.walk.controls cells a.walk.outputs latest a.recording r → Leaves h list (own_walk a) call r
          go (watched b d e f) = accepted_leaves d (leb-true _ _ (first-true (leb N (length cells)) _ e)) (leb-true _ _ (first-true (leb P (length latest)) _ f))
          go (refuses x) =
              let e = take-append-drop a.kept list in
              record { recording = append-nil (shown_in t ps h); keeps = refl; latest = ap (take P) e ∙ v; rest = ap (drop P) e }

    -- any call
    pub record Handled (at : ℕ) (block : List ℕ) (work : ProbedProgram) (x : ProbedElement) : Type 0 where
      pub answer : ProbedAnswered n t xs x (event_with work at block list x).result.ran.answer
      pub leaves : Leaves h list x (probed_call_of work at x) (event_with work at block list x).result

    pub handled : (at : ℕ) (block : List ℕ) → HoldsPast n t at h block → (work : ProbedProgram) → IsProbedProgramOf n t xs work → (x : ProbedElement)
        → RefusedIfOtherCall (event_with work at block list x) x → Handled at block work x
    handled at block held work is-work (own_walk a) o = record { answer = answers at block held work is-work a; leaves = own_leaves at block held work is-work a }
    handled at block held work is-work (other_call call) o = record { answer = tt; leaves = refused_leaves call _ o }
