-- The law of recordings where its premises just hold, and what it says of no probe and of a wire named twice.
use Prim.Native.Nat.{ℕ, zero, suc, ◌*◌, ◌<◌}
use mathlib.Core.Path.{◌≡◌, refl, sym, ap, ◌∙◌, subst}
use mathlib.Core.List.{List, [], ◌∷◌, ◌++◌, map, flatten, reverse, reverse_aux, append-nil}
use native.Mathlib.Nat.{mul-zero}
use native.Mathlib.Omega.{arith}
use lib.IntN.{ℤ}
use lib.ListN.{length, drop, take, get_or, length-map, length-replicate}
use lib.Seq.{take_all, take_at}
use Rattle.word.specs.Tick.{Tick, Each, head_or, zeros}
use Rattle.refusal.specs.Answer.{Answer, count}
use Rattle.refusal.specs.Answer.Answer.{counts, refused}
use Rattle.cells.specs.Block.{without_report, ticks_of}
use Rattle.cells.specs.Load.{loaded}
use Rattle.cells.proofs.Calls.{unreported, refused_has_none}
use Rattle.arity.specs.Tree.{Tree, ins, outs}
use Rattle.arity.specs.Nodes.{Complete, cells_before}
use Rattle.arity.specs.WellFormed.{WellFormed}
use Rattle.signal.specs.Signal.{History}
use Rattle.signal.specs.Wire.{Probe, wire_after, watched}
use Rattle.signal.specs.Contents.{cells_after}
use Rattle.calls.specs.Probed.{Probed, probes_of, untouched}
use Rattle.calls.specs.Calls as calls
use Rattle.calls.specs.Calls.{Program, Event, added_by, ticks_added}
use Rattle.calls.specs.Law.{IsProgramOf, HoldsPast}
use Rattle.calls.specs.ProbedCalls.{ProbedArguments, ProbedProgram, ProbedElement, ProbedEvent, plain_element, recorded_count, recorded_by, probed_call_of, probed_events, list_left, recordings, OtherCallsRefused, probed_answer_to}
use Rattle.calls.specs.ProbedCalls.ProbedElement.{own_walk, other_call}
use Rattle.calls.specs.Recorded.{recording_after, history, Recorded, RecordedThroughout, IsProbedProgramOf}
use Rattle.calls.proofs.Law.{holds_around}
use Rattle.calls.proofs.RecordedCut.{recorded_from_past, recorded_from_load}

none-counted : (x : ProbedElement) (y : Answer) → recorded_count 0 x y ≡ 0
none-counted (own_walk a) (counts ks) = mul-zero a.walk.ticks
none-counted (own_walk a) (refused r p) = refl
none-counted (other_call c) y = refl

no_numbers : (es : List ProbedEvent) → flatten (map (recorded_by 0) es) ≡ []
unfolding flatten
no_numbers [] = refl
no_numbers (e ∷ es) = rw none-counted (no_numbers es)

module _ (n : ℕ) (t : Tree) (w : WellFormed t) (c : Complete n t) (walk : Program) (is-walk : IsProgramOf n t walk) where
  abbrev N : ℕ
  N = cells_before t n

  module _ (xs : List ℕ) (work : ProbedProgram) (is-work : IsProbedProgramOf n t xs work) where
    abbrev ps : List Probe
    ps = probes_of xs

    -- a load that named just the circuit's cells, and a list of just the probes' numbers
    just_loaded : (cells : List ℕ) → (loaded N cells).answer ≡ count N → (elements : List ProbedElement)
        → OtherCallsRefused work 0 (loaded N cells).buffer (zeros (length ps)) elements
        → RecordedThroughout n t xs walk work 0 [] (loaded N cells).buffer (zeros (length ps)) elements
    just_loaded cells e =
        recorded_from_load n t w c xs walk is-walk work is-work N (omega arith) N cells (zeros (length ps)) e (omega arith)
        (take_all (length ps) (zeros (length ps)) (omega (arith, length-replicate {A = ℕ} (length ps) 0)))

    -- so of one walk
    module _ (cells : List ℕ) (e : (loaded N cells).answer ≡ count N) (a : ProbedArguments) where
      abbrev block : List ℕ
      block = (loaded N cells).buffer

      abbrev list : List ℕ
      list = zeros (length ps)

      abbrev result : Probed
      result = work a (take a.walk.lent block) (take a.kept list)

      one : Recorded n t xs walk work 0 [] block list (own_walk a ∷ [])
      unfolding OtherCallsRefused
      one = (just_loaded cells e (own_walk a ∷ []) (tt, tt)).whole

      -- refused, it has written nothing
      one-refused : (x : ℕ) (p : ℤ) → probed_answer_to n t xs a ≡ refused x p
          → result ≡ untouched (refused x p) (take a.walk.lent block) a.walk.outputs (take a.kept list) a.recording
      unfolding probed_events
      one-refused x p h = one.refusals.0 x p (refused_has_none _ x p (one.answers.0 ∙ h))

      -- accepted, its recording and the list are those of its ticks, and the rest of the recording is kept
      module _ (g : probed_answer_to n t xs a ≡ count (a.walk.ticks * outs t)) where
        abbrev ticks : List Tick
        ticks = ticks_of (ins t) a.walk.controls a.walk.ticks a.walk.inputs

        abbrev K : ℕ
        K = a.walk.ticks * length ps

        one_answer : without_report result.ran.answer ≡ count (a.walk.ticks * outs t)
        unfolding probed_events
        one_answer = one.answers.0 ∙ g

        -- what does not turn on the report
        seen : {A : Type 0} (f : Answer → A) → ((ks : List ℕ) → f (counts ks) ≡ f (count (head_or 0 ks))) → f result.ran.answer ≡ f (count (a.walk.ticks * outs t))
        seen f e = unreported f e result.ran.answer ∙ ap f one_answer

        one-history : history n t xs walk work 0 [] block list (own_walk a ∷ []) ≡ reverse ticks
        unfolding calls.history probed_events flatten
        one-history =
            ap (λ (es : List Event). reverse_aux (flatten (map (added_by (ins t)) es)) []) one.same
            ∙ seen (λ y. reverse_aux (ticks_added (ins t) (plain_element (probed_call_of work 0 (own_walk a)) (take a.kept list) (own_walk a) y) y ++ []) []) (λ ks. refl)
            ∙ ap (λ fs. reverse_aux fs []) (append-nil ticks)

        one-recorded : take K result.recording ≡ recording_after 0 t ps (reverse ticks)
        unfolding recordings probed_events flatten
        one-recorded =
            sym (append-nil _)
            ∙ sym (seen (λ y. take (recorded_count (length ps) (own_walk a) y) result.recording ++ []) (λ ks. refl))
            ∙ one.recording ∙ ap (recording_after 0 t ps) one-history

        one_kept : drop K result.recording ≡ drop K a.recording
        unfolding probed_events
        one_kept =
            let e = seen (recorded_count (length ps) (own_walk a)) (λ ks. refl) in
            subst (λ (k : ℕ). drop k result.recording ≡ drop k a.recording) e one.buffers.0

        one-latest : result.latest ++ drop a.kept list ≡ map (wire_after t (reverse ticks)) ps ++ drop (length ps) list
        unfolding list_left
        one-latest = one.latest ∙ ap (λ (h : History). map (wire_after t h) ps ++ drop (length ps) list) one-history

    -- the cells and latest values of any past, with others before and behind them
    anywhere : (front behind more : List ℕ) (past : History) (elements : List ProbedElement)
        → OtherCallsRefused work (length front) (front ++ (cells_after n t past ++ behind)) (map (wire_after t past) ps ++ more) elements
        → RecordedThroughout n t xs walk work (length front) past (front ++ (cells_after n t past ++ behind)) (map (wire_after t past) ps ++ more) elements
    anywhere front behind more past =
        let vs : List ℕ = map (wire_after t past) ps in
        recorded_from_past n t w c xs walk is-walk work is-work (length front) past (front ++ (cells_after n t past ++ behind)) (vs ++ more)
        (holds_around n t w c (length front) past front behind refl) (take_at vs more (length ps) (length-map ps (wire_after t past)))

  -- "no probe at all is allowed": nothing is recorded, and the list stays, whatever it holds
  module _ (work : ProbedProgram) (is-work : IsProbedProgramOf n t [] work) (at : ℕ) (past : History) (block list : List ℕ) (held : HoldsPast n t at past block)
      (elements : List ProbedElement) (o : OtherCallsRefused work at block list elements) where
    none : RecordedThroughout n t [] walk work at past block list elements
    none = recorded_from_past n t w c [] walk is-walk work is-work at past block list held refl elements o

    none-latest : list_left work at block list elements ≡ list
    none-latest = none.whole.latest

    none-recorded : recordings work at 0 block list elements ≡ []
    unfolding recordings
    none-recorded = no_numbers (probed_events work at block list elements)

-- "A wire may be named twice": it shows the same in both places, at each tick
at-probe : (g : Probe → ℕ) (ps : List Probe) (d : Probe) (i : ℕ) → i < length ps → get_or (map g ps) i 0 ≡ g (get_or ps i d)
at-probe g [] d i h = absurd (omega arith)
at-probe g (p ∷ ps) d zero h = refl
at-probe g (p ∷ ps) d (suc i) h = at-probe g ps d i (omega arith)

twice : (t : Tree) (ps : List Probe) (d : Probe) (i j : ℕ) → i < length ps → j < length ps → get_or ps i d ≡ get_or ps j d
    → (h : History) → Each (λ row. get_or row i 0 ≡ get_or row j 0) (watched t ps h)
unfolding watched
twice t ps d i j a b e [] = tt
twice t ps d i j a b e (f ∷ h) =
    (at-probe (wire_after t (f ∷ h)) ps d i a ∙ ap (wire_after t (f ∷ h)) e ∙ sym (at-probe (wire_after t (f ∷ h)) ps d j b), twice t ps d i j a b e h)
