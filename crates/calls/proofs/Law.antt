-- The law: over every list of calls, from the circuit's cells after a history, the samples and the cells are those of the meaning.
use Prim.Native.Nat.{ℕ, ◌+◌}
use mathlib.Core.Path.{◌≡◌, sym, ap, ◌∙◌}
use mathlib.Core.List.{List, [], ◌∷◌, ◌++◌, map, reverse_aux, reverse_aux-append, flatten, append_assoc, append-nil}
use native.Mathlib.Nat.{add-zero, add_assoc}
use native.Mathlib.Omega.{arith}
use lib.IntN.{ℤ}
use lib.ListN.{length, drop, take, length-append, take-append-drop}
use lib.Seq.{length-take-le, take_at, drop_at}
use Rattle.word.specs.Tick.{Tick, Each}
use Rattle.refusal.specs.Answer.Answer.{refused}
use Rattle.cells.specs.Block.{Ran, unchanged, counted, report_of}
use Rattle.arity.specs.Tree.{Tree, ins}
use Rattle.arity.specs.Nodes.{Complete, cells_before}
use Rattle.arity.specs.WellFormed.{WellFormed}
use Rattle.signal.specs.Signal.{History, samples}
use Rattle.signal.specs.Clips.{clipped_ticks}
use Rattle.signal.specs.Contents.{cells_after}
use Rattle.calls.specs.Calls.{Call, Refused, Element, Program, RefusedIfOther, lent_to, result_of, block_after, call_of, event_of, events, left, ticks_added, added_by, written, reported, OthersRefused}
use Rattle.calls.specs.Calls as calls
use Rattle.calls.specs.Calls.Element.{own, other}
use Rattle.calls.specs.Law.{Answered, RefusedWroteNothing, KeptRest, Lawful, IsProgramOf, HoldsPast, history}
use Rattle.calls.proofs.Run.{walk-right}
use Rattle.calls.proofs.NewSamples.{samples_since}
use Rattle.calls.proofs.Plays.{cells-long}
use Rattle.calls.proofs.Handled.{around, Leaves, refused_leaves, own-call, own-nothing}

-- a call that is refused is refused by its answer
refused-nothing : (call : Call) (cells : List ℕ) → Refused call cells → (x : ℕ) (p : ℤ) → (call.work cells).answer ≡ refused x p
    → call.work cells ≡ unchanged (refused x p) cells call.outputs
refused-nothing call cells r x p e = r.nothing ∙ ap (λ z. unchanged z cells call.outputs) (sym (ap (λ (y : Ran). y.answer) r.nothing) ∙ e)

-- the cells after a past, with others before and behind them
pub holds_around : (n : ℕ) (t : Tree) → WellFormed t → Complete n t → (at : ℕ) (past : History) (front behind : List ℕ) → length front ≡ at
    → HoldsPast n t at past (front ++ (cells_after n t past ++ behind))
holds_around n t w c at past front behind long =
    let cells : List ℕ = cells_after n t past in
    let N : ℕ = cells_before t n in
    let many : length cells ≡ N = ap length (sym (walk-right n t w c past).cells) ∙ cells-long n t w c past in
    record {
      inside = omega (arith, length-append front (cells ++ behind));
      cells = ap (take N) (drop_at front (cells ++ behind) at long) ∙ take_at cells behind N many;
    }

module _ (n : ℕ) (t : Tree) (w : WellFormed t) (c : Complete n t) (work : Program) (same : IsProgramOf n t work) (at : ℕ) where
  -- all ticks that the calls add
  abbrev all_added : List ℕ → List Element → List Tick
  all_added block list = flatten (map (added_by (ins t)) (events work at block list))

  module _ (front behind : List ℕ) (long : length front ≡ at) where
    -- one element on a block that holds the cells of the history h
    record Handled (h : History) (block : List ℕ) (x : Element) : Type 0 where
      answer : Answered n t work at x (result_of (call_of work at x) block).answer
      refusal : RefusedWroteNothing (event_of work at block x)
      leaves : Leaves n t w c front behind h x (result_of (call_of work at x) block) (block_after (call_of work at x) block)

    handled : (h : History) (x : Element) → RefusedIfOther x (lent_to (call_of work at x) (around n t w c front behind h)) → Handled h (around n t w c front behind h) x
    handled h (own a) o =
        let k = own-call n t w c front behind h a work same at long in
        record { answer = k.answer; refusal = own-nothing n t work same a _; leaves = k.leaves }
    handled h (other call) o =
        record {
          answer = tt;
          refusal = refused-nothing call _ o;
          leaves = refused_leaves n t w c front behind h call o.number o.place o.nothing;
        }

    -- the calls from a block that holds the cells of the history h
    record LawfulFrom (h : History) (block : List ℕ) (list : List Element) : Type 0 where
      answers : Each (λ e. Answered n t work at e.element e.result.answer) (events work at block list)
      refusals : Each RefusedWroteNothing (events work at block list)
      buffers : Each KeptRest (events work at block list)
      meaning : samples t h ++ written work at block list ≡ samples t (reverse_aux (all_added block list) h)
      reports : clipped_ticks t h + reported work at block list ≡ clipped_ticks t (reverse_aux (all_added block list) h)
      cells : left work at block list ≡ around n t w c front behind (reverse_aux (all_added block list) h)

    lawful_from : (h : History) (block : List ℕ) → block ≡ around n t w c front behind h → (list : List Element) → OthersRefused work at block list → LawfulFrom h block list
    unfolding events left written reported OthersRefused
    lawful_from h block u [] o = record { answers = tt; refusals = tt; buffers = tt; meaning = append-nil (samples t h); reports = add-zero (clipped_ticks t h); cells = u }
    lawful_from h block u (x ∷ list) o =
        let k : Handled h block x = rw u (handled h x (rw u at o.0)) in
        let r = result_of (call_of work at x) block in
        let next : List ℕ = block_after (call_of work at x) block in
        let new : List Tick = ticks_added (ins t) x r.answer in
        let wr : List ℕ = take (counted r.answer) r.outputs in
        let f : LawfulFrom (reverse_aux new h) next list = lawful_from (reverse_aux new h) next k.leaves.cells list o.1 in
        let e = reverse_aux-append new (all_added next list) h in
        record {
          answers = (k.answer, f.answers);
          refusals = (k.refusal, f.refusals);
          buffers = (k.leaves.keeps, f.buffers);
          meaning = sym (append_assoc (samples t h) wr (written work at next list)) ∙ ap (λ xs. xs ++ written work at next list) k.leaves.meaning ∙ f.meaning ∙ ap (samples t) (sym e);
          reports = sym (add_assoc (clipped_ticks t h) (report_of r.answer) (reported work at next list)) ∙ ap (λ k. k + reported work at next list) k.leaves.reports ∙ f.reports ∙ ap (clipped_ticks t) (sym e);
          cells = f.cells ∙ ap (around n t w c front behind) (sym e);
        }

  -- from a block that holds the circuit's cells after the history `past`, over every list of calls whose other calls are refused
  pub law : (past : History) (block : List ℕ) → HoldsPast n t at past block → (list : List Element) → OthersRefused work at block list → Lawful n t work at past block list
  unfolding calls.history
  law past block held list o =
      let N : ℕ = cells_before t n in
      let front : List ℕ = take at block in
      let behind : List ℕ = drop N (drop at block) in
      let u : block ≡ around n t w c front behind past =
      sym (take-append-drop at block)
      ∙ ap (λ xs. front ++ xs) (sym (take-append-drop N (drop at block)) ∙ ap (λ xs. xs ++ behind) (held.cells ∙ sym (walk-right n t w c past).cells)) in
      let long : length front ≡ at = length-take-le at block held.inside in
      let l : LawfulFrom front behind long past block list = lawful_from front behind long past block u list o in
      record {
        answers = l.answers;
        refusals = l.refusals;
        buffers = l.buffers;
        meaning = samples_since t past (all_added block list) (written work at block list) l.meaning;
        reports = l.reports;
        cells = l.cells ∙ ap (λ xs. front ++ (xs ++ behind)) (walk-right n t w c (history n t work at past block list)).cells;
      }
