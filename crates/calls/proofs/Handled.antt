-- One call on a block that holds the cells of a circuit: of the circuit's program, or refused.
use Prim.Native.Nat.{ℕ, ◌+◌, ◌*◌, ◌≤◌, min}
use mathlib.Core.Path.{◌≡◌, refl, sym, ap, ap₂, ◌∙◌}
use mathlib.Core.Bool.{Bool, true, false}
use mathlib.Core.List.{List, ◌++◌, reverse_aux, append_assoc, append-nil}
use native.Mathlib.Nat.{add-zero}
use native.Mathlib.Omega.{arith}
use lib.IntN.{ℤ}
use lib.ListN.{length, drop, take, length-append, length-take, take-append-drop}
use lib.Seq.{take-take, take_at, drop_at, drop-append-le}
use lib.Dec.{leb, leb→le, le→leb}
use Rattle.word.specs.Choice.{◌and◌, pick}
use Rattle.word.proofs.Lists.{first-true, same_test, holds}
use Rattle.refusal.specs.Answer.Answer.{refused}
use Rattle.cells.specs.Block.{Ran, unchanged, refusal, counted, report_of, without_report, ticks_of, block_ok, answered, called}
use Rattle.cells.proofs.Calls as cellCalls
use Rattle.arity.specs.Tree.{Tree, ins, outs}
use Rattle.arity.specs.Nodes.{Complete, cells_before}
use Rattle.arity.specs.WellFormed.{WellFormed}
use Rattle.signal.specs.Signal.{History, samples}
use Rattle.signal.specs.Clips.{clipped_ticks}
use Rattle.calls.specs.Step.{step}
use Rattle.calls.specs.Calls.{Arguments, Call, Program, Element, lent_to, result_of, block_after, buffer_of, call_of, ticks_added, answer_to}
use Rattle.calls.specs.Calls.Element.{own, other}
use Rattle.calls.specs.Law.{IsProgramOf}
use Rattle.calls.proofs.Plays.{cells_at, cells-long}
use Rattle.calls.proofs.Walks.{walks, continues}

-- the first k of a list are lent if m are, as far as it goes
pub lent_enough : (k m : ℕ) (xs : List ℕ) → k ≤ length xs → leb k (length (take m xs)) ≡ leb k m
lent_enough k m xs h =
    let l : length (take m xs) ≡ min m (length xs) = length-take m xs in
    same_test (leb k (length (take m xs))) (leb k m)
    (λ g. let u = leb→le k (length (take m xs)) g in le→leb k m (omega arith))
    (λ g. let u = leb→le k m g in le→leb k (length (take m xs)) (omega arith))

module _ (n : ℕ) (t : Tree) (w : WellFormed t) (c : Complete n t) (front behind : List ℕ) where
  -- the circuit's cells after a history, with those before and behind them
  abbrev pub around : History → List ℕ
  around h = front ++ (cells_at n t w c h ++ behind)

  -- what a call leaves after the history h: its buffer past what it wrote, the samples and the reports so far, and the block
  pub record Leaves (h : History) (x : Element) (r : Ran) (block : List ℕ) : Type 0 where
    pub keeps : drop (counted r.answer) r.outputs ≡ drop (counted r.answer) (buffer_of x)
    pub meaning : samples t h ++ take (counted r.answer) r.outputs ≡ samples t (reverse_aux (ticks_added (ins t) x r.answer) h)
    pub reports : clipped_ticks t h + report_of r.answer ≡ clipped_ticks t (reverse_aux (ticks_added (ins t) x r.answer) h)
    pub cells : block ≡ around (reverse_aux (ticks_added (ins t) x r.answer) h)

  -- a refused call, lent whatever part of the block
  pub refused_leaves : (h : History) (call : Call) (x : ℕ) (p : ℤ) → result_of call (around h) ≡ unchanged (refused x p) (lent_to call (around h)) call.outputs
      → Leaves h (other call) (result_of call (around h)) (block_after call (around h))
  refused_leaves h call x p e =
      let b : List ℕ = around h in
      rw e
      (record {
        keeps = refl;
        meaning = append-nil (samples t h);
        reports = add-zero (clipped_ticks t h);
        cells = ap (λ xs. take call.from b ++ xs) (take-append-drop call.lent (drop call.from b)) ∙ take-append-drop call.from b;
      })

  module _ (h : History) (a : Arguments) where
    abbrev N : ℕ
    N = cells_before t n

    -- the block from the circuit's cells on, and what the call is lent of it
    abbrev tail : List ℕ
    tail = cells_at n t w c h ++ behind

    abbrev given : List ℕ
    given = take a.lent tail

    -- enough is lent if the circuit's cells are
    room : leb N (length given) ≡ leb N a.lent
    room = lent_enough N a.lent tail (omega (arith, length-append (cells_at n t w c h) behind, cells-long n t w c h))

    abbrev run : Ran
    run = walks n t a.ticks a.inputs a.controls given a.outputs

    abbrev no : ℕ → Ran
    no x = refusal x given a.outputs

    abbrev after : Ran → List ℕ
    after r = front ++ (r.cells ++ drop a.lent tail)

    accepted_leaves : N ≤ a.lent → Leaves h (own a) run (after run)
    unfolding answered
    accepted_leaves enough =
        let cs : List ℕ = cells_at n t w c h in
        let long : length cs ≡ N = cells-long n t w c h in
        let k = continues n t w c h a.ticks a.inputs a.controls given a.outputs (take-take N a.lent tail enough ∙ take_at cs behind N long) in
        let new : List ℕ = cells_at n t w c (reverse_aux (ticks_of (ins t) a.controls a.ticks a.inputs) h) in
        let m : N ≤ length given = leb→le N _ (rw room (le→leb N a.lent enough)) in
        let rest : drop N given ++ drop a.lent tail ≡ behind =
        sym (drop-append-le N given (drop a.lent tail) m) ∙ ap (drop N) (take-append-drop a.lent tail) ∙ drop_at cs behind N long in
        record {
          keeps = k.keeps;
          meaning = k.meaning;
          reports = k.reports;
          cells = ap (λ xs. front ++ (xs ++ drop a.lent tail)) k.cells-after
              ∙ ap (λ xs. front ++ xs) (append_assoc new (drop N given) (drop a.lent tail) ∙ ap (λ xs. new ++ xs) rest);
        }

    no_leaves : (x : ℕ) → Leaves h (own a) (no x) (after (no x))
    no_leaves x =
        record {
          keeps = refl;
          meaning = append-nil (samples t h);
          reports = add-zero (clipped_ticks t h);
          cells = ap (λ xs. front ++ xs) (take-append-drop a.lent tail);
        }

    -- any call of the program: its answer, and what it leaves
    pub record Handles (r : Ran) (block : List ℕ) : Type 0 where
      pub answer : without_report r.answer ≡ answer_to (ins t) (outs t) (cells_before t n) a
      pub leaves : Leaves h (own a) r block

    -- the two tests of rows 14 and 12
    abbrev block_test : Bool
    block_test = block_ok (ins t) a.ticks a.inputs a.controls

    abbrev room_test : Bool
    room_test = leb N a.lent and leb (a.ticks * outs t) (length a.outputs)

    abbrev tested : Bool → Bool → Ran
    tested x y = pick x (pick y run (no 12)) (no 14)

    by_tests : (x y : Bool) → block_test ≡ x → room_test ≡ y → Handles (tested x y) (after (tested x y))
    unfolding answered answer_to
    by_tests true true p q = record { answer = rw (p, q); leaves = accepted_leaves (leb→le N a.lent (holds _ (first-true (leb N a.lent) _ q))) }
    by_tests true false p q = record { answer = rw (p, q); leaves = no_leaves 12 }
    by_tests false y p q = record { answer = rw p; leaves = no_leaves 14 }

    module _ (work : Program) (same : IsProgramOf n t work) (at : ℕ) (long : length front ≡ at) where
      abbrev call : Call
      call = call_of work at (own a)

      lent-from : lent_to call (around h) ≡ given
      lent-from = ap (take a.lent) (drop_at front tail at long)

      tests : result_of call (around h) ≡ tested block_test room_test
      unfolding called
      tests = ap (work a) lent-from ∙ same a given ∙ rw room

      after-own : block_after call (around h) ≡ after (result_of call (around h))
      after-own = ap₂ {C = List ℕ} (λ x y. x ++ ((result_of call (around h)).cells ++ drop a.lent y)) (take_at front tail at long) (drop_at front tail at long)

      pub own-call : Handles (result_of call (around h)) (block_after call (around h))
      own-call = rw (after-own, tests) (by_tests block_test room_test refl refl)

-- a refused call of the program
pub own-nothing : (n : ℕ) (t : Tree) (work : Program) → IsProgramOf n t work → (a : Arguments) (cells : List ℕ) (x : ℕ) (p : ℤ)
    → (work a cells).answer ≡ refused x p → work a cells ≡ unchanged (refused x p) cells a.outputs
own-nothing n t work same a cells x p =
    rw (same a cells) (cellCalls.refused-nothing (step (cells_before t) t) (ins t) (outs t) (cells_before t n) a.ticks a.inputs a.controls cells a.outputs x p)
