-- A list of calls with probes, and the same list without them: the same events, and the same block is left.
use Prim.Native.Nat.{ℕ}
use mathlib.Core.Path.{◌≡◌, refl, sym, ap, ap₂, ◌∙◌}
use mathlib.Core.List.{List, [], ◌∷◌, ◌++◌, map}
use native.Mathlib.Omega.{arith}
use lib.IntN.{ℤ}
use lib.ListN.{drop, take}
use Rattle.word.specs.Tick.{Each}
use Rattle.word.proofs.Each.{each_map}
use Rattle.refusal.specs.Answer.{Answer}
use Rattle.refusal.specs.Answer.Answer.{counts, refused}
use Rattle.cells.specs.Block.{Ran, answered}
use Rattle.arity.specs.Tree.{Tree}
use Rattle.calls.specs.Probed.{Probed, probed_as, untouched, watches}
use Rattle.calls.specs.Calls.{Call, Refused, Event, Program, RefusedIfOther, block_after, call_of, event_of, events, left, OthersRefused}
use Rattle.calls.specs.Calls.Element.{own}
use Rattle.calls.specs.Law.{IsProgramOf}
use Rattle.calls.specs.ProbedCalls.{ProbedCall, ProbedArguments, ProbedProgram, ProbedElement, ProbedEvent, RefusedProbed, RefusedIfOtherCall, without_probes, plain_call, plain_element, plain, probed_call_of, event_with, block_with, list_with, probed_events, block_left, plainly, OtherCallsRefused}
use Rattle.calls.specs.ProbedCalls.ProbedElement.{own_walk, other_call}
use Rattle.calls.specs.Recorded.{NothingIfRefused, IsProbedProgramOf}
use Rattle.calls.proofs.SameWalk.{End, end, watched, refuses, same_where_accepted}

-- a call that is refused is refused by its answer
refused_by_answer : (c : ProbedCall) (cells latest : List ℕ) → RefusedProbed c cells latest → (x : ℕ) (p : ℤ) → (c.work cells latest).ran.answer ≡ refused x p
    → c.work cells latest ≡ untouched (refused x p) cells c.outputs latest c.recording
refused_by_answer c cells latest r x p e =
    r.nothing ∙ ap (λ z. untouched z cells c.outputs latest c.recording) (sym (ap (λ (y : Probed). y.ran.answer) r.nothing) ∙ e)

module _ (n : ℕ) (t : Tree) (xs : List ℕ) (work : ProbedProgram) (is-work : IsProbedProgramOf n t xs work) where
  -- how a walk with probes ends
  pub walk_end : (a : ProbedArguments) (cells latest : List ℕ)
      → End n t xs a.walk.ticks a.walk.inputs a.walk.controls cells a.walk.outputs latest a.recording (work a cells latest)
  walk_end a cells latest = rw (is-work a cells latest) (end n t xs a.walk.ticks a.walk.inputs a.walk.controls cells a.walk.outputs latest a.recording)

  pub walk_refused : (a : ProbedArguments) (cells latest : List ℕ) (x : ℕ) (p : ℤ) → (work a cells latest).ran.answer ≡ refused x p
      → work a cells latest ≡ untouched (refused x p) cells a.walk.outputs latest a.recording
  unfolding watches answered
  walk_refused a cells latest x p = go (walk_end a cells latest)
    where
      go : {r : Probed} → End n t xs a.walk.ticks a.walk.inputs a.walk.controls cells a.walk.outputs latest a.recording r
          → r.ran.answer ≡ refused x p → r ≡ untouched (refused x p) cells a.walk.outputs latest a.recording
      go (watched b d e f) g = absurd (let z : ◌≡◌ {A = ℕ} 0 1 = cc in omega arith)
      go (refuses y) g = ap (λ z. untouched z cells a.walk.outputs latest a.recording) g

-- what may lie between: any refused call on the cells alone
pub refused-plain : (c : Call) (cells latest : List ℕ) → Refused c cells → RefusedProbed (without_probes c) cells latest
refused-plain c cells latest r = record { number = r.number; place = r.place; nothing = ap (λ y. probed_as y latest []) r.nothing }

module _ (n : ℕ) (t : Tree) (xs : List ℕ) (walk : Program) (is-walk : IsProgramOf n t walk) (work : ProbedProgram) (is-work : IsProbedProgramOf n t xs work) where
  walk_same : (a : ProbedArguments) (cells latest ks : List ℕ) → (work a cells latest).ran.answer ≡ counts ks → walk a.walk cells ≡ (work a cells latest).ran
  walk_same a cells latest ks e =
      is-walk a.walk cells
      ∙ sym (ap (λ (r : Probed). r.ran) (is-work a cells latest)
      ∙ same_where_accepted n t xs a.walk.ticks a.walk.inputs a.walk.controls cells a.walk.outputs latest a.recording ks (rw (is-work a cells latest) at e))

  module _ (at : ℕ) where
    -- a call answered with y, and the same without probes
    record Alike (block : List ℕ) (e : ProbedEvent) (y : Answer) : Type 0 where
      event : event_of walk at block (plain_element e.call e.latest e.element y)
          ≡ record { element = plain_element e.call e.latest e.element y; given = e.cells; result = e.result.ran }
      next : block_after (call_of walk at (plain_element e.call e.latest e.element y)) block ≡ block_after (plain_call e.call e.latest) block

    own-alike : (block list : List ℕ) (a : ProbedArguments) (y : Answer) → (event_with work at block list (own_walk a)).result.ran.answer ≡ y
        → Alike block (event_with work at block list (own_walk a)) y
    own-alike block list a (counts ks) e =
        let tail : List ℕ = drop at block in
        let cells : List ℕ = take a.walk.lent tail in
        let r : walk a.walk cells ≡ (work a cells (take a.kept list)).ran = walk_same a cells (take a.kept list) ks e in
        record {
          event = ap (λ (r : Ran). record { element = own a.walk; given = cells; result = r }) r;
          next = ap (λ (r : Ran). take at block ++ (r.cells ++ drop a.walk.lent tail)) r;
        }
    own-alike block list a (refused x p) e = record { event = refl; next = refl }

    alike : (block list : List ℕ) (x : ProbedElement) → Alike block (event_with work at block list x) (event_with work at block list x).result.ran.answer
    alike block list (own_walk a) = own-alike block list a (event_with work at block list (own_walk a)).result.ran.answer refl
    alike block list (other_call c) = record { event = refl; next = refl }

    pub same-events : (block list : List ℕ) (elements : List ProbedElement)
        → events walk at block (plainly work at block list elements) ≡ map plain (probed_events work at block list elements)
    unfolding plainly probed_events events
    same-events block list [] = refl
    same-events block list (x ∷ elements) =
        let k = alike block list x in
        ap₂ {C = List Event} (λ e es. e ∷ es) k.event (rw k.next (same-events (block_with work at block list x) (list_with work at block list x) elements))

    pub same_block : (block list : List ℕ) (elements : List ProbedElement)
        → block_left work at block list elements ≡ left walk at block (plainly work at block list elements)
    unfolding plainly probed_events block_left left
    same_block block list [] = refl
    same_block block list (x ∷ elements) =
        let block' : List ℕ = block_with work at block list x in
        let list' : List ℕ = list_with work at block list x in
        same_block block' list' elements ∙ ap (λ b. left walk at b (plainly work at block' list' elements)) (sym (alike block list x).next)

    -- "A refusal writes to no lent buffer."
    refused-nothing : (block list : List ℕ) (x : ProbedElement) → RefusedIfOtherCall (event_with work at block list x) x → NothingIfRefused (event_with work at block list x)
    refused-nothing block list (own_walk a) o = walk_refused n t xs work is-work a _ _
    refused-nothing block list (other_call c) o = refused_by_answer c _ _ o

    pub refusals : (block list : List ℕ) (elements : List ProbedElement) → OtherCallsRefused work at block list elements
        → Each NothingIfRefused (probed_events work at block list elements)
    unfolding OtherCallsRefused probed_events
    refusals block list [] o = tt
    refusals block list (x ∷ elements) o =
        (refused-nothing block list x o.0, refusals (block_with work at block list x) (list_with work at block list x) elements o.1)

    -- what is refused with probes is refused without them
    own-refused : (block list : List ℕ) (a : ProbedArguments) (y : Answer) → (event_with work at block list (own_walk a)).result.ran.answer ≡ y
        → RefusedIfOther (plain_element (probed_call_of work at (own_walk a)) (take a.kept list) (own_walk a) y) (event_with work at block list (own_walk a)).cells
    own-refused block list a (counts ks) e = tt
    own-refused block list a (refused x p) e = record { number = x; place = p; nothing = ap (λ (r : Probed). r.ran) (walk_refused n t xs work is-work a _ _ x p e) }

    pub plain-refused : (block list : List ℕ) (x : ProbedElement) → RefusedIfOtherCall (event_with work at block list x) x
        → RefusedIfOther (plain (event_with work at block list x)).element (event_with work at block list x).cells
    plain-refused block list (own_walk a) o = own-refused block list a _ refl
    plain-refused block list (other_call c) o = record { number = o.number; place = o.place; nothing = ap (λ (r : Probed). r.ran) o.nothing }

    all-refused : (block list : List ℕ) (elements : List ProbedElement) → OtherCallsRefused work at block list elements
        → Each (λ e. RefusedIfOther (plain e).element e.cells) (probed_events work at block list elements)
    unfolding OtherCallsRefused probed_events
    all-refused block list [] o = tt
    all-refused block list (x ∷ elements) o =
        (plain-refused block list x o.0, all-refused (block_with work at block list x) (list_with work at block list x) elements o.1)

    pub others_refused : (block list : List ℕ) (elements : List ProbedElement) → OtherCallsRefused work at block list elements
        → OthersRefused walk at block (plainly work at block list elements)
    unfolding OthersRefused
    others_refused block list elements o =
        rw (same-events block list elements)
        (each_map (λ e. RefusedIfOther (plain e).element e.cells) (λ e. RefusedIfOther e.element e.given) plain (λ e r. r) (probed_events work at block list elements) (all-refused block list elements o))
