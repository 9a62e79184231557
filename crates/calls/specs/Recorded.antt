-- The law of recordings over a list of walks with the same probes.
use Rattle.std.specs.Prelude.{ℕ, ◌*◌, ◌≤◌, ◌≡◌, ℤ, length, drop, take}
use mathlib.Core.List.{List, [], ◌∷◌, ◌++◌, map, reverse, flatten}
use Rattle.word.specs.Tick.{Each, zeros}
use Rattle.refusal.specs.Answer.{Answer, count}
use Rattle.refusal.specs.Answer.Answer.{refused}
use Rattle.cells.specs.Block.{without_report}
use Rattle.cells.specs.Load.{loaded}
use Rattle.arity.specs.Tree.{Tree, ins, outs}
use Rattle.signal.specs.Signal.{History}
use Rattle.signal.specs.Wire.{Probe, wire_after, watched}
use Rattle.calls.specs.Probed.{probes_of, untouched, probed}
use Rattle.calls.specs.Calls.{Program, events, left}
use Rattle.calls.specs.Law as law
use Rattle.calls.specs.Law.{LawfulThroughout, AcceptedAfter, HoldsPast, cut_after}
use Rattle.calls.specs.ProbedCalls.{ProbedArguments, ProbedElement, ProbedEvent, ProbedProgram, plain, recorded_count, probed_events, block_left, list_left, plainly, recordings, OtherCallsRefused, probed_answer_to, cut_probed}
use Rattle.calls.specs.ProbedCalls.ProbedElement.{own_walk, other_call}

-- "A refusal writes to no lent buffer": cells, outputs, latest values and recording are as they were
abbrev pub NothingIfRefused : ProbedEvent → Type 0
NothingIfRefused e = (x : ℕ) (p : ℤ) → e.result.ran.answer ≡ refused x p
    → e.result ≡ untouched (refused x p) e.cells e.call.outputs e.latest e.call.recording

-- a recording longer than p probes need "keeps its content past the needed part"
abbrev pub KeptRecording : ℕ → ProbedEvent → Type 0
KeptRecording p e =
    let k = recorded_count p e.element e.result.ran.answer in
    drop k e.result.recording ≡ drop k e.call.recording

-- what the meaning gives for the probes at the ticks of h after the first k, "tick by tick, and within a tick in the order named"
unfoldable pub recording_after : ℕ → Tree → List Probe → History → List ℕ
unfolding watched flatten
recording_after k t ps h = flatten (drop k (reverse (watched t ps h)))

-- the list begins with what the wires show after a history
abbrev pub HoldsLatest : Tree → List Probe → History → List ℕ → Type 0
HoldsLatest t ps past list = take (length ps) list ≡ map (wire_after t past) ps

-- "Refusal 15 .. is checked after 14 and before 12": the answer to a walk with the probes xs, apart from its report
abbrev pub ProbedAnswered : ℕ → Tree → List ℕ → ProbedElement → Answer → Type 0
ProbedAnswered n t xs (own_walk a) answer = without_report answer ≡ probed_answer_to n t xs a
ProbedAnswered n t xs (other_call c) answer = Unit {0}

-- the list has the accepted walk a after the calls `before`
pub record AcceptedWalk (n : ℕ) (t : Tree) (xs : List ℕ) (elements before : List ProbedElement) (a : ProbedArguments) : Type 0 where
  pub after : List ProbedElement
  pub stands : elements ≡ before ++ own_walk a ∷ after
  pub accepted : probed_answer_to n t xs a ≡ count (a.walk.ticks * outs t)

-- the circuit t of n nodes, whose program without probes is `walk` and with the probes xs `work`; its cells stand in the block from `at` on, and `past` is the
-- history before the list, which is empty after a load
module _ (n : ℕ) (t : Tree) (xs : List ℕ) (walk : Program) (work : ProbedProgram) (at : ℕ) (past : History) where
  -- that of the same walks without probes
  abbrev pub history : List ℕ → List ℕ → List ProbedElement → History
  history block list elements = law.history n t walk at past block (plainly work at block list elements)

  pub record Recorded (block list : List ℕ) (elements : List ProbedElement) : Type 0 where
    -- each walk is refused exactly where row 14, 15 or 12 says so; an accepted one answers with the count of its samples
    pub answers : Each (λ e. ProbedAnswered n t xs e.element e.result.ran.answer) (probed_events work at block list elements)
    -- a refused call has written nothing, an accepted one nothing past its recording
    pub refusals : Each NothingIfRefused (probed_events work at block list elements)
    pub buffers : Each (KeptRecording (length (probes_of xs))) (probed_events work at block list elements)
    -- "The circuit's own samples are the same with probes or without", and so are answers and cells
    pub same : events walk at block (plainly work at block list elements) ≡ map plain (probed_events work at block list elements)
    pub cells : block_left work at block list elements ≡ left walk at block (plainly work at block list elements)
    -- "the recording must equal, for every probe, what the meaning gives for that wire"
    pub recording : recordings work at (length (probes_of xs)) block list elements ≡ recording_after (length past) t (probes_of xs) (history block list elements)
    -- "The latest values stand from call to call in a lent list, one number a probe"; past them it is as it was
    pub latest : list_left work at block list elements ≡ map (wire_after t (history block list elements)) (probes_of xs) ++ drop (length (probes_of xs)) list

  -- an accepted walk a after the calls `before`, tick by tick
  pub record RecordedByTick (block list : List ℕ) (elements before : List ProbedElement) (a : ProbedArguments) : Type 0 where
    -- without probes it is an accepted walk too, and is cut alike: its histories are those of `LawfulThroughout`
    pub walked : AcceptedAfter n t walk at (plainly work at block list elements) (plainly work at block list before) a.walk
    pub alike : (j : ℕ) → j ≤ a.walk.ticks
        → plainly work at block list (cut_probed (ins t) before a j) ≡ cut_after n t walk at (plainly work at block list before) a.walk j
    pub cut : (j : ℕ) → j ≤ a.walk.ticks → Recorded block list (cut_probed (ins t) before a j)

  -- the whole claim: of the list without probes, of what it records, and of each accepted walk in it, tick by tick
  pub record RecordedThroughout (block list : List ℕ) (elements : List ProbedElement) : Type 0 where
    pub walks : LawfulThroughout n t walk at past block (plainly work at block list elements)
    pub whole : Recorded block list elements
    pub tick_by_tick : (before : List ProbedElement) (a : ProbedArguments) → AcceptedWalk n t xs elements before a → RecordedByTick block list elements before a

-- the program walks the circuit t of n nodes with the probes xs
abbrev pub IsProbedProgramOf : ℕ → Tree → List ℕ → ProbedProgram → Type 0
IsProbedProgramOf n t xs work = (a : ProbedArguments) (cells latest : List ℕ)
    → work a cells latest ≡ probed n t xs a.walk.ticks a.walk.inputs a.walk.controls cells a.walk.outputs latest a.recording

-- the claim from any past, at any place of the block, for every list whose other calls are refused
abbrev pub RecordedFromPast : ℕ → Tree → List ℕ → Program → ProbedProgram → Type 0
RecordedFromPast n t xs walk work = (at : ℕ) (past : History) (block list : List ℕ) → HoldsPast n t at past block → HoldsLatest t (probes_of xs) past list
    → (elements : List ProbedElement) → OtherCallsRefused work at block list elements → RecordedThroughout n t xs walk work at past block list elements

-- the claim after a load that named at least the table's count, d; "the caller sets the list to 0 with each load"
abbrev pub RecordedFromLoad : ℕ → Tree → List ℕ → Program → ProbedProgram → ℕ → Type 0
RecordedFromLoad n t xs walk work d = (named : ℕ) (cells list : List ℕ) → (loaded named cells).answer ≡ count named → d ≤ named
    → take (length (probes_of xs)) list ≡ zeros (length (probes_of xs))
    → (elements : List ProbedElement) → OtherCallsRefused work 0 (loaded named cells).buffer list elements
    → RecordedThroughout n t xs walk work 0 [] (loaded named cells).buffer list elements
