-- A list of calls on one block of cells and one list of latest values, each lent a part of both as the last left them.
use Rattle.std.specs.Prelude.{ℕ, ◌*◌, ◌≡◌, ℤ, length, drop, take, leb}
use mathlib.Core.List.{List, [], ◌∷◌, ◌++◌, map, flatten}
use Rattle.word.specs.Choice.{pick, ◌and◌}
use Rattle.word.specs.Tick.{Each}
use Rattle.refusal.specs.Answer.{Answer, count, refused_all}
use Rattle.refusal.specs.Answer.Answer.{counts, refused}
use Rattle.cells.specs.Block.{block_ok}
use Rattle.arity.specs.Tree.{Tree, ins, outs}
use Rattle.arity.specs.Nodes.{cells_before}
use Rattle.calls.specs.Probed.{Probed, probes_of, probes_ok, probed_as, untouched}
use Rattle.calls.specs.Calls.{Call, Arguments, Element, Event, lent_to, block_after, first_ticks}
use Rattle.calls.specs.Calls.Element.{own, other}

-- a call of any kind: which part of the block it is lent, how many numbers of the list, its output buffer and its recording, and its complete result,
-- whatever the lent cells and numbers are
pub record ProbedCall : Type 0 where
  pub from : ℕ
  pub lent : ℕ
  pub kept : ℕ
  pub outputs : List ℕ
  pub recording : List ℕ
  pub work : List ℕ → List ℕ → Probed

-- with these numbers of the list, a call on the cells alone
abbrev pub plain_call : ProbedCall → List ℕ → Call
plain_call c latest = record { from = c.from; lent = c.lent; outputs = c.outputs; work = λ cells. (c.work cells latest).ran }

-- a call on the cells alone is lent nothing of the list, and records nothing
abbrev pub without_probes : Call → ProbedCall
without_probes c = record { from = c.from; lent = c.lent; kept = 0; outputs = c.outputs; recording = []; work = λ cells latest. probed_as (c.work cells) latest [] }

-- a call that these cells and numbers are lent to is refused, and has written nothing: they, its output buffer and its recording are as they were
pub record RefusedProbed (c : ProbedCall) (cells latest : List ℕ) : Type 0 where
  pub number : ℕ
  pub place : ℤ
  pub nothing : c.work cells latest ≡ untouched (refused number place) cells c.outputs latest c.recording

-- what a walk with probes brings: what one without them does, the length of its list of latest values, and its recording
pub record ProbedArguments : Type 0 where
  pub walk : Arguments
  pub kept : ℕ
  pub recording : List ℕ

-- what walks a circuit with probes that stay the same: the complete result, from any arguments, lent cells and latest values
abbrev pub ProbedProgram : Type 0
ProbedProgram = ProbedArguments → List ℕ → List ℕ → Probed

-- in the list: "a walk of the same table with the same probes", or any other call
pub data ProbedElement : Type 0 where
  own_walk : ProbedArguments → ProbedElement
  other_call : ProbedCall → ProbedElement

-- an element of the list as a call, the cells and latest values that it was lent, and what came of it
pub record ProbedEvent : Type 0 where
  pub element : ProbedElement
  pub call : ProbedCall
  pub cells : List ℕ
  pub latest : List ℕ
  pub result : Probed

abbrev pub RefusedIfOtherCall : ProbedEvent → ProbedElement → Type 0
RefusedIfOtherCall e (own_walk a) = Unit {0}
RefusedIfOtherCall e (other_call c) = RefusedProbed c e.cells e.latest

-- without probes: an accepted walk is one of the circuit's program, any other call is one on the cells alone
abbrev pub plain_element : ProbedCall → List ℕ → ProbedElement → Answer → Element
plain_element c latest (own_walk a) (counts ks) = own a.walk
plain_element c latest (own_walk a) (refused r p) = other (plain_call c latest)
plain_element c latest (other_call d) answer = other (plain_call c latest)

abbrev pub plain : ProbedEvent → Event
plain e = record { element = plain_element e.call e.latest e.element e.result.ran.answer; given = e.cells; result = e.result.ran }

-- how many numbers it recorded, with p probes, and these
abbrev pub recorded_count : ℕ → ProbedElement → Answer → ℕ
recorded_count p (own_walk a) (counts ks) = a.walk.ticks * p
recorded_count p (own_walk a) (refused r q) = 0
recorded_count p (other_call c) answer = 0

abbrev pub recorded_by : ℕ → ProbedEvent → List ℕ
recorded_by p e = take (recorded_count p e.element e.result.ran.answer) e.result.recording

-- the program's walks are lent cells from `at` on
module _ (work : ProbedProgram) (at : ℕ) where
  abbrev pub probed_call_of : ProbedElement → ProbedCall
  probed_call_of (own_walk a) =
      record { from = at; lent = a.walk.lent; kept = a.kept; outputs = a.walk.outputs; recording = a.recording; work = work a }
  probed_call_of (other_call c) = c

  abbrev pub event_with : List ℕ → List ℕ → ProbedElement → ProbedEvent
  event_with block list x =
      let c = probed_call_of x in
      let vs = take c.kept list in
      let cs = lent_to (plain_call c vs) block in
      record { element = x; call = c; cells = cs; latest = vs; result = c.work cs vs }

  -- block and list after it: only what was lent can have changed
  abbrev pub block_with : List ℕ → List ℕ → ProbedElement → List ℕ
  block_with block list x = block_after (plain_call (probed_call_of x) (take (probed_call_of x).kept list)) block

  abbrev pub list_with : List ℕ → List ℕ → ProbedElement → List ℕ
  list_with block list x = (event_with block list x).result.latest ++ drop (probed_call_of x).kept list

  unfoldable pub probed_events : List ℕ → List ℕ → List ProbedElement → List ProbedEvent
  probed_events block list [] = []
  probed_events block list (x ∷ xs) = event_with block list x ∷ probed_events (block_with block list x) (list_with block list x) xs

  -- the block and the list that all of them leave
  unfoldable pub block_left : List ℕ → List ℕ → List ProbedElement → List ℕ
  block_left block list [] = block
  block_left block list (x ∷ xs) = block_left (block_with block list x) (list_with block list x) xs

  unfoldable pub list_left : List ℕ → List ℕ → List ProbedElement → List ℕ
  list_left block list [] = list
  list_left block list (x ∷ xs) = list_left (block_with block list x) (list_with block list x) xs

  -- the same list without probes
  unfoldable pub plainly : List ℕ → List ℕ → List ProbedElement → List Element
  unfolding probed_events
  plainly block list xs = map (λ e. (plain e).element) (probed_events block list xs)

  -- all that p probes recorded, the first tick first
  unfoldable pub recordings : ℕ → List ℕ → List ℕ → List ProbedElement → List ℕ
  unfolding probed_events flatten
  recordings p block list xs = flatten (map (recorded_by p) (probed_events block list xs))

  unfoldable pub OtherCallsRefused : List ℕ → List ℕ → List ProbedElement → Type 0
  unfolding probed_events
  OtherCallsRefused block list xs = Each (λ e. RefusedIfOtherCall e e.element) (probed_events block list xs)

-- the answer to a walk with the probes xs, apart from its report: rows 14, 15 and 12, else the count of its samples
unfoldable pub probed_answer_to : ℕ → Tree → List ℕ → ProbedArguments → Answer
probed_answer_to n t xs a =
    let w = a.walk in
    let p = length (probes_of xs) in
    pick (block_ok (ins t) w.ticks w.inputs w.controls)
    (pick (probes_ok n t xs)
    (pick ((leb (cells_before t n) w.lent and leb (w.ticks * outs t) (length w.outputs)) and (leb p a.kept and leb (w.ticks * p) (length a.recording)))
    (count (w.ticks * outs t))
    (refused_all 12)) (refused_all 15)) (refused_all 14)

-- the walk cut after its first j ticks, of n inputs each; and a list whose walk a comes after the calls `before`, cut so: its last walk brings just these ticks
abbrev pub first_probed : ℕ → ProbedArguments → ℕ → ProbedArguments
first_probed n a j = record { walk = first_ticks n a.walk j; kept = a.kept; recording = a.recording }

abbrev pub cut_probed : ℕ → List ProbedElement → ProbedArguments → ℕ → List ProbedElement
cut_probed n before a j = before ++ own_walk (first_probed n a j) ∷ []
