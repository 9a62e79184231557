-- A list of calls on one block of cells, each lent a part of it as the last left it.
use Rattle.std.specs.Prelude.{ℕ, ◌+◌, ◌*◌, ◌≡◌, ℤ, length, drop, take, leb}
use mathlib.Core.List.{List, [], ◌∷◌, ◌++◌, map, reverse_aux, flatten}
use Rattle.word.specs.Choice.{pick, ◌and◌}
use Rattle.word.specs.Tick.{Tick, tick, Each}
use Rattle.refusal.specs.Answer.{Answer, count, refused_all}
use Rattle.refusal.specs.Answer.Answer.{counts, refused}
use Rattle.cells.specs.Block.{Ran, unchanged, counted, report_of, ticks_of, block_ok}
use Rattle.signal.specs.Signal.{History}

-- a call of any kind: which part of the block it is lent, its output buffer, and its complete result, whatever the lent cells hold
pub record Call : Type 0 where
  pub from : ℕ
  pub lent : ℕ
  pub outputs : List ℕ
  pub work : List ℕ → Ran

abbrev pub lent_to : Call → List ℕ → List ℕ
lent_to c block = take c.lent (drop c.from block)

abbrev pub result_of : Call → List ℕ → Ran
result_of c block = c.work (lent_to c block)

-- the block after a call: only the lent cells can have changed
abbrev pub block_after : Call → List ℕ → List ℕ
block_after c block = take c.from block ++ ((result_of c block).cells ++ drop c.lent (drop c.from block))

-- a call that these cells are lent to is refused, and has written nothing: they and its output buffer are as they were
pub record Refused (c : Call) (cells : List ℕ) : Type 0 where
  pub number : ℕ
  pub place : ℤ
  pub nothing : c.work cells ≡ unchanged (refused number place) cells c.outputs

-- "A call brings ticks (0 to 4,096), inputs and outputs tick after tick, and 16 control values that hold for the call", and is lent some cells
pub record Arguments : Type 0 where
  pub ticks : ℕ
  pub inputs : List ℕ
  pub controls : List ℕ
  pub outputs : List ℕ
  pub lent : ℕ

-- what works a circuit, as a run of its code or a walk of its table: the complete result, from any arguments and lent cells
abbrev pub Program : Type 0
Program = Arguments → List ℕ → Ran

-- in the list of a circuit: a call of its own program, or any other call
pub data Element : Type 0 where
  own : Arguments → Element
  other : Call → Element

-- an element of the list, the cells that it was lent, and what came of it
pub record Event : Type 0 where
  pub element : Element
  pub given : List ℕ
  pub result : Ran

abbrev pub buffer_of : Element → List ℕ
buffer_of (own a) = a.outputs
buffer_of (other c) = c.outputs

-- "Any other refused calls, runs of other code included, may lie between."
abbrev pub RefusedIfOther : Element → List ℕ → Type 0
RefusedIfOther (own a) cells = Unit {0}
RefusedIfOther (other c) cells = Refused c cells

-- "An accepted one adds its ticks with their inputs and its controls to the history", n inputs to a tick; a refused one "adds no tick"
abbrev pub ticks_added : ℕ → Element → Answer → List Tick
ticks_added n (own a) (counts ks) = ticks_of n a.controls a.ticks a.inputs
ticks_added n (own a) (refused r p) = []
ticks_added n (other c) answer = []

abbrev pub added_by : ℕ → Event → List Tick
added_by n e = ticks_added n e.element e.result.answer

-- the samples that a call wrote
abbrev pub written_by : Event → List ℕ
written_by e = take (counted e.result.answer) e.result.outputs

-- the program's calls are lent cells from `at` on
module _ (work : Program) (at : ℕ) where
  abbrev pub call_of : Element → Call
  call_of (own a) = record { from = at; lent = a.lent; outputs = a.outputs; work = work a }
  call_of (other c) = c

  abbrev pub event_of : List ℕ → Element → Event
  event_of block x = record { element = x; given = lent_to (call_of x) block; result = result_of (call_of x) block }

  unfoldable pub events : List ℕ → List Element → List Event
  events block [] = []
  events block (x ∷ xs) = event_of block x ∷ events (block_after (call_of x) block) xs

  -- the block that the list leaves
  unfoldable pub left : List ℕ → List Element → List ℕ
  left block [] = block
  left block (x ∷ xs) = left (block_after (call_of x) block) xs

  -- the history that goes on from a past with the ticks of the list, n inputs to a tick, the latest tick first; and all that the list wrote, the first sample first
  unfoldable pub history : ℕ → History → List ℕ → List Element → History
  unfolding events flatten
  history n past block xs = reverse_aux (flatten (map (added_by n) (events block xs))) past

  unfoldable pub written : List ℕ → List Element → List ℕ
  unfolding events flatten
  written block xs = flatten (map written_by (events block xs))

  -- the sum of what its calls reported
  unfoldable pub reported : List ℕ → List Element → ℕ
  reported block [] = 0
  reported block (x ∷ xs) = report_of (result_of (call_of x) block).answer + reported (block_after (call_of x) block) xs

  unfoldable pub OthersRefused : List ℕ → List Element → Type 0
  unfolding events
  OthersRefused block xs = Each (λ e. RefusedIfOther e.element e.given) (events block xs)

-- "refused exactly where row 14 or 12 says so", else the count of its samples: the answer, apart from its report, of a circuit with n inputs, m outputs and k cells
unfoldable pub answer_to : (n m k : ℕ) → Arguments → Answer
answer_to n m k a =
    pick (block_ok n a.ticks a.inputs a.controls)
    (pick (leb k a.lent and leb (a.ticks * m) (length a.outputs)) (count (a.ticks * m)) (refused_all 12))
    (refused_all 14)

-- tick j of a call, n inputs to a tick, and the call cut after its first j ticks
abbrev pub tick_of : ℕ → Arguments → ℕ → Tick
tick_of n a j = tick (take n (drop (j * n) a.inputs)) a.controls

abbrev pub first_ticks : ℕ → Arguments → ℕ → Arguments
first_ticks n a j = record { ticks = j; inputs = take (j * n) a.inputs; controls = a.controls; outputs = a.outputs; lent = a.lent }
