-- The law of a list of calls, as one claim about the whole list.
use Rattle.std.specs.Prelude.{ℕ, suc, ◌+◌, ◌*◌, ◌≤◌, ◌<◌, ◌≡◌, ◌⊎◌, ℤ, length, drop, take}
use mathlib.Core.List.{List, [], ◌∷◌, ◌++◌, reverse, flatten}
use Rattle.word.specs.Tick.{Beam, Each, head_or, zeros}
use Rattle.refusal.specs.Answer.{Answer, count}
use Rattle.refusal.specs.Answer.Answer.{refused}
use Rattle.cells.specs.Cells.{part}
use Rattle.cells.specs.Block.{unchanged, counted, without_report, called}
use Rattle.arity.specs.Tree.{Tree, ins, outs, size}
use Rattle.arity.specs.Tree.Tree.{ondemand}
use Rattle.arity.specs.Nodes.{Numbered, subtree, cells_before}
use Rattle.signal.specs.Signal.{History, signal, demands}
use Rattle.signal.specs.History.{own as own_history, NoDemand}
use Rattle.signal.specs.Clips.{clipped_ticks}
use Rattle.signal.specs.Contents.{cells_after}
use Rattle.calls.specs.Step.{step}
use Rattle.calls.specs.Calls as calls
use Rattle.calls.specs.Calls.{Arguments, Element, Event, Program, buffer_of, events, left, written, reported, OthersRefused, answer_to, tick_of, first_ticks}
use Rattle.calls.specs.Calls.Element.{own, other}

-- "a refused one .. writes nothing": the cells that it was lent and its output buffer are as they were
abbrev pub RefusedWroteNothing : Event → Type 0
RefusedWroteNothing e = (x : ℕ) (p : ℤ) → e.result.answer ≡ refused x p → e.result ≡ unchanged (refused x p) e.given (buffer_of e.element)

-- "A buffer longer than needed keeps its content past the needed part."
abbrev pub KeptRest : Event → Type 0
KeptRest e = drop (counted e.result.answer) e.result.outputs ≡ drop (counted e.result.answer) (buffer_of e.element)

-- the meaning's samples at the ticks of h after the first k, the first tick first: all of them (`samples`) where k is 0
unfoldable pub samples_after : ℕ → Tree → History → List ℕ
unfolding signal flatten
samples_after k t h = flatten (drop k (reverse (signal t h)))

-- the outputs of the ondemand i of the circuit t, with the body b, at its latest own tick; 0 where there is none
abbrev pub latest_outputs : Tree → ℕ → Tree → History → Beam
latest_outputs t i b h = head_or (zeros (outs b)) (signal (ondemand i b) (own_history t h i))

-- the circuit t of n nodes, whose program is `work`; its cells stand in the block from `at` on
module _ (n : ℕ) (t : Tree) (work : Program) (at : ℕ) where
  -- the answer that the document gives a call of the program, apart from its report
  abbrev pub answer_of : Arguments → Answer
  answer_of a = answer_to (ins t) (outs t) (cells_before t n) a

  abbrev pub Answered : Element → Answer → Type 0
  Answered (own a) answer = without_report answer ≡ answer_of a
  Answered (other c) answer = Unit {0}

  -- the cells of node k after the list
  abbrev pub node_cells : List ℕ → List Element → ℕ → List ℕ
  node_cells block list k = part (at + cells_before t k) (size (subtree t k)) (left work at block list)

  -- a list whose call a comes after the calls `before`, cut after j ticks of a: its last call brings just these
  abbrev pub cut_after : List Element → Arguments → ℕ → List Element
  cut_after before a j = before ++ own (first_ticks (ins t) a j) ∷ []

  -- the list has the accepted call a of the program after the calls `before`
  pub record AcceptedAfter (list before : List Element) (a : Arguments) : Type 0 where
    pub after : List Element
    pub stands : list ≡ before ++ own a ∷ after
    pub accepted : answer_of a ≡ count (a.ticks * outs t)

  -- the history before the list, which is empty after a load
  module _ (past : History) where
    abbrev pub history : List ℕ → List Element → History
    history block list = calls.history work at (ins t) past block list

    pub record Lawful (block : List ℕ) (list : List Element) : Type 0 where
      -- each call of the program "is refused exactly where row 14 or 12 says so"; an accepted one "answers with their count"
      pub answers : Each (λ e. Answered e.element e.result.answer) (events work at block list)
      -- a refused call has written nothing, an accepted one nothing past its samples
      pub refusals : Each RefusedWroteNothing (events work at block list)
      pub buffers : Each KeptRest (events work at block list)
      -- "the samples that its accepted runs wrote are, in order, exactly those of the same meaning over all inputs and controls of these runs"
      pub meaning : written work at block list ≡ samples_after (length past) t (history block list)
      -- E6: what the accepted runs reported adds up "to the meaning's number over all their ticks"; a past, where there is one, has its own
      pub reports : clipped_ticks t past + reported work at block list ≡ clipped_ticks t (history block list)
      -- "each cell then holds exactly what the document gives for it after these ticks"; the cells before and behind those of the circuit are as they were
      pub cells : left work at block list ≡ take at block ++ (cells_after n t (history block list) ++ drop (cells_before t n) (drop at block))

    -- two lists, the second with one tick more, at which no demand reaches the body b of the ondemand i
    pub record Quiet (block : List ℕ) (list more : List Element) (i : ℕ) (b : Tree) : Type 0 where
      -- "none of its cells change": those of each node in it, and the ondemand's own
      pub cells : (k : ℕ) → (i ≡ k) ⊎ Numbered b k → node_cells block more k ≡ node_cells block list k
      -- "the outputs held for it", in the ondemand's cells, "repeat, or are 0 if none has reached it yet"
      pub held : node_cells block list i ≡ latest_outputs t i b (history block list)
      pub repeated : latest_outputs t i b (history block more) ≡ latest_outputs t i b (history block list)
      pub zero : length (demands (own_history t (history block list) i)) ≡ 0 → latest_outputs t i b (history block more) ≡ zeros (outs b)

    -- an accepted call a of the program after the calls `before`, tick by tick
    pub record TickByTick (block : List ℕ) (before : List Element) (a : Arguments) : Type 0 where
      -- "The cells after a tick are those that the list leaves when it is cut after that tick."
      pub cut : (j : ℕ) → j ≤ a.ticks → Lawful block (cut_after before a j)
      -- cut before its first tick the list has the history of the calls before; each tick adds itself; cut after the last tick the call is whole
      pub first : history block (cut_after before a 0) ≡ history block before
      pub next : (j : ℕ) → j < a.ticks → history block (cut_after before a (suc j)) ≡ tick_of (ins t) a j ∷ history block (cut_after before a j)
      pub last : first_ticks (ins t) a a.ticks ≡ a
      -- "At a tick when no demand reaches an on-demand body, .."
      pub quiet : (j : ℕ) → j < a.ticks → (i : ℕ) (b : Tree) → Numbered t i → subtree t i ≡ ondemand i b
          → NoDemand t i (tick_of (ins t) a j) (history block (cut_after before a j))
          → Quiet block (cut_after before a j) (cut_after before a (suc j)) i b

    -- the whole claim: of the list, and of each accepted call of the program in it, tick by tick
    pub record LawfulThroughout (block : List ℕ) (list : List Element) : Type 0 where
      pub whole : Lawful block list
      pub tick_by_tick : (before : List Element) (a : Arguments) → AcceptedAfter list before a → TickByTick block before a

-- the program works the circuit t of n nodes: rows 14 and 12, and its ticks
abbrev pub IsProgramOf : ℕ → Tree → Program → Type 0
IsProgramOf n t work = (a : Arguments) (cells : List ℕ)
    → work a cells ≡ called (step (cells_before t) t) (ins t) (outs t) (cells_before t n) a.ticks a.inputs a.controls cells a.outputs

-- the block holds, from `at` on, the circuit's cells after the history `past`
pub record HoldsPast (n : ℕ) (t : Tree) (at : ℕ) (past : History) (block : List ℕ) : Type 0 where
  pub inside : at ≤ length block
  pub cells : take (cells_before t n) (drop at block) ≡ cells_after n t past

-- the claim from any past, at any place of the block, for every list whose calls of other kinds are refused
abbrev pub LawfulFromPast : ℕ → Tree → Program → Type 0
LawfulFromPast n t work = (at : ℕ) (past : History) (block : List ℕ) → HoldsPast n t at past block
    → (list : List Element) → OthersRefused work at block list → LawfulThroughout n t work at past block list
