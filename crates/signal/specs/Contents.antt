-- What the cells hold "after a history, from cleared cells".
use Rattle.std.specs.Prelude.{ℕ, zero, suc, ◌%◌, List, [], ◌∷◌, ◌++◌, length, get_or, take, eqb}
use Rattle.word.specs.Choice.{pick}
use Rattle.word.specs.Tick.{head_or, zeros}
use Rattle.arity.specs.Tree.{Tree, ins, outs}
use Rattle.arity.specs.Tree.Tree.{leaf, join, ondemand}
use Rattle.arity.specs.Tree.Primitive.{number, control, operation, delay, cable, cut}
use Rattle.arity.specs.Tree.Composition.{sequence, parallel, split, merge, recursion}
use Rattle.arity.specs.Nodes.{subtree}
use Rattle.signal.specs.Signal.{History, signal, demands}
use Rattle.signal.specs.History.{own}

-- "its first input at the latest own tick whose number modulo D is j"; "where there was no such tick, 0 stands"
unfoldable pub latest : ℕ → ℕ → History → ℕ
latest d j [] = 0
latest d j (f ∷ past) = pick (eqb (length past % d) j) (get_or f.inputs 0 0) (latest d j past)

-- the first n places of a ring of d
unfoldable pub ring : ℕ → ℕ → History → List ℕ
unfolding latest
ring d zero h = []
ring d (suc n) h = ring d n h ++ (latest d n h ∷ [])

-- "a delay with k own ticks so far has position k modulo D", then its ring; "with D = 0 its cell is 0"
unfoldable pub delay_cells : ℕ → History → List ℕ
unfolding ring
delay_cells zero h = 0 ∷ []
delay_cells (suc d) h = length h % suc d ∷ ring (suc d) (suc d) h

-- the cells of the root of a tree after its own history h. "A recursion's cells hold its first q outputs at its latest own tick, an ondemand's its body's
-- outputs at the latest demand."
unfoldable pub contents : Tree → History → List ℕ
unfolding signal ins outs delay_cells
contents (leaf i (number v)) h = []
contents (leaf i (control s)) h = []
contents (leaf i (operation o)) h = []
contents (leaf i (delay d)) h = delay_cells d h
contents (leaf i cable) h = []
contents (leaf i cut) h = []
contents (join i sequence l r) h = []
contents (join i parallel l r) h = []
contents (join i split l r) h = []
contents (join i merge l r) h = []
contents (join i recursion l r) h = take (ins r) (head_or (zeros (ins r)) (signal (join i recursion l r) h))
contents (ondemand i b) h = head_or (zeros (outs b)) (signal b (demands h))

-- the cells of the first n nodes of a circuit after a history of it, node by node
unfoldable pub cells_after : ℕ → Tree → History → List ℕ
unfolding own contents subtree
cells_after zero t h = []
cells_after (suc n) t h = cells_after n t h ++ contents (subtree t n) (own t h n)
