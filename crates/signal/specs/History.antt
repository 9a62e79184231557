-- The own history of each node: "an ondemand's body has the demands among the ondemand's own, every other child its parent's".
use Rattle.std.specs.Prelude.{ℕ, ◌≡◌, [], ◌∷◌, map, length, drop, take, eqb}
use Rattle.word.specs.Choice.{pick}
use Rattle.word.specs.Tick.{Tick}
use Rattle.arity.specs.Tree.{Tree, Composition, ins, outs}
use Rattle.arity.specs.Tree.Tree.{leaf, join, ondemand}
use Rattle.arity.specs.Tree.Composition.{sequence, parallel, split, merge, recursion}
use Rattle.arity.specs.Nodes.{has}
use Rattle.signal.specs.Signal.{History, Processor, signal, wire, rewire, beside, inputs_of, fill, sums, late, loop, demands}

-- what the right side and the left side of a recursion are given
unfoldable pub loop_right : Processor → Processor → ℕ → History → History
unfolding loop
loop_right left right q [] = []
loop_right left right q (f ∷ past) = wire (f ∷ past) (late q (loop left right q past))

unfoldable pub loop_left : Processor → Processor → ℕ → History → History
unfolding loop_right
loop_left left right q h = wire h (beside (right (loop_right left right q h)) (inputs_of h))

-- the own history of a composition's left side, and of its right
unfoldable pub left_history : Composition → Tree → Tree → History → History
unfolding signal loop_left ins outs
left_history sequence l r h = h
left_history parallel l r h = rewire (take (ins l)) h
left_history split l r h = h
left_history merge l r h = h
left_history recursion l r h = loop_left (signal l) (signal r) (ins r) h

unfoldable pub right_history : Composition → Tree → Tree → History → History
unfolding signal loop_right ins outs
right_history sequence l r h = wire h (signal l h)
right_history parallel l r h = rewire (drop (ins l)) h
right_history split l r h = wire h (map (fill (ins r) (outs l)) (signal l h))
right_history merge l r h = wire h (map (sums (outs l) (ins r)) (signal l h))
right_history recursion l r h = loop_right (signal l) (signal r) (ins r) h

-- the own history of node j of a tree, along the path to it
unfoldable pub own : Tree → History → ℕ → History
unfolding has left_history right_history
own (leaf i p) h j = h
own (join i c l r) h j = pick (eqb i j) h (pick (has l j) (own l (left_history c l r h) j) (own r (right_history c l r h) j))
own (ondemand i b) h j = pick (eqb i j) h (own b (demands h) j)

-- at the tick f no demand reaches the body of the ondemand i: "a demand reaches a body exactly at its own ticks", and the body has no more after f than before
abbrev pub NoDemand : Tree → ℕ → Tick → History → Type 0
NoDemand t i f h = length (demands (own t (f ∷ h) i)) ≡ length (demands (own t h i))
