-- How a composition is worked in a tick: which side runs first, what each side is given, and what becomes of their outputs.
use Rattle.std.specs.Prelude.{ℕ, List, ◌++◌, take, drop}
use Rattle.word.specs.Tick.{Beam}
use Rattle.cells.specs.Cells.{store}
use Rattle.arity.specs.Tree.{Tree, Composition, ins, outs}
use Rattle.arity.specs.Tree.Composition.{sequence, parallel, split, merge, recursion}
use Rattle.signal.specs.Signal.{fill, sums}

-- left before right, except in a recursion
abbrev pub first_side : {A : Type 0} → Composition → A → A → A
first_side sequence l r = l
first_side parallel l r = l
first_side split l r = l
first_side merge l r = l
first_side recursion l r = r

abbrev pub second_side : {A : Type 0} → Composition → A → A → A
second_side sequence l r = r
second_side parallel l r = r
second_side split l r = r
second_side merge l r = r
second_side recursion l r = l

-- the inputs of the first side, from those of the node and from what a recursion feeds back
abbrev pub first_inputs : Composition → Tree → Beam → Beam → Beam
first_inputs sequence l xs fed = xs
first_inputs parallel l xs fed = take (ins l) xs
first_inputs split l xs fed = xs
first_inputs merge l xs fed = xs
first_inputs recursion l xs fed = fed

-- the inputs of the second side, from those of the node and from the outputs of the first side
abbrev pub second_inputs : Composition → Tree → Tree → Beam → Beam → Beam
second_inputs sequence l r xs ys = ys
second_inputs parallel l r xs ys = drop (ins l) xs
second_inputs split l r xs ys = fill (ins r) (outs l) ys
second_inputs merge l r xs ys = sums (outs l) (ins r) ys
second_inputs recursion l r xs ys = ys ++ xs

-- the outputs of the node, from those of both sides
abbrev pub join_outputs : Composition → Beam → Beam → Beam
join_outputs sequence ys zs = zs
join_outputs parallel ys zs = ys ++ zs
join_outputs split ys zs = zs
join_outputs merge ys zs = zs
join_outputs recursion ys zs = zs

-- a recursion keeps its first q outputs in its cells, from a on
abbrev pub kept_cells : Composition → (a q : ℕ) → Beam → List ℕ → List ℕ
kept_cells sequence a q zs cs = cs
kept_cells parallel a q zs cs = cs
kept_cells split a q zs cs = cs
kept_cells merge a q zs cs = cs
kept_cells recursion a q zs cs = store a (take q zs) cs
