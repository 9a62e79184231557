-- One tick of a circuit, over cells that hold anything: what the walker does, and what the translated code is held to.
use Rattle.std.specs.Prelude.{ℕ, false, List, [], ◌∷◌, get_or}
use Rattle.word.specs.Choice.{◌and◌, ◌or◌, pick}
use Rattle.word.specs.Word.{clipped}
use Rattle.word.specs.Operation.{operate}
use Rattle.word.specs.Tick.{Beam, Tick, tick, Stepped, stepped, tail_of}
use Rattle.cells.specs.Cells.{part, store}
use Rattle.cells.specs.Delay.{delayed, moved}
use Rattle.arity.specs.Tree.{Tree, Composition, ins, outs}
use Rattle.arity.specs.Tree.Tree.{leaf, join, ondemand}
use Rattle.arity.specs.Tree.Primitive.{number, control, operation, delay, cable, cut}
use Rattle.signal.specs.Signal.{demanded}
use Rattle.calls.specs.Wiring.{first_side, second_side, first_inputs, second_inputs, join_outputs, kept_cells}

-- base i is the first cell of node i; what the first side of a composition is given, and what the second, where ys are the outputs of the first
abbrev pub first_tick : (ℕ → ℕ) → ℕ → Composition → Tree → Tree → Tick → List ℕ → Tick
first_tick base i c l r f cs = tick (first_inputs c l f.inputs (part (base i) (ins r) cs)) f.controls

abbrev pub second_tick : Composition → Tree → Tree → Tick → Beam → Tick
second_tick c l r f ys = tick (second_inputs c l r f.inputs ys) f.controls

-- a composition is one side and then the other; a delay in a body without demand is not worked
unfoldable pub step : (ℕ → ℕ) → Tree → Tick → List ℕ → Stepped
unfolding ins outs operate
step base (leaf i (number v)) f cs = stepped (v ∷ []) cs false
step base (leaf i (control s)) f cs = stepped (get_or f.controls s 0 ∷ []) cs false
step base (leaf i (operation o)) f cs = stepped (operate o (get_or f.inputs 0 0) (get_or f.inputs 1 0) (get_or f.inputs 2 0) ∷ []) cs false
step base (leaf i (delay d)) f cs =
    stepped (delayed (base i) d (get_or f.inputs 0 0) (get_or f.inputs 1 0) cs ∷ []) (moved (base i) d (get_or f.inputs 0 0) cs)
    (clipped (get_or f.inputs 1 0) d)
step base (leaf i cable) f cs = stepped (get_or f.inputs 0 0 ∷ []) cs false
step base (leaf i cut) f cs = stepped [] cs false
step base (join i c l r) f cs =
    let a = first_side c (step base l) (step base r) (first_tick base i c l r f cs) cs in
    let b = second_side c (step base l) (step base r) (second_tick c l r f a.outputs) a.cells in
    stepped (join_outputs c a.outputs b.outputs) (kept_cells c (base i) (ins r) b.outputs b.cells)
    (a.clipped or b.clipped)
step base (ondemand i b) f cs =
    let a = step base b (tick (tail_of f.inputs) f.controls) cs in
    let held = pick (demanded f) (store (base i) a.outputs a.cells) cs in
    stepped (part (base i) (outs b) held) held (demanded f and a.clipped)
