-- How many outputs a tick gives.
use Prim.Native.Nat.{ℕ, ◌+◌, ◌-◌, ◌/◌}
use mathlib.Core.Path.{◌≡◌, refl, ap₂, ◌∙◌}
use mathlib.Core.List.{List, ◌++◌}
use native.Mathlib.Omega.{arith}
use lib.ListN.{length, drop, take, length-append, length-drop}
use lib.Seq.{length-take-le}
use Rattle.word.specs.Choice.{pick}
use Rattle.word.specs.Tick.{Tick, tick, tail_of}
use Rattle.cells.specs.Cells.{part, store}
use Rattle.cells.proofs.Parts.{part_length}
use Rattle.arity.specs.Tree.{Tree, ins, outs}
use Rattle.arity.specs.Tree.Tree.{leaf, join, ondemand}
use Rattle.arity.specs.Tree.Primitive.{number, control, operation, delay, cable, cut}
use Rattle.arity.specs.Tree.Composition.{sequence, parallel, split, merge, recursion}
use Rattle.arity.specs.WellFormed.{WellFormed}
use Rattle.arity.proofs.Times.{times_whole}
use Rattle.signal.specs.Signal.{fill, sums, demanded}
use Rattle.signal.proofs.Beams.{length-fill, length-sums}
use Rattle.calls.specs.Step.{step}

pub step-outs : (base : ℕ → ℕ) (t : Tree) (f : Tick) (cs : List ℕ) → WellFormed t → length f.inputs ≡ ins t → length (step base t f cs).outputs ≡ outs t
unfolding step WellFormed
step-outs base (leaf i (number v)) f cs w e = refl
step-outs base (leaf i (control s)) f cs w e = refl
step-outs base (leaf i (operation o)) f cs w e = refl
step-outs base (leaf i (delay d)) f cs w e = refl
step-outs base (leaf i cable) f cs w e = refl
step-outs base (leaf i cut) f cs w e = refl
step-outs base (join i sequence l r) f cs w e =
    let a = step base l f cs in
    step-outs base r (tick a.outputs f.controls) a.cells w.1 (step-outs base l f cs w.0 e ∙ w.2)
step-outs base (join i parallel l r) f cs w e =
    let x = f.inputs in
    let g = tick (take (ins l) x) f.controls in
    let a = step base l g cs in
    let h = tick (drop (ins l) x) f.controls in
    let p : length (take (ins l) x) ≡ ins l = length-take-le (ins l) x (omega arith) in
    let q : length (drop (ins l) x) ≡ ins r = omega (arith, length-drop (ins l) x) in
    length-append a.outputs (step base r h a.cells).outputs ∙ ap₂ ◌+◌ (step-outs base l g cs w.0 p) (step-outs base r h a.cells w.1 q)
step-outs base (join i split l r) f cs w e =
    let a = step base l f cs in
    step-outs base r (tick (fill (ins r) (outs l) a.outputs) f.controls) a.cells w.1
    (length-fill (ins r) (outs l) a.outputs (times_whole (outs l) (ins r) w.2) (step-outs base l f cs w.0 e))
step-outs base (join i merge l r) f cs w e =
    let a = step base l f cs in
    step-outs base r (tick (sums (outs l) (ins r) a.outputs) f.controls) a.cells w.1 (length-sums (ins r) (outs l / ins r - 1) (ins r) 0 a.outputs)
step-outs base (join i recursion l r) f cs w e =
    let g = tick (part (base i) (ins r) cs) f.controls in
    let a = step base r g cs in
    let p : length a.outputs ≡ outs r = step-outs base r g cs w.1 (part_length (base i) (ins r) cs) in
    step-outs base l (tick (a.outputs ++ f.inputs) f.controls) a.cells w.0
    (omega (arith, length-append a.outputs f.inputs))
step-outs base (ondemand i b) f cs w e =
    let a = step base b (tick (tail_of f.inputs) f.controls) cs in
    part_length (base i) (outs b) (pick (demanded f) (store (base i) a.outputs a.cells) cs)
