-- Two trees that draw the same: inputs, outputs, instructions, cells, meaning and reports are those of their drawing.
use mathlib.Core.Path.{◌≡◌, refl, sym, ap, ap₂, ◌∙◌}
use mathlib.Core.List.{[], ◌∷◌, map}
use Rattle.arity.specs.Tree.{Tree, Composition, ins, outs}
use Rattle.arity.specs.Tree.Tree.{leaf, join, ondemand}
use Rattle.arity.specs.Tree.Composition.{sequence, parallel, split, merge, recursion}
use Rattle.signal.specs.Signal.{History, Processor, samples, demands, wire, fill, sums}
use Rattle.signal.specs.History.{loop_left, loop_right, left_history, right_history}
use Rattle.signal.specs.Clips.{clips, clipped_ticks}
use Rattle.drawing.specs.Drawing.{drawing}
use Rattle.drawing.specs.Laws.{Unnumbered}
use Rattle.drawing.proofs.Numbers.{drawing-ins, drawing-outs, drawing-signal, drawing-size, alike-ins, alike-outs, alike-need, alike-total, alike-signal, alike-fitted}

-- the own histories of the two sides of a composition
drawing-left : (c : Composition) (l r : Tree) (h : History) → left_history c (drawing l) (drawing r) h ≡ left_history c l r h
unfolding left_history
drawing-left sequence l r h = refl
drawing-left parallel l r h = rw (drawing-ins l)
drawing-left split l r h = refl
drawing-left merge l r h = refl
drawing-left recursion l r h =
    ap₂ (λ (p q : Processor). loop_left p q (ins (drawing r)) h) (drawing-signal l) (drawing-signal r) ∙ rw (drawing-ins r)

drawing-right : (c : Composition) (l r : Tree) (h : History) → right_history c (drawing l) (drawing r) h ≡ right_history c l r h
unfolding right_history
drawing-right sequence l r h = ap (λ (p : Processor). wire h (p h)) (drawing-signal l)
drawing-right parallel l r h = rw (drawing-ins l)
drawing-right split l r h =
    ap (λ (p : Processor). wire h (map (fill (ins (drawing r)) (outs (drawing l))) (p h))) (drawing-signal l) ∙ rw (drawing-ins r, drawing-outs l)
drawing-right merge l r h =
    ap (λ (p : Processor). wire h (map (sums (outs (drawing l)) (ins (drawing r))) (p h))) (drawing-signal l) ∙ rw (drawing-ins r, drawing-outs l)
drawing-right recursion l r h =
    ap₂ (λ (p q : Processor). loop_right p q (ins (drawing r)) h) (drawing-signal l) (drawing-signal r) ∙ rw (drawing-ins r)

drawing-clips : (x : Tree) (h : History) → clips (drawing x) h ≡ clips x h
unfolding drawing clips
drawing-clips (leaf i p) [] = refl
drawing-clips (leaf i p) (f ∷ h) = refl
drawing-clips (join i c l r) h =
    rw (drawing-left c l r h, drawing-right c l r h, drawing-clips l (left_history c l r h), drawing-clips r (right_history c l r h))
drawing-clips (ondemand i b) [] = refl
drawing-clips (ondemand i b) (f ∷ h) = rw (drawing-clips b (demands (f ∷ h)))

drawing-clipped : (x : Tree) (h : History) → clipped_ticks (drawing x) h ≡ clipped_ticks x h
unfolding clipped_ticks
drawing-clipped x [] = refl
drawing-clipped x (f ∷ h) = rw (drawing-clips x (f ∷ h), drawing-clipped x h)

pub unnumbered : Unnumbered
unfolding samples
unnumbered x y e = record {
  inputs = alike-ins x y e;
  outputs = alike-outs x y e;
  instructions = alike-need x y e;
  cells = alike-total x y e _ drawing-size;
  fitted = alike-fitted x y e;
  meaning = alike-signal x y e;
  samples = λ h. rw (alike-signal x y e h);
  reports = λ h. sym (drawing-clipped x h) ∙ ap (λ (z : Tree). clipped_ticks z h) e ∙ drawing-clipped y h;
}
