-- What does not turn on the numbers of the nodes: inputs, outputs, cells, instructions, arities and the meaning.
use Prim.Native.Nat.{ℕ, suc, ◌+◌, ◌-◌, ◌*◌, ◌≤◌}
use mathlib.Core.Path.{◌≡◌, refl, sym, ap, ap₂, ◌∙◌, subst, subst₂}
use mathlib.Core.List.{map}
use native.Mathlib.Omega.{arith}
use lib.ListN.{take, drop}
use Rattle.arity.specs.Tree.{Tree, Composition, ins, outs, size, need}
use Rattle.arity.specs.Tree.Tree.{leaf, join, ondemand}
use Rattle.arity.specs.Tree.Primitive.{number, control, operation, delay, cable, cut}
use Rattle.arity.specs.Tree.Composition.{sequence, parallel, split, merge, recursion}
use Rattle.arity.specs.Rules.{Arity}
use Rattle.arity.specs.WellFormed.{Fits, Ruled}
use Rattle.arity.specs.Formed.{Counted, FeedsBack, Fitted}
use Rattle.arity.proofs.Exact.{exact}
use Rattle.signal.specs.Signal.{History, Processor, signal, loop, hold, demands, wire, rewire, beside, fill, sums}
use Rattle.drawing.specs.Drawing.{drawing, Alike, total}

-- of the drawing, what there is of the tree
pub drawing-outs : (x : Tree) → outs (drawing x) ≡ outs x
unfolding drawing outs
drawing-outs (leaf i p) = refl
drawing-outs (join i sequence l r) = drawing-outs r
drawing-outs (join i parallel l r) = ap₂ ◌+◌ (drawing-outs l) (drawing-outs r)
drawing-outs (join i split l r) = drawing-outs r
drawing-outs (join i merge l r) = drawing-outs r
drawing-outs (join i recursion l r) = drawing-outs l
drawing-outs (ondemand i b) = drawing-outs b

pub drawing-ins : (x : Tree) → ins (drawing x) ≡ ins x
unfolding drawing ins
drawing-ins (leaf i p) = refl
drawing-ins (join i sequence l r) = drawing-ins l
drawing-ins (join i parallel l r) = ap₂ ◌+◌ (drawing-ins l) (drawing-ins r)
drawing-ins (join i split l r) = drawing-ins l
drawing-ins (join i merge l r) = drawing-ins l
drawing-ins (join i recursion l r) = ap₂ ◌-◌ (drawing-ins l) (drawing-outs r)
drawing-ins (ondemand i b) = ap suc (drawing-ins b)

pub drawing-size : (x : Tree) → size (drawing x) ≡ size x
unfolding drawing size
drawing-size (leaf i (number v)) = refl
drawing-size (leaf i (control s)) = refl
drawing-size (leaf i (operation o)) = refl
drawing-size (leaf i (delay d)) = refl
drawing-size (leaf i cable) = refl
drawing-size (leaf i cut) = refl
drawing-size (join i sequence l r) = refl
drawing-size (join i parallel l r) = refl
drawing-size (join i split l r) = refl
drawing-size (join i merge l r) = refl
drawing-size (join i recursion l r) = drawing-ins r
drawing-size (ondemand i b) = drawing-outs b

pub drawing-need : (x : Tree) → need (drawing x) ≡ need x
unfolding drawing need
drawing-need (leaf i (number v)) = refl
drawing-need (leaf i (control s)) = refl
drawing-need (leaf i (operation o)) = refl
drawing-need (leaf i (delay d)) = refl
drawing-need (leaf i cable) = refl
drawing-need (leaf i cut) = refl
drawing-need (join i sequence l r) = ap₂ ◌+◌ (drawing-need l) (drawing-need r)
drawing-need (join i parallel l r) = ap₂ ◌+◌ (drawing-need l) (drawing-need r)
drawing-need (join i split l r) = ap₂ ◌+◌ (drawing-need l) (drawing-need r)
drawing-need (join i merge l r) = ap₂ ◌+◌ (ap₂ ◌+◌ (drawing-need l) (drawing-need r)) (ap₂ ◌-◌ (drawing-outs l) (drawing-ins r))
drawing-need (join i recursion l r) = ap₂ ◌+◌ (ap₂ ◌+◌ (drawing-need l) (drawing-need r)) (ap (λ (n : ℕ). 2 * n) (drawing-ins r))
drawing-need (ondemand i b) = ap₂ ◌+◌ (drawing-need b) (ap (λ (n : ℕ). 1 + 2 * n) (drawing-outs b))

-- the sum over the nodes of what does not turn on numbers
pub drawing-total : (f : Tree → ℕ) → ((x : Tree) → f (drawing x) ≡ f x) → (x : Tree) → total f (drawing x) ≡ total f x
unfolding drawing total
drawing-total f e (leaf i p) = e (leaf i p)
drawing-total f e (join i c l r) = ap₂ ◌+◌ (e (join i c l r)) (ap₂ ◌+◌ (drawing-total f e l) (drawing-total f e r))
drawing-total f e (ondemand i b) = ap₂ ◌+◌ (e (ondemand i b)) (drawing-total f e b)

fits-alike : (c : Composition) (l r l' r' : Tree) → ins l ≡ ins l' → outs l ≡ outs l' → ins r ≡ ins r' → outs r ≡ outs r' → Fits c l r → Fits c l' r'
fits-alike sequence l r l' r' a b c d f = sym b ∙ f ∙ c
fits-alike parallel l r l' r' a b c d f = tt
fits-alike split l r l' r' a b c d f = (f.0, f.1, ap (λ (z : ℕ). f.0 * z) (sym b) ∙ f.2 ∙ c)
fits-alike merge l r l' r' a b c d f = (f.0, f.1, ap (λ (z : ℕ). f.0 * z) (sym c) ∙ f.2 ∙ b)
fits-alike recursion l r l' r' a b c d f = (subst₂ ◌≤◌ c b f.0, subst₂ ◌≤◌ d a f.1)

fits-drawing : (c : Composition) (l r : Tree) → Fits c l r → Fits c (drawing l) (drawing r)
fits-drawing c l r = fits-alike c l r _ _ (sym (drawing-ins l)) (sym (drawing-outs l)) (sym (drawing-ins r)) (sym (drawing-outs r))

drawing-fits : (c : Composition) (l r : Tree) → Fits c (drawing l) (drawing r) → Fits c l r
drawing-fits c l r = fits-alike c _ _ l r (drawing-ins l) (drawing-outs l) (drawing-ins r) (drawing-outs r)

ruled_drawing : (x : Tree) → Ruled x → Ruled (drawing x)
unfolding drawing Ruled
ruled_drawing (leaf i p) w = tt
ruled_drawing (join i c l r) w = (ruled_drawing l w.0, ruled_drawing r w.1, fits-drawing c l r w.2)
ruled_drawing (ondemand i b) w = ruled_drawing b w

drawing_ruled : (x : Tree) → Ruled (drawing x) → Ruled x
unfolding drawing Ruled
drawing_ruled (leaf i p) w = tt
drawing_ruled (join i c l r) w = (drawing_ruled l w.0, drawing_ruled r w.1, drawing-fits c l r w.2)
drawing_ruled (ondemand i b) w = drawing_ruled b w

-- the meaning of a drawing is that of the tree
pub drawing-signal : (x : Tree) → signal (drawing x) ≡ signal x
unfolding drawing signal
drawing-signal (leaf i p) = refl
drawing-signal (join i sequence l r) = ap₂ {C = Processor} (λ (p q : Processor) h. q (wire h (p h))) (drawing-signal l) (drawing-signal r)
drawing-signal (join i parallel l r) =
    ap₂ {C = Processor} (λ (p q : Processor) h. beside (p (rewire (take (ins (drawing l))) h)) (q (rewire (drop (ins (drawing l))) h))) (drawing-signal l) (drawing-signal r)
    ∙ ap {B = Processor} (λ (n : ℕ) h. beside (signal l (rewire (take n) h)) (signal r (rewire (drop n) h))) (drawing-ins l)
drawing-signal (join i split l r) =
    ap₂ {C = Processor} (λ (p q : Processor) h. q (wire h (map (fill (ins (drawing r)) (outs (drawing l))) (p h)))) (drawing-signal l) (drawing-signal r)
    ∙ ap₂ {C = Processor} (λ (m n : ℕ) h. signal r (wire h (map (fill m n) (signal l h)))) (drawing-ins r) (drawing-outs l)
drawing-signal (join i merge l r) =
    ap₂ {C = Processor} (λ (p q : Processor) h. q (wire h (map (sums (outs (drawing l)) (ins (drawing r))) (p h)))) (drawing-signal l) (drawing-signal r)
    ∙ ap₂ {C = Processor} (λ (m n : ℕ) h. signal r (wire h (map (sums n m) (signal l h)))) (drawing-ins r) (drawing-outs l)
drawing-signal (join i recursion l r) =
    ap₂ {C = Processor} (λ (p q : Processor) h. loop p q (ins (drawing r)) h) (drawing-signal l) (drawing-signal r)
    ∙ ap {B = Processor} (λ (n : ℕ) h. loop (signal l) (signal r) n h) (drawing-ins r)
drawing-signal (ondemand i b) =
    ap {B = Processor} (λ (p : Processor) h. hold (outs (drawing b)) h (p (demands h))) (drawing-signal b)
    ∙ ap {B = Processor} (λ (n : ℕ) h. hold n h (signal b (demands h))) (drawing-outs b)

-- two trees that draw the same
module _ (x y : Tree) (e : Alike x y) where
  pub alike-ins : ins x ≡ ins y
  alike-ins = sym (drawing-ins x) ∙ ap ins e ∙ drawing-ins y

  pub alike-outs : outs x ≡ outs y
  alike-outs = sym (drawing-outs x) ∙ ap outs e ∙ drawing-outs y

  pub alike-need : need x ≡ need y
  alike-need = sym (drawing-need x) ∙ ap need e ∙ drawing-need y

  pub alike-total : (f : Tree → ℕ) → ((x : Tree) → f (drawing x) ≡ f x) → total f x ≡ total f y
  alike-total f g = sym (drawing-total f g x) ∙ ap (total f) e ∙ drawing-total f g y

  pub alike-signal : (h : History) → signal x h ≡ signal y h
  alike-signal h = ap (λ (p : Processor). p h) (sym (drawing-signal x) ∙ ap signal e ∙ drawing-signal y)

  pub alike-arity : (a b : ℕ) → Arity x a b → Arity y a b
  alike-arity a b p =
      let (u, m, n) = (exact x a b).0 p in
      (exact y a b).1 (drawing_ruled y (subst Ruled e (ruled_drawing x u)), m ∙ alike-ins, n ∙ alike-outs)

  alike-counted : Counted x → Counted y
  alike-counted (a, b, p, m, n) = (a, b, alike-arity a b p, m, n)

-- a tree that draws a recursion is one
alike_feeds : (x y : Tree) → Alike x y → FeedsBack x → FeedsBack y
unfolding drawing
alike_feeds (leaf i p) y e f j a b q r =
    let g : leaf 0 p ≡ join 0 recursion (drawing a) (drawing b) = e ∙ ap drawing q in
    let z : ◌≡◌ {A = ℕ} 0 1 = cc g in
    omega arith
alike_feeds (join i c v w) y e f j a b q r =
    let g : join 0 c (drawing v) (drawing w) ≡ join 0 recursion (drawing a) (drawing b) = e ∙ ap drawing q in
    let k : c ≡ recursion = cc g in
    let d : Alike b w = sym (cc g) in
    f i v w (ap (λ (m : Composition). join i m v w) k) (alike-arity b w d 0 0 r)
alike_feeds (ondemand i v) y e f j a b q r =
    let g : ondemand 0 (drawing v) ≡ join 0 recursion (drawing a) (drawing b) = e ∙ ap drawing q in
    let z : ◌≡◌ {A = ℕ} 0 1 = cc g in
    omega arith

pub alike-fitted : (x y : Tree) → Alike x y → Fitted x → Fitted y
alike-fitted x y e (c, f) = (alike-counted x y e c, alike_feeds x y e f)
