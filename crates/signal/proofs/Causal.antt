-- Causality: a tick adds one beam to the outputs, and leaves the earlier ones as they were; each output beam has `outs` numbers.
use Prim.Native.Nat.{ℕ, ◌+◌}
use mathlib.Core.Path.{◌≡◌, refl, sym, ap}
use mathlib.Core.Bool.{Bool, true, false}
use mathlib.Core.List.{List, [], ◌∷◌, ◌++◌, map}
use native.Mathlib.Omega.{arith}
use lib.ListN.{length, take, length-replicate, length-append}
use lib.Seq.{take_all}
use Rattle.word.specs.Choice.{pick}
use Rattle.word.specs.Tick.{Beam, Tick, tick, head_or, tail_of, zeros}
use Rattle.arity.specs.Tree.{Primitive, ins, outs, prim_outs}
use Rattle.arity.specs.Tree.Tree.{leaf, join, ondemand}
use Rattle.arity.specs.Tree.Primitive.{number, control, operation, delay, cable, cut}
use Rattle.arity.specs.Tree.Composition.{sequence, parallel, split, merge, recursion}
use Rattle.signal.specs.Signal.{History, wire, beside, fill, sums, late, demanded, demands, hold, inputs_of, Processor, primitive, signal, loop}
use Rattle.signal.specs.History.{loop_right, loop_left}
use Rattle.signal.specs.Laws.{Causal, AllCausal, AllWide}

module _ (p : Processor) (c : Causal p) (f : Tick) (h : History) where
  pub wire-next : wire (f ∷ h) (p (f ∷ h)) ≡ tick (head_or [] (p (f ∷ h))) f.controls ∷ wire h (p h)
  wire-next = rw (c.next f h)

  pub map_next : (g : Beam → Beam) → wire (f ∷ h) (map g (p (f ∷ h))) ≡ tick (g (head_or [] (p (f ∷ h)))) f.controls ∷ wire h (map g (p h))
  map_next g = rw (c.next f h)

-- a processor of a history that grows by a tick at each tick
module _ (p : Processor) (c : Causal p) where
  pub through : (hs hs' : History) (g : Tick) → hs' ≡ g ∷ hs → p hs' ≡ head_or [] (p hs') ∷ p hs
  through hs hs' g e = rw e (c.next g hs)

pub late-next : (q : ℕ) (ys zs : List Beam) → ys ≡ head_or [] ys ∷ zs → tail_of (late q ys) ≡ late q zs
late-next q ys zs e = rw e

pub beside-next : (ys zs xs : List Beam) (x : Beam) → ys ≡ head_or [] ys ∷ zs → beside ys (x ∷ xs) ≡ (head_or [] ys ++ x) ∷ beside zs xs
beside-next ys zs xs x e = rw e

pub beside_both : (ys zs ys' zs' : List Beam) → ys' ≡ head_or [] ys' ∷ ys → zs' ≡ head_or [] zs' ∷ zs
    → beside ys' zs' ≡ head_or [] (beside ys' zs') ∷ beside ys zs
beside_both ys zs ys' zs' d e = rw (d, e)

pub beside_head : (ys ys' zs' : List Beam) → ys' ≡ head_or [] ys' ∷ ys → head_or [] (beside ys' zs') ≡ head_or [] ys' ++ head_or [] zs'
beside_head ys ys' zs' d = rw d

-- what a recursion is fed at the next tick: the first q of the latest outputs, and zeros before tick 0
pub late-first : (q : ℕ) (ys : List Beam) → head_or [] (late q ys) ≡ take q (head_or (zeros q) ys)
late-first q [] = sym (take_all q (zeros q) (rw length-replicate (omega arith)))
late-first q (y ∷ ys) = refl

pub head_any : (d d' : Beam) (ys zs : List Beam) → ys ≡ head_or [] ys ∷ zs → head_or d ys ≡ head_or d' ys
head_any d d' ys zs e = rw e

module _ (left right : Processor) (q : ℕ) (cl : Causal left) (cr : Causal right) where
  pub loop-left : (h : History) → loop left right q h ≡ left (loop_left left right q h)
  unfolding loop_left
  loop-left [] = sym cl.empty
  loop-left (f ∷ past) = refl

  right-next : (f g : Tick) (p : History)
      → loop left right q (g ∷ p) ≡ head_or [] (loop left right q (g ∷ p)) ∷ loop left right q p
      → loop_right left right q (f ∷ g ∷ p) ≡ tick (head_or [] (late q (loop left right q (g ∷ p)))) f.controls ∷ loop_right left right q (g ∷ p)
  unfolding loop_right
  right-next f g p e = rw (late-next q _ _ e)

  left-next : (f : Tick) (past : History) (g : Tick) → loop_right left right q (f ∷ past) ≡ g ∷ loop_right left right q past
      → loop_left left right q (f ∷ past) ≡ tick (head_or [] (right (loop_right left right q (f ∷ past))) ++ f.inputs) f.controls ∷ loop_left left right q past
  unfolding loop_left
  left-next f past g e = rw (beside-next _ _ (inputs_of past) f.inputs (through right cr _ _ g e))

  loop-step : (f : Tick) (past : History) (g : Tick) → loop_right left right q (f ∷ past) ≡ g ∷ loop_right left right q past
      → loop left right q (f ∷ past) ≡ head_or [] (loop left right q (f ∷ past)) ∷ loop left right q past
  loop-step f past g e = rw (loop-left (f ∷ past), loop-left past) (through left cl _ _ _ (left-next f past g e))

  loop-next : (f : Tick) (past : History) → loop left right q (f ∷ past) ≡ head_or [] (loop left right q (f ∷ past)) ∷ loop left right q past
  loop-next f [] = loop-step f [] (tick (zeros q) f.controls) (unfold loop_right loop in refl)
  loop-next f (g ∷ p) = loop-step f (g ∷ p) _ (right-next f g p (loop-next g p))

  pub loop_causal : Causal (loop left right q)
  unfolding loop
  loop_causal = record { empty = refl; next = loop-next }

  pub loop_right_next : (f : Tick) (past : History)
      → loop_right left right q (f ∷ past) ≡ tick (head_or [] (late q (loop left right q past))) f.controls ∷ loop_right left right q past
  loop_right_next f [] = unfold loop_right loop in refl
  loop_right_next f (g ∷ p) = right-next f g p (loop-next g p)

  pub loop_left_next : (f : Tick) (past : History)
      → loop_left left right q (f ∷ past) ≡ tick (head_or [] (right (loop_right left right q (f ∷ past))) ++ f.inputs) f.controls ∷ loop_left left right q past
  loop_left_next f past = left-next f past _ (loop_right_next f past)

module _ (b : Processor) (c : Causal b) (m : ℕ) where
  hold_by : (f : Tick) (h : History) (d : Bool) → demanded f ≡ d
      → hold m h (pick d (tail_of (b (demands (f ∷ h)))) (b (demands (f ∷ h)))) ≡ hold m h (b (demands h))
  hold_by f h true e = rw e (ap (λ ys. hold m h (tail_of ys)) (c.next (tick (tail_of f.inputs) f.controls) (demands h)))
  hold_by f h false e = rw e

  pub hold-next : (f : Tick) (h : History) → hold m (f ∷ h) (b (demands (f ∷ h))) ≡ head_or (zeros m) (b (demands (f ∷ h))) ∷ hold m h (b (demands h))
  hold-next f h = ap (λ ys. head_or (zeros m) (b (demands (f ∷ h))) ∷ ys) (hold_by f h (demanded f) refl)

pub causal : AllCausal
unfolding signal
causal (leaf i p) = record { empty = refl; next = λ f h. refl }
causal (join i sequence l r) = record { empty = (causal r).empty; next = λ f h. through (signal r) (causal r) _ _ _ (wire-next (signal l) (causal l) f h) }
causal (join i parallel l r) =
    record { empty = rw (causal l).empty; next = λ f h. beside_both _ _ _ _ ((causal l).next _ _) ((causal r).next _ _) }
causal (join i split l r) = record { empty = (causal r).empty; next = λ f h. through (signal r) (causal r) _ _ _ (map_next (signal l) (causal l) f h (fill (ins r) (outs l))) }
causal (join i merge l r) = record { empty = (causal r).empty; next = λ f h. through (signal r) (causal r) _ _ _ (map_next (signal l) (causal l) f h (sums (outs l) (ins r))) }
causal (join i recursion l r) = loop_causal (signal l) (signal r) (ins r) (causal l) (causal r)
causal (ondemand i b) = record { empty = refl; next = hold-next (signal b) (causal b) (outs b) }

-- how wide each output beam is
pub beside-width : (ys zs ys' zs' : List Beam) → ys' ≡ head_or [] ys' ∷ ys → zs' ≡ head_or [] zs' ∷ zs
    → {m n : ℕ} → length (head_or [] ys') ≡ m → length (head_or [] zs') ≡ n → length (head_or [] (beside ys' zs')) ≡ m + n
beside-width ys zs ys' zs' d e v w = rw (d, e, ← v, ← w) (length-append (head_or [] ys') (head_or [] zs'))

primitive-width : (p : Primitive) (f : Tick) (h : History) → length (primitive p f h) ≡ prim_outs p
unfolding primitive
primitive-width (number v) f h = refl
primitive-width (control s) f h = refl
primitive-width (operation o) f h = refl
primitive-width (delay d) f h = refl
primitive-width cable f h = refl
primitive-width cut f h = refl

held-width : (p : Processor) (n : ℕ) → Causal p → ((f : Tick) (h : History) → length (head_or [] (p (f ∷ h))) ≡ n)
    → (h : History) → length (head_or (zeros n) (p h)) ≡ n
held-width p n c w [] = rw c.empty (length-replicate n 0)
held-width p n c w (f ∷ h) = rw (c.next f h) (w f h)

pub width : AllWide
unfolding signal
width (leaf i p) f h = primitive-width p f h
width (join i sequence l r) f h = width r _ _
width (join i parallel l r) f h = beside-width _ _ _ _ ((causal l).next _ _) ((causal r).next _ _) (width l _ _) (width r _ _)
width (join i split l r) f h = width r _ _
width (join i merge l r) f h = width r _ _
width (join i recursion l r) f h = width l _ _
width (ondemand i b) f h = held-width (signal b) (outs b) (causal b) (width b) (demands (f ∷ h))
