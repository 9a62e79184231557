-- Probes of a composition, from those of its sides: a side that does not have the probe's node leaves it alone.
use Prim.Native.Nat.{ℕ}
use mathlib.Core.Path.{◌≡◌, refl, ap, ◌∙◌}
use mathlib.Core.Bool.{Bool, true, false}
use mathlib.Core.Logic.{inl, inr}
use mathlib.Core.List.{List, [], ◌∷◌}
use lib.ListN.{get_or}
use borrow.Author.Tests.{ne_eqb}
use Rattle.word.specs.Choice.{pick}
use Rattle.word.specs.Tick.{Beam, Tick, tick, head_or, tail_of}
use Rattle.word.proofs.Lists.{same_number}
use Rattle.arity.specs.Tree.{Tree, Primitive, Composition}
use Rattle.arity.specs.Tree.Tree.{leaf, join, ondemand}
use Rattle.arity.specs.Tree.Composition.{sequence, parallel, split, merge, recursion}
use Rattle.arity.specs.Nodes.{Numbered, Distinct, subtree}
use Rattle.arity.proofs.Paths.{has-number, left_not_root, right_not_root, right_not_left, body_not_root}
use Rattle.signal.specs.Signal.{History, signal, demanded, demands}
use Rattle.signal.specs.History.{own, left_history, right_history}
use Rattle.signal.specs.Wire.{Probe, wire_after}
use Rattle.calls.specs.Wiring.{first_side, second_side}
use Rattle.calls.specs.Step.{step, first_tick, second_tick}
use Rattle.calls.specs.Probes.{noted, shown}

-- what holds of both sides holds of the first, and of the second
of_first : {A : Type 0} (P : A → Type 0) (c : Composition) {l r : A} → P l → P r → P (first_side c l r)
of_first P sequence p q = search
of_first P parallel p q = search
of_first P split p q = search
of_first P merge p q = search
of_first P recursion p q = search

of_second : {A : Type 0} (P : A → Type 0) (c : Composition) {l r : A} → P l → P r → P (second_side c l r)
of_second P sequence p q = search
of_second P parallel p q = search
of_second P split p q = search
of_second P merge p q = search
of_second P recursion p q = search

-- this probe is left alone, whatever tick, cells and value
abbrev Alone : Probe → (Tick → List ℕ → Probe → ℕ → ℕ) → Type 0
Alone p g = (f : Tick) (cs : List ℕ) (v : ℕ) → g f cs p v ≡ v

pub left_alone : (base : ℕ → ℕ) (t : Tree) (p : Probe) → (Numbered t p.node → ⊥) → (f : Tick) (cs : List ℕ) (v : ℕ) → shown base t f cs p v ≡ v
unfolding shown Numbered
left_alone base (leaf i q) p n f cs v = rw (ne_eqb i p.node n)
left_alone base (join i c l r) p n f cs v =
    let ul : Alone p (shown base l) = left_alone base l p (λ m. n (inr (inl m))) in
    let ur : Alone p (shown base r) = left_alone base r p (λ m. n (inr (inr m))) in
    let x = first_tick base i c l r f cs in
    let a = first_side c (step base l) (step base r) x cs in
    rw (ne_eqb i p.node (λ m. n (inl m)))
    (of_second (Alone p) c ul ur (second_tick c l r f a.outputs) a.cells _ ∙ of_first (Alone p) c ul ur x cs v)
left_alone base (ondemand i b) p n f cs v =
    rw (ne_eqb i p.node (λ m. n (inl m)), left_alone base b p (λ m. n (inr m)) (tick (tail_of f.inputs) f.controls) cs v) (go (demanded f))
  where
    go : (d : Bool) → pick d v v ≡ v
    go true = refl
    go false = refl

-- after a tick f the probe shows what the meaning gives, if it did so before
abbrev pub ShowsBy : Tree → History → Tick → (Probe → ℕ → ℕ) → Type 0
ShowsBy t h f g = (p : Probe) → Distinct t → Numbered t p.node → g p (wire_after t h p) ≡ wire_after t (f ∷ h) p

pub leaf_shows : (i : ℕ) (q : Primitive) (h : History) (f : Tick) (ys : Beam) → ys ≡ head_or [] (signal (leaf i q) (f ∷ h)) → ShowsBy (leaf i q) h f (noted i ys)
unfolding wire_after subtree own Numbered
leaf_shows i q h f ys e p d m = rw (← m, same_number i) (ap (λ y. get_or y p.output 0) e)

-- inner is what the sides make of a probe
module _ (i : ℕ) (c : Composition) (l r : Tree) (h : History) (f : Tick) (ys : Beam) (inner : Probe → ℕ → ℕ) where
  pub join_shows : ys ≡ head_or [] (signal (join i c l r) (f ∷ h))
      → ((p : Probe) → Distinct (join i c l r) → Numbered l p.node → inner p (wire_after l (left_history c l r h) p) ≡ wire_after l (left_history c l r (f ∷ h)) p)
      → ((p : Probe) → Distinct (join i c l r) → Numbered r p.node → inner p (wire_after r (right_history c l r h) p) ≡ wire_after r (right_history c l r (f ∷ h)) p)
      → ShowsBy (join i c l r) h f (λ p v. noted i ys p (inner p v))
  unfolding wire_after subtree own Numbered
  join_shows e left right p d (inl m) = rw (← m, same_number i) (ap (λ y. get_or y p.output 0) e)
  join_shows e left right p d (inr (inl m)) = rw (left_not_root i p.node c l r d m, has-number l p.node m) (left p d m)
  join_shows e left right p d (inr (inr m)) = rw (right_not_root i p.node c l r d m, right_not_left i p.node c l r d m) (right p d m)

pub demand_shows : (i : ℕ) (b : Tree) (h : History) (f : Tick) (ys : Beam) (inner : Probe → ℕ → ℕ) → ys ≡ head_or [] (signal (ondemand i b) (f ∷ h))
    → ((p : Probe) → Distinct b → Numbered b p.node → inner p (wire_after b (demands h) p) ≡ wire_after b (demands (f ∷ h)) p)
    → ShowsBy (ondemand i b) h f (λ p v. noted i ys p (inner p v))
unfolding wire_after subtree own Numbered Distinct
demand_shows i b h f ys inner e body p d (inl m) = rw (← m, same_number i) (ap (λ y. get_or y p.output 0) e)
demand_shows i b h f ys inner e body p d (inr m) = rw (body_not_root i p.node b d m) (body p d.0 m)
