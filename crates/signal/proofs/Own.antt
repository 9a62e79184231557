-- Own histories: a tick adds at most one own tick to each node; and a node's is found from that of any node above it.
use Prim.Native.Nat.{ℕ}
use mathlib.Core.Path.{◌≡◌, refl}
use mathlib.Core.Bool.{Bool, true, false}
use mathlib.Core.Logic.{◌⊎◌, inl, inr}
use mathlib.Core.List.{[], ◌∷◌}
use lib.Dec.{eqb}
use Rattle.word.specs.Choice.{pick}
use Rattle.word.specs.Tick.{Tick, tick, tail_of}
use Rattle.word.proofs.Lists.{same_number}
use Rattle.arity.specs.Tree.{Tree, Composition, ins, outs}
use Rattle.arity.specs.Tree.Tree.{leaf, join, ondemand}
use Rattle.arity.specs.Tree.Composition.{sequence, parallel, split, merge, recursion}
use Rattle.arity.specs.Nodes.{Numbered, Distinct, has, subtree}
use Rattle.arity.proofs.Paths.{has-number, left_not_root, right_not_root, right_not_left, body_not_root, subtree-numbers}
use Rattle.signal.specs.Signal.{History, signal, fill, sums, demanded, demands}
use Rattle.signal.specs.History.{left_history, right_history, own}
use Rattle.signal.proofs.Causal.{causal, wire-next, map_next, loop_left_next, loop_right_next}

-- no tick, no own tick
pub left_start : (c : Composition) (l r : Tree) → left_history c l r [] ≡ []
unfolding left_history
left_start sequence l r = refl
left_start parallel l r = refl
left_start split l r = refl
left_start merge l r = refl
left_start recursion l r = refl

pub right_start : (c : Composition) (l r : Tree) → right_history c l r [] ≡ []
unfolding right_history
right_start sequence l r = refl
right_start parallel l r = refl
right_start split l r = refl
right_start merge l r = refl
right_start recursion l r = refl

pub own_start : (t : Tree) (j : ℕ) → own t [] j ≡ []
unfolding own
own_start (leaf i p) j = refl
own_start (join i c l r) j = rw (left_start c l r, right_start c l r) (go (eqb i j) (has l j) (own_start l j) (own_start r j))
  where
    go : (a b : Bool) {x y : History} → x ≡ [] → y ≡ [] → pick a [] (pick b x y) ≡ []
    go true b p q = refl
    go false true p q = p
    go false false p q = q
own_start (ondemand i b) j = go (eqb i j) (own_start b j)
  where
    go : (a : Bool) {x : History} → x ≡ [] → pick a [] x ≡ []
    go true p = refl
    go false p = p

-- a composition's sides have a tick more at each tick
abbrev pub Longer : History → History → Type 0
Longer h h' = (g : Tick) × (h' ≡ g ∷ h)

pub left_longer : (c : Composition) (l r : Tree) (f : Tick) (h : History) → Longer (left_history c l r h) (left_history c l r (f ∷ h))
unfolding left_history
left_longer sequence l r f h = (f, refl)
left_longer parallel l r f h = (_, refl)
left_longer split l r f h = (f, refl)
left_longer merge l r f h = (f, refl)
left_longer recursion l r f h = (_, loop_left_next (signal l) (signal r) (ins r) (causal l) (causal r) f h)

pub right_longer : (c : Composition) (l r : Tree) (f : Tick) (h : History) → Longer (right_history c l r h) (right_history c l r (f ∷ h))
unfolding right_history
right_longer sequence l r f h = (_, wire-next (signal l) (causal l) f h)
right_longer parallel l r f h = (_, refl)
right_longer split l r f h = (_, map_next (signal l) (causal l) f h (fill (ins r) (outs l)))
right_longer merge l r f h = (_, map_next (signal l) (causal l) f h (sums (outs l) (ins r)))
right_longer recursion l r f h = (_, loop_right_next (signal l) (signal r) (ins r) (causal l) (causal r) f h)

-- no own tick more, or one
abbrev pub Grows : History → History → Type 0
Grows h h' = (h' ≡ h) ⊎ Longer h h'

pub own_grows : (t : Tree) (f : Tick) (h : History) (j : ℕ) → Grows (own t h j) (own t (f ∷ h) j)
unfolding own
own_grows (leaf i p) f h j = inr (f, refl)
own_grows (join i c l r) f h j =
    let (g, e) = left_longer c l r f h in
    let (g', e') = right_longer c l r f h in
    rw (e, e') (go (eqb i j) (has l j) (own_grows l g (left_history c l r h) j) (own_grows r g' (right_history c l r h) j))
  where
    go : {x x' y y' : History} (a b : Bool) → Grows x x' → Grows y y' → Grows (pick a h (pick b x y)) (pick a (f ∷ h) (pick b x' y'))
    go true b p q = inr (f, refl)
    go false true p q = p
    go false false p q = q
own_grows (ondemand i b) f h j = go (eqb i j) (demanded f) (own_grows b g (demands h) j)
  where
    g : Tick
    g = tick (tail_of f.inputs) f.controls

    go : (a d : Bool) → Grows (own b (demands h) j) (own b (g ∷ demands h) j) → Grows (pick a h (own b (demands h) j)) (pick a (f ∷ h) (own b (pick d (g ∷ demands h) (demands h)) j))
    go true d p = inr (f, refl)
    go false true p = p
    go false false p = inl refl

-- the own history of a node below node i, from that of node i
pub own_through : (t : Tree) → Distinct t → (h : History) (i : ℕ) → Numbered t i → (j : ℕ) → Numbered (subtree t i) j → own t h j ≡ own (subtree t i) (own t h i) j
unfolding own subtree Distinct Numbered
own_through (leaf k p) d h i m j n = refl
own_through (join k c l r) d h i (inl m) j n = rw (← m, same_number k)
own_through (join k c l r) d h i (inr (inl m)) j n =
    let n' : Numbered (subtree l i) j = rw (left_not_root k i c l r d m, has-number l i m) at n in
    let o : Numbered l j = subtree-numbers l d.0 i m j n' in
    rw (left_not_root k i c l r d m, has-number l i m, left_not_root k j c l r d o, has-number l j o) (own_through l d.0 (left_history c l r h) i m j n')
own_through (join k c l r) d h i (inr (inr m)) j n =
    let n' : Numbered (subtree r i) j = rw (right_not_root k i c l r d m, right_not_left k i c l r d m) at n in
    let o : Numbered r j = subtree-numbers r d.1 i m j n' in
    rw (right_not_root k i c l r d m, right_not_left k i c l r d m, right_not_root k j c l r d o, right_not_left k j c l r d o) (own_through r d.1 (right_history c l r h) i m j n')
own_through (ondemand k b) d h i (inl m) j n = rw (← m, same_number k)
own_through (ondemand k b) d h i (inr m) j n =
    let n' : Numbered (subtree b i) j = rw (body_not_root k i b d m) at n in
    let o : Numbered b j = subtree-numbers b d.0 i m j n' in
    rw (body_not_root k i b d m, body_not_root k j b d o) (own_through b d.0 (demands h) i m j n')
