-- A tick counts as clipped exactly where it brings an own tick to some delay whose amount lies outside 0 to D.
use Prim.Native.Nat.{ℕ, suc}
use mathlib.Core.Path.{◌≡◌, refl, sym, ap, ◌∙◌}
use mathlib.Core.Bool.{Bool, true, false, false≢true}
use mathlib.Core.Logic.{inl, inr}
use mathlib.Core.List.{◌∷◌}
use native.Mathlib.Omega.{arith}
use lib.ListN.{length, get_or}
use Rattle.word.specs.Choice.{◌or◌, pick}
use Rattle.word.specs.Word.{clipped}
use Rattle.word.specs.Tick.{Tick, tick, head_or, tail_of}
use Rattle.word.proofs.Lists.{same_number, first-true, second-true, or_second}
use Rattle.arity.specs.Tree.{Tree, Primitive, Composition}
use Rattle.arity.specs.Tree.Tree.{leaf, join, ondemand}
use Rattle.arity.specs.Tree.Primitive.{number, control, operation, delay, cable, cut}
use Rattle.arity.specs.Nodes.{Numbered, Distinct, subtree}
use Rattle.arity.proofs.Paths.{has-number, left_not_root, right_not_root, right_not_left, body_not_root}
use Rattle.signal.specs.Signal.{History, demanded, demands}
use Rattle.signal.specs.History.{left_history, right_history, own}
use Rattle.signal.specs.Clips.{clips_at, clips}
use Rattle.signal.specs.Laws.{ClippedDelay, ClipsSome, SomeClips}
use Rattle.signal.proofs.Own.{left_longer, right_longer}

-- a delay of a side or of a body, and what it is given, seen from the node above
module _ (i : ℕ) (c : Composition) (l r : Tree) (d : Distinct (join i c l r)) (f : Tick) (h : History) where
  from-left : (g : Tick) → left_history c l r (f ∷ h) ≡ g ∷ left_history c l r h → ClippedDelay l g (left_history c l r h) → ClippedDelay (join i c l r) f h
  unfolding Numbered subtree own
  from-left g e k =
      let m = k.numbered in
      record {
        node = k.node;
        numbered = inr (inl m);
        most = k.most;
        delays = rw (left_not_root i k.node c l r d m, has-number l k.node m) k.delays;
        at = k.at;
        brings = rw (left_not_root i k.node c l r d m, has-number l k.node m, e) k.brings;
        outside = k.outside;
      }

  from-right : (g : Tick) → right_history c l r (f ∷ h) ≡ g ∷ right_history c l r h → ClippedDelay r g (right_history c l r h) → ClippedDelay (join i c l r) f h
  unfolding Numbered subtree own
  from-right g e k =
      let m = k.numbered in
      record {
        node = k.node;
        numbered = inr (inr m);
        most = k.most;
        delays = rw (right_not_root i k.node c l r d m, right_not_left i k.node c l r d m) k.delays;
        at = k.at;
        brings = rw (right_not_root i k.node c l r d m, right_not_left i k.node c l r d m, e) k.brings;
        outside = k.outside;
      }

module _ (i : ℕ) (b : Tree) (d : Distinct (ondemand i b)) (f : Tick) (h : History) where
  abbrev in_body : Tick
  in_body = tick (tail_of f.inputs) f.controls

  from-body : demanded f ≡ true → ClippedDelay b in_body (demands h) → ClippedDelay (ondemand i b) f h
  unfolding Numbered subtree own
  from-body due k =
      let m = k.numbered in
      record {
        node = k.node;
        numbered = inr m;
        most = k.most;
        delays = rw (body_not_root i k.node b d m) k.delays;
        at = k.at;
        brings = rw (body_not_root i k.node b d m, due) k.brings;
        outside = k.outside;
      }

pub clips-some : ClipsSome
unfolding clips Numbered subtree own Distinct
clips-some (leaf i (delay n)) d f h e = record { node = i; numbered = refl; most = n; delays = refl; at = f; brings = refl; outside = e }
clips-some (leaf i (number v)) d f h e = absurd (false≢true e)
clips-some (leaf i (control s)) d f h e = absurd (false≢true e)
clips-some (leaf i (operation o)) d f h e = absurd (false≢true e)
clips-some (leaf i cable) d f h e = absurd (false≢true e)
clips-some (leaf i cut) d f h e = absurd (false≢true e)
clips-some (join i c l r) d f h e =
    let (g, p) = left_longer c l r f h in
    let (g', p') = right_longer c l r f h in
    go (clips l (g ∷ left_history c l r h)) (clips-some l d.0 g (left_history c l r h)) (clips-some r d.1 g' (right_history c l r h)) (rw (p, p') at e)
  where
    go : (x : Bool) {y : Bool} → (x ≡ true → ClippedDelay l (left_longer c l r f h).0 (left_history c l r h)) → (y ≡ true → ClippedDelay r (right_longer c l r f h).0 (right_history c l r h))
        → x or y ≡ true → ClippedDelay (join i c l r) f h
    go true a b e = from-left i c l r d f h (left_longer c l r f h).0 (left_longer c l r f h).1 (a refl)
    go false a b e = from-right i c l r d f h (right_longer c l r f h).0 (right_longer c l r f h).1 (b e)
clips-some (ondemand i b) d f h e =
    let due : demanded f ≡ true = first-true (demanded f) _ e in
    from-body i b d f h due (clips-some b d.0 (in_body i b d f h) (demands h) (rw due at (second-true (demanded f) _ e)))

-- no node is both a delay and something else
abbrev primitive_of : Tree → Primitive
primitive_of (leaf i p) = p
primitive_of (join i c l r) = cut
primitive_of (ondemand i b) = cut

abbrev is_delay : Primitive → Bool
is_delay (number v) = false
is_delay (control s) = false
is_delay (operation o) = false
is_delay (delay n) = true
is_delay cable = false
is_delay cut = false

-- the own tick is the one that the tick brings
same-tick : {g g' : Tick} {x : History} → g ∷ x ≡ g' ∷ x → g ≡ g'
same-tick {g} e = ap (head_or g) e

one_more : {g : Tick} {x : History} → x ≡ g ∷ x → ⊥
one_more {g} {x} e = let z : length x ≡ suc (length x) = ap length e in omega arith

module _ (i : ℕ) (c : Composition) (l r : Tree) (d : Distinct (join i c l r)) (f : Tick) (h : History) (k : ClippedDelay (join i c l r) f h) where
  to_left : Numbered l k.node → ClippedDelay l (left_longer c l r f h).0 (left_history c l r h)
  unfolding subtree own
  to_left m =
      let (g, e) = left_longer c l r f h in
      record {
        node = k.node;
        numbered = m;
        most = k.most;
        delays = rw (left_not_root i k.node c l r d m, has-number l k.node m) at k.delays;
        at = k.at;
        brings = rw (left_not_root i k.node c l r d m, has-number l k.node m, e) at k.brings;
        outside = k.outside;
      }

  to_right : Numbered r k.node → ClippedDelay r (right_longer c l r f h).0 (right_history c l r h)
  unfolding subtree own
  to_right m =
      let (g, e) = right_longer c l r f h in
      record {
        node = k.node;
        numbered = m;
        most = k.most;
        delays = rw (right_not_root i k.node c l r d m, right_not_left i k.node c l r d m) at k.delays;
        at = k.at;
        brings = rw (right_not_root i k.node c l r d m, right_not_left i k.node c l r d m, e) at k.brings;
        outside = k.outside;
      }

  not-here : (i ≡ k.node) → ⊥
  unfolding subtree
  not-here e =
      let here : subtree (join i c l r) i ≡ join i c l r = rw (same_number i) in
      false≢true (ap (λ (t : Tree). is_delay (primitive_of t)) (sym here ∙ ap (subtree (join i c l r)) e ∙ k.delays))

  join-clips : let g = (left_longer c l r f h).0 in
      let g' = (right_longer c l r f h).0 in
      (ClippedDelay l g (left_history c l r h) → clips l (g ∷ left_history c l r h) ≡ true) → (ClippedDelay r g' (right_history c l r h) → clips r (g' ∷ right_history c l r h) ≡ true)
      → Numbered (join i c l r) k.node → clips (join i c l r) (f ∷ h) ≡ true
  unfolding clips Numbered
  join-clips a b (inl e) = absurd (not-here e)
  join-clips a b (inr (inl m)) = rw ((left_longer c l r f h).1, a (to_left m))
  join-clips a b (inr (inr m)) = rw (right_longer c l r f h).1 (sym (or_second (clips l (left_history c l r (f ∷ h))) _ (b (to_right m))))

module _ (i : ℕ) (b : Tree) (d : Distinct (ondemand i b)) (f : Tick) (h : History) (k : ClippedDelay (ondemand i b) f h) where
  -- a delay in a body gets an own tick only at a demand
  to_body : Numbered b k.node → (demanded f ≡ true) × ClippedDelay b (in_body i b d f h) (demands h)
  unfolding own subtree
  to_body m = go (demanded f) refl (rw (body_not_root i k.node b d m) at k.brings)
    where
      g : Tick
      g = in_body i b d f h

      go : (y : Bool) → demanded f ≡ y → own b (pick y (g ∷ demands h) (demands h)) k.node ≡ k.at ∷ own b (demands h) k.node
          → (y ≡ true) × ClippedDelay b g (demands h)
      go true p e = (
        refl,
        record {
          node = k.node;
          numbered = m;
          most = k.most;
          delays = rw (body_not_root i k.node b d m) at k.delays;
          at = k.at;
          brings = e;
          outside = k.outside;
        },
      )
      go false p e = absurd (one_more e)

  not_itself : (i ≡ k.node) → ⊥
  unfolding subtree
  not_itself e =
      let here : subtree (ondemand i b) i ≡ ondemand i b = rw (same_number i) in
      false≢true (ap (λ (t : Tree). is_delay (primitive_of t)) (sym here ∙ ap (subtree (ondemand i b)) e ∙ k.delays))

  body-clips : (ClippedDelay b (in_body i b d f h) (demands h) → clips b (in_body i b d f h ∷ demands h) ≡ true) → Numbered (ondemand i b) k.node → clips (ondemand i b) (f ∷ h) ≡ true
  unfolding clips Numbered
  body-clips a (inl e) = absurd (not_itself e)
  body-clips a (inr m) = let (due, o) = to_body m in rw due (a o)

-- a delay alone
alone : (i : ℕ) (p : Primitive) (f : Tick) (h : History) → ClippedDelay (leaf i p) f h → clips_at p f ≡ true
unfolding subtree own
alone i p f h k =
    ap (λ q. clips_at q f) (ap primitive_of k.delays) ∙ ap (λ (g : Tick). clipped (get_or g.inputs 1 0) k.most) (same-tick k.brings) ∙ k.outside

pub some-clips : SomeClips
unfolding clips Distinct
some-clips (leaf i p) d f h k = alone i p f h k
some-clips (join i c l r) d f h k = join-clips i c l r d f h k (some-clips l d.0 _ _) (some-clips r d.1 _ _) k.numbered
some-clips (ondemand i b) d f h k = body-clips i b d f h k (some-clips b d.0 _ _) k.numbered
