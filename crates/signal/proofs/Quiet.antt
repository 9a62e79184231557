-- A tick without demand: nothing in an ondemand's body changes, and what is held stands.
use Prim.Native.Nat.{ℕ}
use mathlib.Core.Path.{◌≡◌, refl, sym, ap, ◌∙◌}
use mathlib.Core.Bool.{Bool, true, false}
use mathlib.Core.Logic.{inl, inr}
use mathlib.Core.List.{[], ◌∷◌}
use native.Mathlib.Omega.{arith}
use lib.ListN.{length, get_or}
use Rattle.word.specs.Choice.{pick}
use Rattle.word.specs.Tick.{Beam, Tick, tick, head_or, tail_of, zeros}
use Rattle.arity.specs.Tree.{Tree, outs}
use Rattle.arity.specs.Tree.Tree.{ondemand}
use Rattle.arity.specs.Nodes.{Numbered, Distinct, subtree}
use Rattle.arity.proofs.Paths.{body_not_root, subtree-distinct}
use Rattle.signal.specs.Signal.{History, signal, demanded, demands}
use Rattle.signal.specs.History.{own, NoDemand}
use Rattle.signal.specs.Contents.{contents}
use Rattle.signal.specs.Wire.{wire_after}
use Rattle.signal.specs.Laws.{BodyRests, AllBodiesRest}
use Rattle.signal.proofs.Causal.{causal}
use Rattle.signal.proofs.Own.{Grows, own_grows, own_through, own_start}
use Rattle.signal.proofs.Wire.{no_tick}

demands_stay : (h h' : History) → Grows h h' → length (demands h') ≡ length (demands h) → demands h' ≡ demands h
demands_stay h h' (inl e) l = ap demands e
demands_stay h h' (inr (g, e)) l = ap demands e ∙ go (demanded g) (ap length (sym (ap demands e)) ∙ l)
  where
    go : (d : Bool) → length (pick d (tick (tail_of g.inputs) g.controls ∷ demands h) (demands h)) ≡ length (demands h)
        → pick d (tick (tail_of g.inputs) g.controls ∷ demands h) (demands h) ≡ demands h
    go true k = absurd (omega arith)
    go false k = refl

none : (h : History) → length h ≡ 0 → h ≡ []
none [] e = refl
none (f ∷ h) e = absurd (omega arith)

-- node i of t is an ondemand with the body b
module _ (t b : Tree) (d : Distinct t) (i : ℕ) (m : Numbered t i) (s : subtree t i ≡ ondemand i b) where
  body_own : (h : History) (j : ℕ) → Numbered b j → own t h j ≡ own b (demands (own t h i)) j
  unfolding own Numbered
  body_own h j n =
      own_through t d h i m j (rw s (inr n))
      ∙ rw (s, body_not_root i j b (rw s at (subtree-distinct t d i m)) n)

  -- what the ondemand holds after a history
  abbrev latest_demand : History → Beam
  latest_demand h = head_or (zeros (outs b)) (signal b h)

  holds : (h : History) → contents (subtree t i) h ≡ latest_demand (demands h)
  unfolding contents
  holds h = rw s

  none_yet : (h : History) → length h ≡ 0 → latest_demand h ≡ zeros (outs b)
  none_yet h e = rw (none h e, (causal b).empty)

  -- the own history of each node of the body
  stays : (h h' : History) → demands (own t h' i) ≡ demands (own t h i) → (j : ℕ) → Numbered b j → own t h' j ≡ own t h j
  stays h h' e j n = body_own h' j n ∙ ap (λ x. own b x j) e ∙ sym (body_own h j n)

  rests : (f : Tick) (h : History) → NoDemand t i f h → BodyRests t b i f h
  unfolding wire_after
  rests f h q =
      let e : demands (own t (f ∷ h) i) ≡ demands (own t h i) = demands_stay (own t h i) (own t (f ∷ h) i) (own_grows t f h i) q in
      record {
        body = λ j n. ap (contents (subtree t j)) (stays h (f ∷ h) e j n);
        held = holds (own t (f ∷ h) i) ∙ ap latest_demand e ∙ sym (holds (own t h i));
        before = λ l. holds (own t h i) ∙ none_yet (demands (own t h i)) l;
        wires = λ p n. ap (λ x. get_or (head_or [] (signal (subtree t p.node) x)) p.output 0) (stays h (f ∷ h) e p.node n);
        wires_before = λ p n l. no_tick t h p (body_own h p.node n ∙ ap (λ x. own b x p.node) (none (demands (own t h i)) l) ∙ own_start b p.node);
      }

pub quiet : AllBodiesRest
quiet = rests
