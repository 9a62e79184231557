-- Wires: what they show before the first tick, and at each tick.
use Prim.Native.Nat.{ℕ}
use mathlib.Core.Path.{◌≡◌, refl, ap, ap₂, ◌∙◌}
use mathlib.Core.List.{List, [], ◌∷◌, map}
use lib.ListN.{length, get_or}
use Rattle.word.specs.Tick.{head_or, zeros}
use Rattle.arity.specs.Tree.{Tree}
use Rattle.arity.specs.Nodes.{subtree}
use Rattle.signal.specs.Signal.{History, signal}
use Rattle.signal.specs.History.{own}
use Rattle.signal.specs.Wire.{Probe, wire_after, watched}
use Rattle.signal.specs.Laws.{Causal}
use Rattle.signal.proofs.Causal.{causal}
use Rattle.signal.proofs.Own.{own_start}

-- a node with no own tick shows 0
pub no_tick : (t : Tree) (h : History) (p : Probe) → own t h p.node ≡ [] → wire_after t h p ≡ 0
unfolding wire_after
no_tick t h p e =
    let s : Tree = subtree t p.node in
    ap (λ x. get_or (head_or [] (signal s x)) p.output 0) e ∙ ap (λ ys. get_or (head_or [] ys) p.output 0) (causal s).empty

pub wires_start : (t : Tree) (ps : List Probe) → map (wire_after t []) ps ≡ zeros (length ps)
wires_start t [] = refl
wires_start t (p ∷ ps) = ap₂ {C = List ℕ} (λ v vs. v ∷ vs) (no_tick t [] p (own_start t p.node)) (wires_start t ps)

pub watched_causal : (t : Tree) (ps : List Probe) → Causal (watched t ps)
unfolding watched
watched_causal t ps = record { empty = refl; next = λ f h. refl }
