-- Ondemand in the letters of source document 002: a body sees x↓h, an ondemand gives y↑h, and nested clocks combine by ⊗.
use Prim.Native.Nat.{ℕ, zero, suc, ◌+◌, ◌≤◌, ◌<◌}
use mathlib.Core.Path.{◌≡◌, refl, sym, ap, ap₂, ◌∙◌}
use mathlib.Core.Bool.{Bool, true, false}
use mathlib.Core.List.{List, [], ◌∷◌}
use native.Mathlib.Omega.{arith}
use native.Mathlib.Numerals.{add-one}
use native.Mathlib.Nat.{add-zero}
use lib.IntN.{pos, pred_ℤ}
use Rattle.word.specs.Choice.{pick, ◌and◌, bit}
use Rattle.word.specs.Operation.{demand}
use Rattle.word.specs.Tick.{Beam, Tick, tick, head_or, zeros}
use Rattle.word.proofs.Clocks.{demand-product}
use Rattle.arity.specs.Tree.{Tree, outs}
use Rattle.arity.specs.Tree.Tree.{ondemand}
use Rattle.signal.specs.Signal.{History, Processor, signal, demands}
use Rattle.signal.specs.Clock.{Clock, at, demands_before, down, up, ◌⊗◌, up_to, clocked, inside, outputs, BodySees, OndemandGives, ClocksCombine}
use Rattle.signal.specs.Laws.{Causal}
use Rattle.signal.proofs.Causal.{causal, hold-next}
use Rattle.signal.proofs.Star.{star-at, plus-is, plus-at}

pub body_sees : BodySees
unfolding up_to demands_before
body_sees n h x u zero l = refl
body_sees n h x u (suc t) l = go (demand (h t)) refl (body_sees n h x u t (omega arith))
  where
    go : (d : Bool) → demand (h t) ≡ d → demands (clocked t h x u) ≡ inside n h x u (demands_before h t)
        → pick (demand (h t)) (tick (x t) (u t) ∷ demands (clocked t h x u)) (demands (clocked t h x u)) ≡ inside n h x u (demands_before h t + bit (demand (h t)))
    go true e ih = rw (e, add-one) (ap₂ (λ (s : ℕ) (p : History). tick (x s) (u s) ∷ p) (sym (star-at n h t l e)) ih)
    go false e ih = rw (e, add-zero) ih

-- an ondemand's outputs at its latest tick, and before it
gives_next : (i : ℕ) (b : Tree) (f : Tick) (past : History)
    → signal (ondemand i b) (f ∷ past) ≡ head_or (zeros (outs b)) (signal b (demands (f ∷ past))) ∷ signal (ondemand i b) past
unfolding signal
gives_next i b f past = hold-next (signal b) (causal b) (outs b) f past

-- what is held, in terms of how many outputs there are
latest_of : (p : Processor) → Causal p → (m : ℕ) (f : ℕ → Tick) (k : ℕ) → head_or (zeros m) (p (up_to k f)) ≡ at (zeros m) (outputs p (λ j. up_to j f)) (pred_ℤ (pos k))
unfolding up_to
latest_of p c m f zero = rw c.empty
latest_of p c m f (suc k) = rw (c.next (f k) (up_to k f))

pub ondemand_gives : OndemandGives
unfolding signal up_to
ondemand_gives n h x u i b zero l = refl
ondemand_gives n h x u i b (suc t) l =
    gives_next i b (tick (h t ∷ x t) (u t)) (clocked t h x u)
    ∙ ap₂ {C = List Beam} ◌∷◌
    (ap (λ (p : History). head_or (zeros (outs b)) (signal b p)) (body_sees n h x u (suc t) l)
    ∙ latest_of (signal b) (causal b) (outs b) (λ j. tick (down n h x j) (down n h u j)) (demands_before h (suc t))
    ∙ ap (at (zeros (outs b)) (outputs (signal b) (inside n h x u))) (sym (plus-is h t)))
    (ondemand_gives n h x u i b t (omega arith))

-- two clocks: the outer h₁, and the inner k as it is outside; inside h₁ that is k↓h₁
module _ (n : ℕ) (h₁ k : Clock) (x u : ℕ → Beam) where
  abbrev nested : ℕ → History
  nested t = clocked t h₁ (λ s. k s ∷ x s) u

  abbrev combined : Clock
  combined = down n h₁ k ⊗ h₁

  -- "for a request to reach P it is necessary to have" a demand of both clocks: outside h₁, the inner one is k at the same tick
  reaches : (t : ℕ) → t < n → demand (combined t) ≡ demand (h₁ t) and demand (k t)
  reaches t l = demand-product (h₁ t) (up 0 h₁ (down n h₁ k) t) ∙ go (demand (h₁ t)) refl
    where
      go : (d : Bool) → demand (h₁ t) ≡ d → d and demand (up 0 h₁ (down n h₁ k) t) ≡ d and demand (k t)
      go true e = rw (plus-at h₁ t e, star-at n h₁ t l e)
      go false e = refl

  demands_twice : (t : ℕ) → t ≤ n → demands (demands (nested t)) ≡ demands (clocked t combined x u)
  unfolding up_to
  demands_twice zero l = refl
  demands_twice (suc t) l = rw (reaches t l) (go (demand (h₁ t)) (demand (k t)) refl (demands_twice t (omega arith)))
    where
      go : (d e : Bool) → demand (k t) ≡ e → demands (demands (nested t)) ≡ demands (clocked t combined x u)
          → demands (pick d (tick (k t ∷ x t) (u t) ∷ demands (nested t)) (demands (nested t)))
          ≡ pick (d and e) (tick (x t) (u t) ∷ demands (clocked t combined x u)) (demands (clocked t combined x u))
      go true true q ih = rw q (ap {B = History} (◌∷◌ (tick (x t) (u t))) ih)
      go true false q ih = rw q ih
      go false e q ih = ih

  module _ (i j : ℕ) (b : Tree) where
    held_once : (d : History) → head_or (zeros (outs b)) (signal (ondemand j b) d) ≡ head_or (zeros (outs b)) (signal b (demands d))
    unfolding signal
    held_once [] = rw (causal b).empty
    held_once (f ∷ d) = refl

    combines : (t : ℕ) → t ≤ n → signal (ondemand i (ondemand j b)) (nested t) ≡ signal (ondemand i b) (clocked t combined x u)
    unfolding up_to outs
    combines zero l = unfold signal in refl
    combines (suc t) l =
        gives_next i (ondemand j b) (tick (h₁ t ∷ k t ∷ x t) (u t)) (nested t)
        ∙ ap₂ {C = List Beam} ◌∷◌
        (held_once (demands (nested (suc t))) ∙ ap (λ (d : History). head_or (zeros (outs b)) (signal b d)) (demands_twice (suc t) l))
        (combines t (omega arith))
        ∙ sym (gives_next i b (tick (combined t ∷ x t) (u t)) (clocked t combined x u))

pub clocks_combine : ClocksCombine
clocks_combine = combines
