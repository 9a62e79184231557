-- The laws at their borders: a premise that asked for more, or a conclusion that said less, would fail here.
use Prim.Native.Nat.{ℕ, suc, ◌^◌, ◌-◌, ◌<◌}
use mathlib.Core.Path.{◌≡◌, refl}
use mathlib.Core.Logic.{inl}
use mathlib.Core.List.{[], ◌∷◌}
use mathlib.Core.List.Memᴰ
use native.Mathlib.Omega.{arith}
use lib.Dec.{lit<}
use lib.ListN.{length, get_or}
use Rattle.word.specs.Operation.{demand}
use Rattle.word.specs.Tick.{Beam, Tick, tick, head_or, zeros}
use Rattle.arity.specs.Tree.{Tree, outs}
use Rattle.arity.specs.Tree.Tree.{leaf, join, ondemand}
use Rattle.arity.specs.Tree.Composition.{parallel}
use Rattle.arity.specs.Tree.Primitive.{number, delay, cable}
use Rattle.arity.specs.Nodes.{Numbered, Distinct, subtree}
use Rattle.arity.specs.WellFormed.{WellFormed}
use Rattle.signal.specs.Signal.{demands, signal}
use Rattle.signal.specs.History.{own}
use Rattle.signal.specs.Contents.{contents}
use Rattle.signal.specs.Wire.{Probe, wire_after, watched}
use Rattle.signal.specs.Clock.{Clock, demands_before, down, up, ◌⊗◌, up_to, ticks, clocked}
use Rattle.signal.specs.Samples.{Sample, meaning, bench_samples}
use Rattle.signal.specs.Laws.{WordTick}
use Rattle.signal.proofs.Causal.{causal, width}
use Rattle.signal.proofs.Words.{words}
use Rattle.signal.proofs.Quiet.{quiet}
use Rattle.signal.proofs.Clock.{body_sees, ondemand_gives, clocks_combine}
use Rattle.signal.proofs.Bench.{samples-right}

-- the first tick, and what was before it
module _ (t : Tree) (f : Tick) where
  first_causal : (signal t [] ≡ []) × (signal t (f ∷ []) ≡ head_or [] (signal t (f ∷ [])) ∷ signal t [])
  first_causal = ((causal t).empty, (causal t).next f [])

  first_wide : length (head_or [] (signal t (f ∷ []))) ≡ outs t
  first_wide = width t f []

-- the largest word as a number, an input and a control; the earlier of two ticks
abbrev most : ℕ
most = 2 ^ 32 - 1

abbrev largest : Tick
largest = tick (most ∷ []) (most ∷ [])

earlier_word : get_or (get_or (signal (leaf 0 (number most)) (largest ∷ largest ∷ [])) 1 []) 0 0 < 2 ^ 32
unfolding signal WellFormed
earlier_word =
    let w : WordTick largest = record { inputs = (lit< tt, tt); controls = (lit< tt, tt) } in
    (words (leaf 0 (number most)) (lit< tt) (largest ∷ largest ∷ []) (w, (w, tt))).1.0.0

-- a history as long as the clock is known
module _ (n : ℕ) (h k : Clock) (x u : ℕ → Beam) (i j : ℕ) (b : Tree) where
  whole_seen : demands (clocked n h x u) ≡ ticks (demands_before h n) (down n h x) (down n h u)
  whole_seen = body_sees n h x u n (omega arith)

  whole-given : signal (ondemand i b) (clocked n h x u)
      ≡ up_to n (up (zeros (outs b)) h (λ t. head_or [] (signal b (ticks (suc t) (down n h x) (down n h u)))))
  whole-given = ondemand_gives n h x u i b n (omega arith)

  whole_combined : signal (ondemand i (ondemand j b)) (clocked n h (λ s. k s ∷ x s) u) ≡ signal (ondemand i b) (clocked n (down n h k ⊗ h) x u)
  whole_combined = clocks_combine n h k x u i j b n (omega arith)

-- an ondemand delay of 1: no demand yet, and none at the latest tick
module _ (xs controls : Beam) where
  abbrev b₀ : Tree
  b₀ = leaf 0 (delay 1)

  abbrev wire₀ : Probe
  wire₀ = record { node = 0; output = 0 }

  resting : (contents b₀ (own (ondemand 1 b₀) (tick (0 ∷ xs) controls ∷ []) 0) ≡ contents b₀ (own (ondemand 1 b₀) [] 0))
      × (contents (ondemand 1 b₀) (tick (0 ∷ xs) controls ∷ []) ≡ contents (ondemand 1 b₀) [])
      × (contents (ondemand 1 b₀) [] ≡ zeros 1)
      × (wire_after (ondemand 1 b₀) (tick (0 ∷ xs) controls ∷ []) wire₀ ≡ wire_after (ondemand 1 b₀) [] wire₀)
      × (wire_after (ondemand 1 b₀) [] wire₀ ≡ 0)
  unfolding own subtree Numbered Distinct demand outs
  resting =
      let r = quiet (ondemand 1 b₀) b₀ (tt, λ e. absurd (let z : ◌≡◌ {A = ℕ} 0 1 = e in omega arith)) 1 (inl refl) refl (tick (0 ∷ xs) controls) [] refl in
      (r.body 0 refl, r.held, r.before refl, r.wires wire₀ refl, r.wires_before wire₀ refl refl)

-- an ondemand cable with the clock 0 -1 0 and the input 5 7 9: its body's wire, named twice, and its own output show 0 7 7
body-shown : (controls : Beam)
    → watched (ondemand 1 (leaf 0 cable)) (record { node = 0; output = 0 } ∷ record { node = 1; output = 0 } ∷ record { node = 0; output = 0 } ∷ [])
    (tick (0 ∷ 9 ∷ []) controls ∷ tick (most ∷ 7 ∷ []) controls ∷ tick (0 ∷ 5 ∷ []) controls ∷ [])
    ≡ (7 ∷ 7 ∷ 7 ∷ []) ∷ (7 ∷ 7 ∷ 7 ∷ []) ∷ (0 ∷ 0 ∷ 0 ∷ []) ∷ []
unfolding watched demand outs
body-shown controls = refl

-- two numbers beside each other, the second named first: its value stands first
order-named : (controls : Beam)
    → watched (join 2 parallel (leaf 0 (number 5)) (leaf 1 (number 7))) (record { node = 1; output = 0 } ∷ record { node = 0; output = 0 } ∷ []) (tick [] controls ∷ [])
    ≡ (7 ∷ 5 ∷ []) ∷ []
unfolding watched
order-named controls = refl

-- the last sample of the table
abbrev last : Sample
last =
    record {
      table = 3 ∷ 2 ∷ 0 ∷ 5 ∷ 0 ∷ 0 ∷ 8 ∷ 0 ∷ 1 ∷ 3 ∷ 1 ∷ 0 ∷ 5 ∷ 0 ∷ 0 ∷ 11 ∷ 3 ∷ 4 ∷ 12 ∷ 5 ∷ 0 ∷ 7 ∷ 2 ∷ 6 ∷ [];
      inputs = (5 ∷ 3 ∷ 5 ∷ []) ∷ (4 ∷ 4 ∷ 6 ∷ []) ∷ (4 ∷ 7 ∷ 7 ∷ []) ∷ (2 ∷ 2 ∷ 8 ∷ []) ∷ (0 ∷ 2 ^ 31 ∷ 9 ∷ []) ∷ [];
      outputs = (5 ∷ []) ∷ (5 ∷ []) ∷ (12 ∷ []) ∷ (12 ∷ []) ∷ (21 ∷ []) ∷ [];
    }

last-right : meaning last ≡ (5 ∷ []) ∷ (5 ∷ []) ∷ (12 ∷ []) ∷ (12 ∷ []) ∷ (21 ∷ []) ∷ []
unfolding bench_samples
last-right =
    samples-right last (Memᴰ.tail (Memᴰ.tail (Memᴰ.tail (Memᴰ.tail (Memᴰ.tail (Memᴰ.tail (Memᴰ.tail (Memᴰ.tail (Memᴰ.tail (Memᴰ.tail (Memᴰ.tail (Memᴰ.head refl))))))))))))
