-- In how many ticks a delay is clipped, at the borders: another count would fail here.
use Prim.Native.Nat.{ℕ, ◌-◌, ◌^◌}
use mathlib.Core.Path.{◌≡◌, refl}
use mathlib.Core.Bool.{true}
use mathlib.Core.List.{List, [], ◌∷◌, map}
use lib.ListN.{get_or}
use Rattle.word.specs.Word.{value, clipped}
use Rattle.word.specs.Operation.{demand}
use Rattle.word.specs.Tick.{Tick, tick}
use Rattle.arity.specs.Tree.{Tree, ins}
use Rattle.arity.specs.Tree.Tree.{leaf, join, ondemand}
use Rattle.arity.specs.Tree.Composition.{parallel}
use Rattle.arity.specs.Tree.Primitive.{delay}
use Rattle.arity.specs.Nodes.{Numbered, Distinct, subtree}
use Rattle.signal.specs.Signal.{History}
use Rattle.signal.specs.History.{left_history, right_history, own}
use Rattle.signal.specs.Clips.{clips, clipped_ticks}
use Rattle.signal.proofs.Clips.{clips-some, some-clips}

-- the law, both ways
module _ (t : Tree) (d : Distinct t) (f : Tick) (h : History) where
  found : clips t (f ∷ h) ≡ true
      → (j : ℕ) × (Numbered t j × ((m : ℕ) × ((subtree t j ≡ leaf j (delay m)) × ((g : Tick) × ((own t (f ∷ h) j ≡ g ∷ own t h j) × (clipped (get_or g.inputs 1 0) m ≡ true))))))
  found e = let k = clips-some t d f h e in (k.node, (k.numbered, (k.most, (k.delays, (k.at, (k.brings, k.outside))))))

  counted : (j m : ℕ) (g : Tick) → Numbered t j → subtree t j ≡ leaf j (delay m) → own t (f ∷ h) j ≡ g ∷ own t h j → clipped (get_or g.inputs 1 0) m ≡ true → clips t (f ∷ h) ≡ true
  counted j m g n e o c = some-clips t d f h (record { node = j; numbered = n; most = m; delays = e; at = g; brings = o; outside = c })

abbrev minus : ℕ → ℕ
minus n = 2 ^ 32 - n

-- ticks of a delay that is given these amounts
abbrev amounts : List ℕ → History
amounts ys = map (λ (y : ℕ). tick (7 ∷ y ∷ []) []) ys

-- 0 to D are inside; "negative ones too", "with D = 0 every amount but 0"
inside : clipped_ticks (leaf 0 (delay 3)) (amounts (0 ∷ 1 ∷ 2 ∷ 3 ∷ [])) ≡ 0
unfolding clipped_ticks clips clipped value
inside = refl

outside : clipped_ticks (leaf 0 (delay 3)) (amounts (4 ∷ 2147483647 ∷ minus 1 ∷ minus 2147483648 ∷ [])) ≡ 4
unfolding clipped_ticks clips clipped value
outside = refl

longest : clipped_ticks (leaf 0 (delay 4095)) (amounts (4095 ∷ 4096 ∷ minus 4095 ∷ [])) ≡ 2
unfolding clipped_ticks clips clipped value
longest = refl

no_line : clipped_ticks (leaf 0 (delay 0)) (amounts (0 ∷ 1 ∷ minus 1 ∷ [])) ≡ 2
unfolding clipped_ticks clips clipped value
no_line = refl

-- two delays side by side, both clipped in one tick, then one, the other and none: a tick counts once
abbrev two : Tree
two = join 2 parallel (leaf 0 (delay 1)) (leaf 1 (delay 1))

abbrev pairs : List ℕ → Tick
pairs ys = tick ys []

once : clipped_ticks two (pairs (7 ∷ 2 ∷ 7 ∷ 2 ∷ []) ∷ pairs (7 ∷ 2 ∷ 7 ∷ 0 ∷ []) ∷ pairs (7 ∷ 0 ∷ 7 ∷ 2 ∷ []) ∷ pairs (7 ∷ 0 ∷ 7 ∷ 1 ∷ []) ∷ []) ≡ 3
unfolding clipped_ticks clips clipped value left_history right_history ins
once = refl

-- "a delay in a body without demand does not count"
demanded_alone : clipped_ticks (ondemand 1 (leaf 0 (delay 1))) (tick (0 ∷ 7 ∷ 2 ∷ []) [] ∷ tick (5 ∷ 7 ∷ 2 ∷ []) [] ∷ tick (0 ∷ 7 ∷ 2 ∷ []) [] ∷ []) ≡ 1
unfolding clipped_ticks clips clipped value demand
demanded_alone = refl
