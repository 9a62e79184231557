-- The worked clocks of source document 002, and clocks of other numbers than 0 and 1 (E1), computed.
use Prim.Native.Nat.{ℕ, ◌^◌, ◌-◌}
use mathlib.Core.Path.{◌≡◌, refl}
use mathlib.Core.Bool.{true}
use mathlib.Core.List.{List, [], ◌∷◌, map}
use lib.IntN.{pos}
use lib.ListN.{get_or}
use Rattle.word.specs.Operation.{demand}
use Rattle.signal.specs.Clock.{Clock, star, demands_before, plus, ◌⊗◌}

-- a clock that is written out, and 0 from then on
abbrev clock : List ℕ → Clock
clock xs t = get_or xs t 0

times : List ℕ
times = 0 ∷ 1 ∷ 2 ∷ 3 ∷ 4 ∷ 5 ∷ 6 ∷ 7 ∷ 8 ∷ 9 ∷ []

-- §3.1: h = 1,0,0,1,0,0,0,1,0 has h* = 0,3,7 and h+ = 0,0,0,1,1,1,1,2,2
demands-at : map (star 9 (clock (1 ∷ 0 ∷ 0 ∷ 1 ∷ 0 ∷ 0 ∷ 0 ∷ 1 ∷ 0 ∷ []))) (0 ∷ 1 ∷ 2 ∷ []) ≡ 0 ∷ 3 ∷ 7 ∷ []
unfolding star demand
demands-at = refl

demands-counted : map (plus (clock (1 ∷ 0 ∷ 0 ∷ 1 ∷ 0 ∷ 0 ∷ 0 ∷ 1 ∷ 0 ∷ []))) (0 ∷ 1 ∷ 2 ∷ 3 ∷ 4 ∷ 5 ∷ 6 ∷ 7 ∷ 8 ∷ [])
    ≡ map pos (0 ∷ 0 ∷ 0 ∷ 1 ∷ 1 ∷ 1 ∷ 1 ∷ 2 ∷ 2 ∷ [])
unfolding plus demands_before demand
demands-counted = refl

-- other numbers than 1 are demands at the same times: h = 3,0,0,-1,0,0,0,-2147483648,0
abbrev h : Clock
h = clock (3 ∷ 0 ∷ 0 ∷ (2 ^ 32 - 1) ∷ 0 ∷ 0 ∷ 0 ∷ (2 ^ 31) ∷ 0 ∷ [])

others_at : map (star 9 h) (0 ∷ 1 ∷ 2 ∷ []) ≡ 0 ∷ 3 ∷ 7 ∷ []
unfolding star demand
others_at = refl

others_counted : map (plus h) (0 ∷ 1 ∷ 2 ∷ 3 ∷ 4 ∷ 5 ∷ 6 ∷ 7 ∷ 8 ∷ []) ≡ map pos (0 ∷ 0 ∷ 0 ∷ 1 ∷ 1 ∷ 1 ∷ 1 ∷ 2 ∷ 2 ∷ [])
unfolding plus demands_before demand
others_counted = refl

-- §4.4 and §4.6: h₀ ⊗ h₁ and h₁ ⊗ h₀
abbrev h₀ : Clock
h₀ = clock (1 ∷ 0 ∷ 1 ∷ 0 ∷ 1 ∷ 0 ∷ 1 ∷ 0 ∷ 1 ∷ 0 ∷ [])

abbrev h₁ : Clock
h₁ = clock (1 ∷ 1 ∷ 0 ∷ 1 ∷ 0 ∷ 0 ∷ 1 ∷ 0 ∷ 0 ∷ 0 ∷ [])

combined : map (h₀ ⊗ h₁) times ≡ 1 ∷ 0 ∷ 0 ∷ 1 ∷ 0 ∷ 0 ∷ 0 ∷ 0 ∷ 0 ∷ 0 ∷ []
unfolding times plus demands_before demand
combined = refl

not_commuting : map (h₁ ⊗ h₀) times ≡ 1 ∷ 0 ∷ 1 ∷ 0 ∷ 0 ∷ 0 ∷ 1 ∷ 0 ∷ 0 ∷ 0 ∷ []
unfolding times plus demands_before demand
not_commuting = refl

-- the low 32 bits of 65536 times 65536 are 0; the product is not
not_wrapping : demand ((clock ((2 ^ 16) ∷ []) ⊗ clock ((2 ^ 16) ∷ [])) 0) ≡ true
unfolding plus demands_before demand
not_wrapping = refl
