-- The two parts of the input: the circuit, and the samples after the first empty line.
use Prim.Native.Nat.{ℕ, zero, suc, ◌+◌, ◌≤◌, ◌<◌}
use mathlib.Core.Path.{◌≡◌, refl, ap}
use mathlib.Core.Bool.{Bool, true, false}
use mathlib.Core.List.{List, [], ◌∷◌, ◌++◌}
use mathlib.Core.Logic.{◌⊎◌, inl, inr, ⊎_elim}
use native.Mathlib.Omega.{arith}
use borrow.Author.Tests.{eqb-true, eq-eqb}
use lib.Dec.{eqb}
use lib.ListN.{length, get_or, take, drop, drop_of_length-le, length-append}
use Rattle.word.specs.Choice.{pick, ◌and◌}
use Rattle.number.specs.Row.{line_feed}
use Rattle.number.proofs.Scan.{drop_at}
use Rattle.player.specs.Samples.{up_to_empty, circuit_part, samples_part}
use Rattle.player.specs.Laws.{CircuitOfFirst, InputParts}

up_to_empty_take : (k last : ℕ) (input : List ℕ) → up_to_empty last (take k input) ≡ take k (up_to_empty last input)
up_to_empty_take zero last input = refl
up_to_empty_take (suc k) last [] = refl
up_to_empty_take (suc k) last (b ∷ bs) = go (eqb b line_feed and eqb last line_feed) (up_to_empty_take k b bs)
  where
    go : (t : Bool) → up_to_empty b (take k bs) ≡ take k (up_to_empty b bs) → pick t [] (b ∷ up_to_empty b (take k bs)) ≡ take (suc k) (pick t [] (b ∷ up_to_empty b bs))
    go true e = refl
    go false e = ap {B = List ℕ} (λ l. b ∷ l) e

pub circuit_of_first : CircuitOfFirst
unfolding circuit_part
circuit_of_first k input = up_to_empty_take k line_feed input

abbrev Parted : List ℕ → List ℕ → Type 0
Parted circuit input = (circuit ++ (line_feed ∷ drop (suc (length circuit)) input) ≡ input) ⊎ ((circuit ≡ input) × (drop (suc (length circuit)) input ≡ []))

parted : (last : ℕ) (input : List ℕ) → Parted (up_to_empty last input) input
parted last [] = inr (refl, refl)
parted last (b ∷ bs) = go (eqb b line_feed) (eqb last line_feed) refl (parted b bs)
  where
    more : Parted (up_to_empty b bs) bs → Parted (b ∷ up_to_empty b bs) (b ∷ bs)
    more (inl e) = inl (ap {B = List ℕ} (λ l. b ∷ l) e)
    more (inr p) = inr (ap {B = List ℕ} (λ l. b ∷ l) p.0, p.1)

    go : (t u : Bool) → eqb b line_feed ≡ t → Parted (up_to_empty b bs) bs → Parted (pick (t and u) [] (b ∷ up_to_empty b bs)) (b ∷ bs)
    go true true e p = inl (rw (eqb-true b line_feed e))
    go true false e p = more p
    go false u e p = more p

pub input_parts : InputParts
unfolding circuit_part samples_part
input_parts input = parted line_feed input

pub circuit-within : (input : List ℕ) → length (circuit_part input) ≤ length input
circuit-within input =
    ⊎_elim (λ (e : circuit_part input ++ (line_feed ∷ samples_part input) ≡ input). omega (arith, ap length e, length-append (circuit_part input) (line_feed ∷ samples_part input)))
    (λ (p : (circuit_part input ≡ input) × (samples_part input ≡ [])). omega (arith, ap length p.0)) (input_parts input)

-- the length of the circuit, byte by byte
module _ (input : List ℕ) (at last : ℕ) where
  pub circuit-more : at < length input → (get_or input at 0 ≡ line_feed → last ≡ line_feed → ⊥) → length (up_to_empty last (drop at input)) ≡ 1 + length (up_to_empty (get_or input at 0) (drop (at + 1) input))
  circuit-more h n = rw (drop_at input at h) (go (eqb (get_or input at 0) line_feed) (eqb last line_feed) refl refl)
    where
      go : (t u : Bool) → eqb (get_or input at 0) line_feed ≡ t → eqb last line_feed ≡ u
          → length (pick (t and u) [] (get_or input at 0 ∷ up_to_empty (get_or input at 0) (drop (at + 1) input))) ≡ 1 + length (up_to_empty (get_or input at 0) (drop (at + 1) input))
      go true true p q = absurd (n (eqb-true _ _ p) (eqb-true _ _ q))
      go true false p q = omega arith
      go false u p q = omega arith

  pub circuit_ends : at < length input → get_or input at 0 ≡ line_feed → last ≡ line_feed → length (up_to_empty last (drop at input)) ≡ 0
  circuit_ends h e f = rw (drop_at input at h, eq-eqb (get_or input at 0) line_feed e, eq-eqb last line_feed f)

  pub circuit-none : length input ≤ at → length (up_to_empty last (drop at input)) ≡ 0
  circuit-none h = rw (drop_of_length-le input h)
