-- What keeps playing inside its buffers.
use Rattle.std.proofs.Common.{◌≡◌, ℕ, ◌+◌, ◌-◌, ◌*◌, ◌≤◌, ◌⊎◌, List, [], ◌∷◌, ◌++◌, length, take, drop, ap, inl, inr, arith, length-append, length-take, length-take-le}
use native.Mathlib.Nat.{min-le_left}
use Rattle.word.specs.Tick.{Words}
use Rattle.number.specs.Row.{line_feed}
use Rattle.flat.proofs.Decoded.{code-header}
use Rattle.std.specs.Prelude.{Result, Ok}
use Rattle.refusal.specs.declared.Refusal.{Refusal}
use Rattle.refusal.specs.Answer.{answer_of}
use Rattle.refusal.specs.Outcome.{outcome}
use Rattle.translator.specs.Translate.{translated_table}
use Rattle.listing.proofs.Tables.{is_within, code_passes}
use Rattle.player.specs.Samples.{circuit_part, samples_part}
use Rattle.player.proofs.Parts.{input_parts}
use Rattle.console.specs.Coded.{Coded}

pub coded : (table code : List ℕ) {a : Result ℕ Refusal} {code' : List ℕ} → outcome (answer_of a) code' ≡ translated_table table code → (n : ℕ) → a ≡ Ok n → Words table → length code' ≡ length code → (r : ℕ) → r ≡ n → Coded code' r
coded table code {a} {code'} t n e w l r f =
    rw f (record { within = omega (arith, is_within table code t n e); head = code-header (take n code') (code_passes table code t n e w) })

-- what lies within the bytes from `at` to `end` ends there at the latest
pub part_ends : (buffer : List ℕ) (at end : ℕ) {count : ℕ} → at ≤ end → count ≤ length (take (end - at) (drop at buffer)) → at + count ≤ end
part_ends buffer at end h g = omega (arith, length-take (end - at) (drop at buffer), min-le_left (end - at) (length (drop at buffer)))

-- the samples of a block have room, by the code's count of inputs
pub inputs_fit : (ticks : ℕ) {n m room room' : ℕ} → n ≡ m → room' ≡ room → ticks * n ≤ room → ticks * m ≤ room'
inputs_fit ticks e l h = rw (l, ← e) h

-- the circuit ends where what is held ends, at the latest
circuit-within : (input : List ℕ) → length (circuit_part input) ≤ length input
circuit-within input = go (input_parts input)
  where
    go : (circuit_part input ++ (line_feed ∷ samples_part input) ≡ input) ⊎ ((circuit_part input ≡ input) × (samples_part input ≡ [])) → length (circuit_part input) ≤ length input
    go (inl e) = omega (arith, ap length e, length-append (circuit_part input) (line_feed ∷ samples_part input))
    go (inr (e, _)) = omega (arith, ap length e)

pub circuit_ends : (buffer : List ℕ) {end r : ℕ} → end ≤ length buffer → r ≡ length (circuit_part (take end buffer)) → r ≤ end
circuit_ends buffer {end} h e = omega (arith, circuit-within (take end buffer), length-take-le end buffer h)
