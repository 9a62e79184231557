-- What the helper functions promise. No entry's contract cites these.
use Rattle.std.specs.Prelude.{ℕ, ◌<◌, ◌≡◌, ◌≢◌, true, false, drop, List, [], ◌∷◌, Option, Some, None, MatchOption, length, get_or}
use Rattle.player.specs.Samples.{Said, inputs, control, malformed, control_word, words}
use Rattle.word.specs.Tick.{head_or}
use Rattle.number.specs.Number.{same}
use Rattle.std.specs.Borrow.{Bor}
use Rattle.player.specs.declared.samples.Kind.{Kind}
use Rattle.player.specs.declared.samples.Kind.TheVariants.{Tick, Control}

-- where the first such byte stands
abbrev pub FirstByte : List ℕ → ℕ → Option ℕ → Type 0
FirstByte text byte r =
    MatchOption r ((k : ℕ) → k < length text → get_or text k 0 ≢ byte)
    (λ p. (p < length text) × (((k : ℕ) → k < p → get_or text k 0 ≢ byte) × (get_or text p 0 ≡ byte)))

-- the first word of a line, and the line behind it
pub record Word (line word rest : List ℕ) : Type 0 where
  pub words-are : words line ≡ word ∷ words rest
  pub shorter : length rest < length line

abbrev pub FirstWord : List ℕ → Option (Bor (List ℕ) × Bor (List ℕ)) → Type 0
FirstWord line r = MatchOption r (words line ≡ []) (λ p. Word line p.0.now p.1.now)

-- what follows the first word of a line, where it is `control`
abbrev pub ControlLine : List ℕ → Option (Bor (List ℕ)) → Type 0
ControlLine line r =
    MatchOption r (same (head_or [] (words line)) control_word ≡ false)
    (λ rest. (same (head_or [] (words line)) control_word ≡ true) × (words rest.now ≡ drop 1 (words line)))

-- what a line says, without the inputs of a tick
abbrev pub kind_of : Said → Option Kind
kind_of (inputs xs) = Some Tick
kind_of (control slot value) = Some (Control slot value)
kind_of malformed = None
