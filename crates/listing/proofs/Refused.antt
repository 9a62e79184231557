-- The line of a refusal.
use Prim.Native.Nat.{ℕ}
use mathlib.Core.Path.{◌≡◌}
use mathlib.Core.List.{List, [], ◌∷◌}
use Rattle.word.specs.Word.{low}
use Rattle.refusal.specs.declared.Refusal.{Refusal}
use Rattle.refusal.specs.Refusals.{number_of, place_of}
use Rattle.listing.specs.Print.{line, refusal_text}
use Rattle.number.specs.Put.{Put}

pub refusal-put : (r : Refusal) (a b : ℕ) (text : List ℕ) (n : ℕ) (text' : List ℕ) → a ≡ number_of r → b ≡ low (place_of r) →
    Put (line (a ∷ b ∷ [])) text 0 n text' → Put (refusal_text (number_of r) (place_of r)) text 0 n text'
refusal-put r a b text n text' e f p = rw (e, f) at p
