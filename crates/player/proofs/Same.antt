-- Whether two texts are the same: whether each byte is.
use Rattle.std.proofs.Common.{◌≡◌, ◌&&◌, ℕ, Bool, true, false, eqb, List, [], ◌∷◌, refl}
use lib.Pointwise.{pointwise}
use Rattle.word.specs.Choice.{◌and◌}
use Rattle.number.specs.Number.{same}

pub same_bytes : (a b : List ℕ) → pointwise eqb a b ≡ same a b
same_bytes [] [] = refl
same_bytes [] (y ∷ ys) = refl
same_bytes (x ∷ xs) [] = refl
same_bytes (x ∷ xs) (y ∷ ys) = rw (same_bytes xs ys) (go (eqb x y) (same xs ys))
  where
    go : (t u : Bool) → t && u ≡ t and u
    go true u = refl
    go false u = refl
