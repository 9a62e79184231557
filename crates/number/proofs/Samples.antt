-- The number form on samples, by computation: texts, and columns that are numbers or not.
use mathlib.Core.Path.{◌≡◌, refl}
use mathlib.Core.List.{[], ◌∷◌, map}
use mathlib.Core.Option.{none, some}
use lib.IntN.{pos, negsuc}
use Rattle.number.specs.Number.{digits, decimal, numeral, column, candidate, number_in}

-- "  -1", and a number that fills its column
text_of_minus_one : column 4 (negsuc 0) ≡ 32 ∷ 32 ∷ 45 ∷ 49 ∷ []
unfolding column numeral decimal digits
text_of_minus_one = refl

text_of_the_least : column 11 (negsuc 2147483647) ≡ 45 ∷ 50 ∷ 49 ∷ 52 ∷ 55 ∷ 52 ∷ 56 ∷ 51 ∷ 54 ∷ 52 ∷ 56 ∷ []
unfolding column numeral decimal digits
text_of_the_least = refl

-- what columns are read as: "   0", "  -0", "  01", "  +1", " - 1", "7   ", "    ", then the ends of the range and one beyond each
columns-read :
    map number_in
    ((32 ∷ 32 ∷ 32 ∷ 48 ∷ []) ∷
    (32 ∷ 32 ∷ 45 ∷ 48 ∷ []) ∷
    (32 ∷ 32 ∷ 48 ∷ 49 ∷ []) ∷
    (32 ∷ 32 ∷ 43 ∷ 49 ∷ []) ∷
    (32 ∷ 45 ∷ 32 ∷ 49 ∷ []) ∷
    (55 ∷ 32 ∷ 32 ∷ 32 ∷ []) ∷
    (32 ∷ 32 ∷ 32 ∷ 32 ∷ []) ∷
    (50 ∷ 49 ∷ 52 ∷ 55 ∷ 52 ∷ 56 ∷ 51 ∷ 54 ∷ 52 ∷ 55 ∷ []) ∷
    (50 ∷ 49 ∷ 52 ∷ 55 ∷ 52 ∷ 56 ∷ 51 ∷ 54 ∷ 52 ∷ 56 ∷ []) ∷
    (45 ∷ 50 ∷ 49 ∷ 52 ∷ 55 ∷ 52 ∷ 56 ∷ 51 ∷ 54 ∷ 52 ∷ 56 ∷ []) ∷
    (45 ∷ 50 ∷ 49 ∷ 52 ∷ 55 ∷ 52 ∷ 56 ∷ 51 ∷ 54 ∷ 52 ∷ 57 ∷ []) ∷
    [])
    ≡ some (pos 0) ∷ none ∷ none ∷ none ∷ none ∷ none ∷ none ∷ some (pos 2147483647) ∷ none ∷ some (negsuc 2147483647) ∷ none ∷ []
unfolding number_in candidate column numeral decimal digits
columns-read = refl
