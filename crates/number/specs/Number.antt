-- The number form: "decimal, right-justified with spaces .. A minus stands directly before the digits; there are no leading zeros, no plus,
-- no minus zero." One text for each width and number; a column is read as the number whose text it is.
use Rattle.std.specs.Prelude.{ℕ, zero, suc, ◌+◌, ◌-◌, ◌*◌, ◌/◌, ◌%◌, ◌^◌, Bool, true, false, List, [], ◌∷◌, ◌++◌, eqb, ltb, ℤ, pos, negsuc, neg_ℤ, length, replicate}
use Rattle.std.proofs.Math.Option.{Option, none, some}
use Rattle.word.specs.Choice.{pick, ◌and◌}
use Rattle.word.specs.Word.{low}

abbrev pub space : ℕ
space = 32

abbrev pub minus : ℕ
minus = 45

abbrev pub digit : ℕ → ℕ
digit d = 48 + d

-- the decimal digits of n, of which there are at most k
unfoldable pub digits : ℕ → ℕ → List ℕ
digits zero n = []
digits (suc k) n = let front = digits k (n / 10) in pick (ltb n 10) (digit n ∷ []) (front ++ (digit (n % 10) ∷ []))

-- the decimal text of a natural number: "no leading zeros"
unfoldable pub decimal : ℕ → List ℕ
decimal n = digits (suc n) n

-- "A minus stands directly before the digits"
unfoldable pub numeral : ℤ → List ℕ
numeral (pos n) = decimal n
numeral (negsuc n) = minus ∷ decimal (suc n)

-- the text of a number in a column of the width w: "right-justified with spaces"
unfoldable pub column : ℕ → ℤ → List ℕ
column w z = replicate (w - length (numeral z)) space ++ numeral z

-- whether two texts are the same
abbrev pub same : List ℕ → List ℕ → Bool
same [] [] = true
same [] (y ∷ ys) = false
same (x ∷ xs) [] = false
same (x ∷ xs) (y ∷ ys) = eqb x y and same xs ys

-- whether the byte stands in the text
abbrev pub contains : ℕ → List ℕ → Bool
contains x [] = false
contains x (y ∷ ys) = pick (eqb y x) true (contains x ys)

-- what the digits of a text amount to after n; a space or a minus, below the digits, counts as 0
abbrev pub amount : ℕ → List ℕ → ℕ
amount n [] = n
amount n (b ∷ bs) = amount (10 * n + (b - 48)) bs

-- "a 32-bit number"
abbrev pub fits : ℤ → Bool
fits (pos n) = ltb n (2 ^ 31)
fits (negsuc n) = ltb n (2 ^ 31)

-- the one number that a column can be the text of
unfoldable pub candidate : List ℕ → ℤ
candidate text = pick (contains minus text) (neg_ℤ (pos (amount 0 text))) (pos (amount 0 text))

-- "a 32-bit number of the form": the number whose text the column is
unfoldable pub number_in : List ℕ → Option ℤ
number_in text = let z = candidate text in pick (same (column (length text) z) text and fits z) (some z) none

-- a number as it stands in a table
abbrev pub word_of : Option ℤ → ℕ
word_of none = 0
word_of (some z) = low z
