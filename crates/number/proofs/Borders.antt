-- The laws at their borders: a premise that asked for more, or a conclusion that said less, would fail here.
use Prim.Native.Nat.{ℕ}
use mathlib.Core.Path.{◌≡◌, refl}
use mathlib.Core.List.{List, [], ◌∷◌}
use mathlib.Core.Option.{some}
use native.Mathlib.Omega.{arith}
use lib.IntN.{ℤ, pos, negsuc}
use lib.ListN.{length}
use Rattle.number.specs.Number.{digits, decimal, numeral, column, number_in}
use Rattle.number.specs.Laws.{ColumnWritten}
use Rattle.number.proofs.Texts.{number_law}
use Rattle.number.proofs.Written.{column_law}

-- "-2147483648" and "2147483647", in columns with just room for them
least-read : number_in (45 ∷ 50 ∷ 49 ∷ 52 ∷ 55 ∷ 52 ∷ 56 ∷ 51 ∷ 54 ∷ 52 ∷ 56 ∷ []) ≡ some (negsuc 2147483647)
unfolding column numeral decimal digits
least-read = (number_law (45 ∷ 50 ∷ 49 ∷ 52 ∷ 55 ∷ 52 ∷ 56 ∷ 51 ∷ 54 ∷ 52 ∷ 56 ∷ []) (negsuc 2147483647)).1 (refl, refl)

largest_read : number_in (50 ∷ 49 ∷ 52 ∷ 55 ∷ 52 ∷ 56 ∷ 51 ∷ 54 ∷ 52 ∷ 55 ∷ []) ≡ some (pos 2147483647)
unfolding column numeral decimal digits
largest_read = (number_law (50 ∷ 49 ∷ 52 ∷ 55 ∷ 52 ∷ 56 ∷ 51 ∷ 54 ∷ 52 ∷ 55 ∷ []) (pos 2147483647)).1 (refl, refl)

only_its_text : (c : List ℕ) (z : ℤ) → number_in c ≡ some z → column (length c) z ≡ c
only_its_text c z e = ((number_law c z).0 e).0

-- "-1" just fills a column at the end of "abc": the byte before it stays
full-column : (line : List ℕ) → ColumnWritten (97 ∷ 98 ∷ 99 ∷ []) 1 2 (negsuc 0) line → line ≡ 97 ∷ 45 ∷ 49 ∷ []
unfolding column numeral decimal digits
full-column line w = (column_law (97 ∷ 98 ∷ 99 ∷ []) line 1 2 (negsuc 0) (omega arith) (omega arith) refl).0 w

full_column_written : ColumnWritten (97 ∷ 98 ∷ 99 ∷ []) 1 2 (negsuc 0) (97 ∷ 45 ∷ 49 ∷ [])
unfolding column numeral decimal digits
full_column_written = (column_law (97 ∷ 98 ∷ 99 ∷ []) (97 ∷ 45 ∷ 49 ∷ []) 1 2 (negsuc 0) (omega arith) (omega arith) refl).1 refl

-- "  7" inside "abcde", and what it is read as
inner_column : (line : List ℕ) → ColumnWritten (97 ∷ 98 ∷ 99 ∷ 100 ∷ 101 ∷ []) 1 3 (pos 7) line → line ≡ 97 ∷ 32 ∷ 32 ∷ 55 ∷ 101 ∷ []
unfolding column numeral decimal digits
inner_column line w = (column_law (97 ∷ 98 ∷ 99 ∷ 100 ∷ 101 ∷ []) line 1 3 (pos 7) (omega arith) (omega arith) refl).0 w

inner_column_read : number_in (32 ∷ 32 ∷ 55 ∷ []) ≡ some (pos 7)
unfolding column numeral decimal digits
inner_column_read = ((column_law (97 ∷ 98 ∷ 99 ∷ 100 ∷ 101 ∷ []) (97 ∷ 32 ∷ 32 ∷ 55 ∷ 101 ∷ []) 1 3 (pos 7) (omega arith) (omega arith) refl).1 refl).holds.number
