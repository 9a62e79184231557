-- No line feed stands in a column.
use Prim.Native.Nat.{ℕ, zero, suc, ◌-◌}
use mathlib.Core.Path.{◌≡◌}
use mathlib.Core.List.{List, [], ◌∷◌, ◌++◌}
use native.Mathlib.Omega.{arith}
use lib.IntN.{ℤ, pos, negsuc}
use lib.ListN.{length, replicate}
use Rattle.word.specs.Tick.{Each}
use Rattle.word.proofs.Each.{each_append}
use Rattle.number.specs.Number.{space, minus, decimal, numeral, column}
use Rattle.number.specs.Row.{line_feed, columns}
use Rattle.number.proofs.Decimal.{IsDigit, AllDigits, decimal-digits}

abbrev pub NoFeed : List ℕ → Type 0
NoFeed bs = Each (λ b. b ≡ line_feed → ⊥) bs

pub append_no_feed : (xs ys : List ℕ) → NoFeed xs → NoFeed ys → NoFeed (xs ++ ys)
append_no_feed = each_append (λ b. b ≡ line_feed → ⊥)

spaces_no_feed : (k : ℕ) → NoFeed (replicate k space)
spaces_no_feed zero = tt
spaces_no_feed (suc k) = (λ e. omega arith, spaces_no_feed k)

digits_no_feed : (xs : List ℕ) → AllDigits xs → NoFeed xs
digits_no_feed [] p = tt
digits_no_feed (x ∷ xs) p = let d : IsDigit x = p.0 in (λ e. omega (arith, d.least), digits_no_feed xs p.1)

pub column_no_feed : (w : ℕ) (z : ℤ) → NoFeed (column w z)
unfolding column numeral
column_no_feed w (pos n) = append_no_feed (replicate (w - length (decimal n)) space) (decimal n) (spaces_no_feed (w - length (decimal n))) (digits_no_feed (decimal n) (decimal-digits n))
column_no_feed w (negsuc n) =
    append_no_feed (replicate (w - suc (length (decimal (suc n)))) space) (minus ∷ decimal (suc n)) (spaces_no_feed (w - suc (length (decimal (suc n)))))
    (λ e. omega arith, digits_no_feed (decimal (suc n)) (decimal-digits (suc n)))

pub columns_no_feed : (zs : List ℤ) → NoFeed (columns zs)
columns_no_feed [] = tt
columns_no_feed (z ∷ zs) = append_no_feed (column 12 z) (columns zs) (column_no_feed 12 z) (columns_no_feed zs)
