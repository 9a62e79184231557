-- The one law of the number form: a column is read as the number whose text it is, and nothing else is read. Then the same by the bytes
-- in order: spaces, a minus, digits.
use Prim.Native.Nat.{ℕ, zero, suc, ◌+◌, ◌-◌, ◌≤◌, ◌<◌}
use mathlib.Core.Path.{◌≡◌, refl, sym, ap, subst, ◌∙◌}
use mathlib.Core.Bool.{Bool, true, false}
use mathlib.Core.List.{List, [], ◌∷◌, ◌++◌}
use mathlib.Core.Option.{Option, none, some}
use native.Mathlib.Decide.{dec_le}
use native.Mathlib.Omega.{arith}
use borrow.Author.Tests.{eqb-true, eq-eqb, ne_eqb}
use lib.Dec.{eqb}
use lib.IntN.{ℤ, pos, negsuc}
use lib.ListN.{length, get_or, drop, replicate, length-append, length-replicate}
use Rattle.word.specs.Choice.{pick, ◌and◌}
use Rattle.word.proofs.Lists.{first-true, second-true}
use Rattle.number.specs.Number.{space, decimal, numeral, column, same, contains, amount, fits, candidate, number_in}
use Rattle.number.specs.Laws.{NumberLaw}
use Rattle.number.proofs.Decimal.{IsDigit, AllDigits, decimal-digits, decimal-amount, decimal-some}

-- equality of texts
pub same_refl : (xs : List ℕ) → same xs xs ≡ true
same_refl [] = refl
same_refl (x ∷ xs) = rw (eq-eqb x x refl, same_refl xs)

pub same_true : (xs ys : List ℕ) → same xs ys ≡ true → xs ≡ ys
same_true [] [] e = refl
same_true [] (y ∷ ys) e = cc
same_true (x ∷ xs) [] e = cc
same_true (x ∷ xs) (y ∷ ys) e =
    let h : x ≡ y = eqb-true x y (first-true (eqb x y) (same xs ys) e) in
    let t : xs ≡ ys = same_true xs ys (second-true (eqb x y) (same xs ys) e) in
    cc

pub same_false : (xs ys : List ℕ) → (xs ≡ ys → ⊥) → same xs ys ≡ false
same_false xs ys n = go (same xs ys) refl
  where
    go : (b : Bool) → same xs ys ≡ b → b ≡ false
    go true e = absurd (n (same_true xs ys e))
    go false e = refl

-- the bytes before the digits, and those of the digits
spaces_amount : (k : ℕ) (xs : List ℕ) → amount 0 (replicate k 32 ++ xs) ≡ amount 0 xs
spaces_amount zero xs = refl
spaces_amount (suc k) xs = spaces_amount k xs

spaces_has : (k : ℕ) (xs : List ℕ) → contains 45 (replicate k 32 ++ xs) ≡ contains 45 xs
spaces_has zero xs = refl
spaces_has (suc k) xs = spaces_has k xs

digits-has : (xs : List ℕ) → AllDigits xs → contains 45 xs ≡ false
digits-has [] p = refl
digits-has (x ∷ xs) p =
    let d : IsDigit x = p.0 in
    rw (ne_eqb x 45 (omega arith)) (digits-has xs p.1)

digits-head : (xs : List ℕ) → 0 < length xs → AllDigits xs → 48 ≤ get_or xs 0 0
digits-head [] h p = absurd (omega arith)
digits-head (x ∷ xs) h p = p.0.least

-- the law, first half: a text that has room in its column is read as its number
pub column-length : (w : ℕ) (z : ℤ) → length (numeral z) ≤ w → length (column w z) ≡ w
unfolding column
column-length w z h = rw (length-append (replicate (w - length (numeral z)) space) (numeral z), length-replicate (w - length (numeral z)) space) (omega arith)

column-candidate : (w : ℕ) (z : ℤ) → candidate (column w z) ≡ z
unfolding candidate column numeral
column-candidate w (pos n) =
    rw (spaces_has (w - length (decimal n)) (decimal n), digits-has (decimal n) (decimal-digits n), spaces_amount (w - length (decimal n)) (decimal n), decimal-amount n)
column-candidate w (negsuc n) =
    rw (spaces_has (w - suc (length (decimal (suc n)))) (45 ∷ decimal (suc n)), spaces_amount (w - suc (length (decimal (suc n)))) (45 ∷ decimal (suc n)), decimal-amount (suc n))

pub column-read : (w : ℕ) (z : ℤ) → length (numeral z) ≤ w → fits z ≡ true → number_in (column w z) ≡ some z
unfolding number_in
column-read w z h f = rw (column-candidate w z, column-length w z h, same_refl (column w z), f)

-- the second half: what is read is the text of what it is read as
pub read-column : (c : List ℕ) (z : ℤ) → number_in c ≡ some z → (column (length c) z ≡ c) × (fits z ≡ true)
unfolding number_in
read-column c z e = go (same (column (length c) (candidate c)) c and fits (candidate c)) refl e
  where
    go : (b : Bool) → same (column (length c) (candidate c)) c and fits (candidate c) ≡ b → pick b (some (candidate c)) none ≡ some z → (column (length c) z ≡ c) × (fits z ≡ true)
    go true t e =
        let y : candidate c ≡ z = cc in
        rw (← y) (
          same_true (column (length c) (candidate c)) c (first-true (same (column (length c) (candidate c)) c) (fits (candidate c)) t),
          second-true (same (column (length c) (candidate c)) c) (fits (candidate c)) t,
        )
    go false t e = let q : ◌≡◌ {A = ℕ} 0 1 = cc in absurd (omega arith)

pub no_number : (c : List ℕ) → ((z : ℤ) → column (length c) z ≡ c → fits z ≡ true → ⊥) → number_in c ≡ none
no_number c n = go (number_in c) refl
  where
    go : (o : Option ℤ) → number_in c ≡ o → o ≡ none
    go none e = refl
    go (some z) e = absurd (n z (read-column c z e).0 (read-column c z e).1)

pub number_law : NumberLaw
number_law c z = (read-column c z, λ p. subst (λ (t : List ℕ). number_in t ≡ some z) p.0 (column-read (length c) z (has_room c z p.0) p.1))
  where
    has_room : (c : List ℕ) (z : ℤ) → column (length c) z ≡ c → length (numeral z) ≤ length c
    has_room c z e =
        let l : length (column (length c) z) ≡ length c = ap length e in
        let a : length (column (length c) z) ≡ (length c - length (numeral z)) + length (numeral z) =
        unfold column in length-append (replicate (length c - length (numeral z)) space) (numeral z) ∙ ap (λ (k : ℕ). k + length (numeral z)) (length-replicate (length c - length (numeral z)) space) in
        omega arith

-- the same by the bytes in order. A space in front changes nothing.
numeral-head : (z : ℤ) → get_or (numeral z) 0 0 ≡ space → ⊥
unfolding numeral
numeral-head (pos n) e = let h : 48 ≤ get_or (decimal n) 0 0 = digits-head (decimal n) (decimal-some n) (decimal-digits n) in omega arith
numeral-head (negsuc n) e = omega arith

pub numeral-some : (z : ℤ) → 0 < length (numeral z)
unfolding numeral
numeral-some (pos n) = decimal-some n
numeral-some (negsuc n) = omega arith

pub column-full : (w : ℕ) (z : ℤ) → w ≤ length (numeral z) → column w z ≡ numeral z
unfolding column
column-full w z h = let e : w - length (numeral z) ≡ 0 = omega arith in rw e

pub column_wider : (w : ℕ) (z : ℤ) → length (numeral z) ≤ w → column (suc w) z ≡ space ∷ column w z
unfolding column
column_wider w z h = let e : suc w - length (numeral z) ≡ suc (w - length (numeral z)) = omega arith in rw e

same-space : (z : ℤ) (c : List ℕ) → same (column (suc (length c)) z) (space ∷ c) ≡ same (column (length c) z) c
same-space z c = go (dec_le (length (numeral z)) (length c))
  where
    go : Dec (length (numeral z) ≤ length c) → same (column (suc (length c)) z) (space ∷ c) ≡ same (column (length c) z) c
    go (yes h) = rw (column_wider (length c) z h)
    go (no h) =
        let w : suc (length c) ≤ length (numeral z) = omega arith in
        let v : length c ≤ length (numeral z) = omega arith in
        rw (column-full (suc (length c)) z w, column-full (length c) z v)
        (same_false (numeral z) (space ∷ c) (λ e. numeral-head z (ap (λ (l : List ℕ). get_or l 0 0) e))
        ∙ sym (same_false (numeral z) c (λ e. let l : length (numeral z) ≡ length c = ap length e in omega arith)))

skip-space : (c : List ℕ) → number_in (space ∷ c) ≡ number_in c
unfolding number_in candidate
skip-space c = rw (same-space (candidate c) c)

pub skip_spaces : (r : ℕ) (c : List ℕ) → r ≤ length c → ((k : ℕ) → k < r → get_or c k 0 ≡ space) → number_in (drop r c) ≡ number_in c
skip_spaces zero c h a = refl
skip_spaces (suc r) [] h a = absurd (omega arith)
skip_spaces (suc r) (b ∷ c) h a =
    let e : b ≡ space = a 0 (omega arith) in
    skip_spaces r c (omega arith) (λ k l. a (suc k) (omega arith)) ∙ sym (skip-space c) ∙ ap (λ (x : ℕ). number_in (x ∷ c)) (sym e)
