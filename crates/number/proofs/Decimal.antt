-- Decimal texts: one digit more, the digits all, how many, and that a row of digits without a zero in front is the text of what it amounts to.
use Prim.Native.Nat.{ℕ, zero, suc, ◌+◌, ◌-◌, ◌*◌, ◌/◌, ◌%◌, ◌^◌, ◌≤◌, ◌<◌}
use mathlib.Core.Path.{◌≡◌, refl, sym, ap, subst, ◌∙◌}
use mathlib.Core.Bool.{Bool, true, false}
use mathlib.Core.List.{List, [], ◌∷◌, ◌++◌, append_assoc, append-nil}
use native.Mathlib.Decide.{dec_lt}
use native.Mathlib.Omega.{arith}
use native.Mathlib.Nat.{pow-suc}
use borrow.Author.Tests.{ltb-false, lt-ltb, le-ltb}
use lib.Dec.{ltb}
use lib.ListN.{length, get_or, length-append, get_or-append}
use Rattle.word.specs.Tick.{Each}
use Rattle.word.proofs.Each.{each_append}
use Rattle.number.specs.Number.{digit, digits, decimal, amount}

-- the bound on the digits is of no account where it is above the number
digits_bound : (k j n : ℕ) → n < k → n < j → digits k n ≡ digits j n
unfolding digits
digits_bound zero j n h g = absurd (omega arith)
digits_bound (suc k) zero n h g = absurd (omega arith)
digits_bound (suc k) (suc j) n h g = go (ltb n 10) refl (digits_bound k j (n / 10))
  where
    go : (b : Bool) → ltb n 10 ≡ b → (n / 10 < k → n / 10 < j → digits k (n / 10) ≡ digits j (n / 10)) → digits (suc k) n ≡ digits (suc j) n
    go true e f = rw e
    go false e f = let l : 10 ≤ n = ltb-false n 10 e in rw (e, f (omega arith) (omega arith))

pub decimal-small : (n : ℕ) → n < 10 → decimal n ≡ digit n ∷ []
unfolding decimal digits
decimal-small n h = rw (lt-ltb n 10 h)

pub decimal-last : (n : ℕ) → 10 ≤ n → decimal n ≡ decimal (n / 10) ++ (digit (n % 10) ∷ [])
unfolding decimal digits
decimal-last n h = rw (le-ltb n 10 h, digits_bound n (suc (n / 10)) (n / 10) (omega arith) (omega arith))

pub decimal-more : (n d : ℕ) → 0 < n → d < 10 → decimal (10 * n + d) ≡ decimal n ++ (digit d ∷ [])
decimal-more n d h g =
    let q : (10 * n + d) / 10 ≡ n = omega arith in
    let r : (10 * n + d) % 10 ≡ d = omega arith in
    decimal-last (10 * n + d) (omega arith) ∙ rw (q, r)

-- what holds of the digits, and of a number with one digit more, holds of every number
pub by_digits : (P : ℕ → Type 0) → ((d : ℕ) → d < 10 → P d) → ((n d : ℕ) → 0 < n → d < 10 → P n → P (10 * n + d)) → (n : ℕ) → P n
by_digits P one more n = go (suc n) n (omega arith)
  where
    step : (k m : ℕ) → Dec (m < 10) → m < suc k → (m / 10 < k → P (m / 10)) → P m
    step k m (yes g) h f = one m g
    step k m (no g) h f =
        let e : 10 * (m / 10) + m % 10 ≡ m = omega arith in
        subst P e (more (m / 10) (m % 10) (omega arith) (omega arith) (f (omega arith)))

    go : (k m : ℕ) → m < k → P m
    go zero m h = absurd (omega arith)
    go (suc k) m h = step k m (dec_lt m 10) h (go k (m / 10))

pub record IsDigit (b : ℕ) : Type 0 where
  pub least : 48 ≤ b
  pub most : b < 58

abbrev pub AllDigits : List ℕ → Type 0
AllDigits bs = Each IsDigit bs

is_digit : (d : ℕ) → d < 10 → AllDigits (digit d ∷ [])
is_digit d h = (record { least = omega arith; most = omega arith }, tt)

pub decimal-digits : (n : ℕ) → AllDigits (decimal n)
decimal-digits =
    by_digits (λ n. AllDigits (decimal n)) (λ d h. rw (decimal-small d h) (is_digit d h))
    (λ n d h g p. rw (decimal-more n d h g) (each_append IsDigit (decimal n) (digit d ∷ []) p (is_digit d g)))

pub amount_append : (n : ℕ) (xs ys : List ℕ) → amount n (xs ++ ys) ≡ amount (amount n xs) ys
amount_append n [] ys = refl
amount_append n (x ∷ xs) ys = amount_append (10 * n + (x - 48)) xs ys

pub decimal-amount : (n : ℕ) → amount 0 (decimal n) ≡ n
decimal-amount =
    by_digits (λ n. amount 0 (decimal n) ≡ n) (λ d h. rw (decimal-small d h) (omega arith))
    (λ n d h g p. rw (decimal-more n d h g, amount_append 0 (decimal n) (digit d ∷ []), p) (omega arith))

pub decimal-some : (n : ℕ) → 0 < length (decimal n)
decimal-some =
    by_digits (λ n. 0 < length (decimal n)) (λ d h. rw (decimal-small d h) (omega arith))
    (λ n d h g p. rw (decimal-more n d h g, length-append (decimal n) (digit d ∷ [])) (omega arith))

-- "no leading zeros"
pub decimal-first : (n : ℕ) → 0 < n → get_or (decimal n) 0 0 ≡ 48 → ⊥
decimal-first =
    by_digits (λ n. 0 < n → get_or (decimal n) 0 0 ≡ 48 → ⊥)
    (λ d h z e. let q : 48 + d ≡ 48 = rw (decimal-small d h) at e in omega arith)
    (λ n d h g p z e. p h (sym (get_or-append (decimal n) (digit d ∷ []) 0 0 (decimal-some n)) ∙ (rw (decimal-more n d h g) at e)))

-- a number below the k-th power of ten has at most k digits
pub decimal-length : (n k : ℕ) → 0 < k → n < 10 ^ k → length (decimal n) ≤ k
decimal-length =
    by_digits (λ n. (k : ℕ) → 0 < k → n < 10 ^ k → length (decimal n) ≤ k) (λ d h k z l. rw (decimal-small d h) (omega arith))
    (λ n d h g p k z l. longer n d k h g p l)
  where
    longer : (n d k : ℕ) → 0 < n → d < 10 → ((k : ℕ) → 0 < k → n < 10 ^ k → length (decimal n) ≤ k) → 10 * n + d < 10 ^ k → length (decimal (10 * n + d)) ≤ k
    longer n d zero h g p l = absurd (omega arith)
    longer n d (suc zero) h g p l = absurd (omega arith)
    longer n d (suc (suc k)) h g p l =
        let e : 10 ^ suc (suc k) ≡ 10 ^ suc k * 10 = pow-suc 10 (suc k) in
        rw (decimal-more n d h g, length-append (decimal n) (digit d ∷ [])) (omega (arith, p (suc k) (omega arith) (omega arith)))

pub decimal_append : (n : ℕ) (bs : List ℕ) → 0 < n → AllDigits bs → decimal n ++ bs ≡ decimal (amount n bs)
decimal_append n [] h p = append-nil (decimal n)
decimal_append n (b ∷ bs) h p =
    let d : IsDigit b = p.0 in
    let e : digit (b - 48) ≡ b = omega arith in
    sym (append_assoc (decimal n) (b ∷ []) bs)
    ∙ ap (λ (l : List ℕ). l ++ bs) (ap (λ (x : ℕ). decimal n ++ (x ∷ [])) (sym e) ∙ sym (decimal-more n (b - 48) h (omega arith)))
    ∙ decimal_append (10 * n + (b - 48)) bs (omega arith) p.1
