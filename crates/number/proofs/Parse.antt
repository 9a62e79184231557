-- The number form byte by byte, as the code reads it: after the spaces a minus or none, then digits without a zero in front.
use Prim.Native.Nat.{ℕ, zero, suc, ◌+◌, ◌-◌, ◌*◌, ◌^◌, ◌≤◌, ◌<◌}
use mathlib.Core.Path.{◌≡◌, refl, sym, ap, subst, ◌∙◌}
use mathlib.Core.Bool.{Bool, true, false}
use mathlib.Core.List.{List, [], ◌∷◌, ◌++◌}
use mathlib.Core.Option.{Option, none, some}
use native.Mathlib.Decide.{dec_le}
use native.Mathlib.Nat.{zero-add}
use native.Mathlib.Omega.{arith}
use borrow.Author.Tests.{ltb-true, leb-true, lt-ltb, le-leb, lt-leb}
use lib.Dec.{leb, ltb}
use lib.IntN.{ℤ, pos, negsuc}
use lib.ListN.{length, get_or, drop, replicate}
use Rattle.word.specs.Choice.{pick, ◌and◌}
use Rattle.word.proofs.Lists.{first-true, second-true}
use Rattle.number.specs.Number.{space, minus, decimal, numeral, column, same, amount, fits, number_in}
use Rattle.number.specs.Promises.{natural}
use Rattle.number.proofs.Decimal.{IsDigit, AllDigits, decimal-digits, decimal-amount, decimal-some, decimal-first, decimal_append, decimal-small}
use Rattle.number.proofs.Texts.{same_refl, same_true, numeral-some, column-full, column-read, no_number}

-- a natural number by its text
pub natural-read : (most n : ℕ) → n ≤ most → natural most (decimal n) ≡ some n
unfolding natural
natural-read most n h = rw (decimal-amount n, same_refl (decimal n), le-leb n most h)

pub read-natural : (most n : ℕ) (t : List ℕ) → natural most t ≡ some n → (decimal n ≡ t) × (n ≤ most)
unfolding natural
read-natural most n t e = go (same (decimal (amount 0 t)) t and leb (amount 0 t) most) refl e
  where
    go : (b : Bool) → same (decimal (amount 0 t)) t and leb (amount 0 t) most ≡ b → pick b (some (amount 0 t)) none ≡ some n → (decimal n ≡ t) × (n ≤ most)
    go true q e =
        let y : amount 0 t ≡ n = cc in
        rw (← y) (
          same_true (decimal (amount 0 t)) t (first-true (same (decimal (amount 0 t)) t) (leb (amount 0 t) most) q),
          leb-true (amount 0 t) most (second-true (same (decimal (amount 0 t)) t) (leb (amount 0 t) most) q),
        )
    go false q e = let z : ◌≡◌ {A = ℕ} 0 1 = cc in absurd (omega arith)

pub no_natural : (most : ℕ) (t : List ℕ) → ((n : ℕ) → decimal n ≡ t → n ≤ most → ⊥) → natural most t ≡ none
no_natural most t f = go (natural most t) refl
  where
    go : (o : Option ℕ) → natural most t ≡ o → o ≡ none
    go none e = refl
    go (some n) e = absurd (f n (read-natural most n t e).0 (read-natural most n t e).1)

-- what the digits that are left make of n, the number of those before
unfoldable pub run : ℕ → ℕ → List ℕ → Option ℕ
run most n [] = pick (leb n most) (some n) none
run most n (b ∷ bs) = pick (leb 48 b and ltb b 58) (run most (10 * n + (b - 48)) bs) none

pub run_digit : (most n b d : ℕ) (bs : List ℕ) → d < 10 → b ≡ 48 + d → run most n (b ∷ bs) ≡ run most (10 * n + d) bs
unfolding run
run_digit most n b d bs h e =
    let s : b - 48 ≡ d = omega arith in
    rw (le-leb 48 b (omega arith), lt-ltb b 58 (omega arith), s)

pub run_other : (most n b : ℕ) (bs : List ℕ) → ((d : ℕ) → d < 10 → b ≡ 48 + d → ⊥) → run most n (b ∷ bs) ≡ none
unfolding run
run_other most n b bs f = go (leb 48 b) (ltb b 58) refl refl
  where
    go : (x y : Bool) → leb 48 b ≡ x → ltb b 58 ≡ y → pick (x and y) (run most (10 * n + (b - 48)) bs) none ≡ none
    go false y p q = refl
    go true false p q = refl
    go true true p q =
        let l : 48 ≤ b = leb-true 48 b p in
        let m : b < 58 = ltb-true b 58 q in
        absurd (f (b - 48) (omega arith) (omega arith))

-- a number that is too large stays so
pub run_large : (most n : ℕ) (bs : List ℕ) → most < n → run most n bs ≡ none
unfolding run
run_large most n [] h = rw (lt-leb n most h)
run_large most n (b ∷ bs) h = go (leb 48 b and ltb b 58) (run_large most (10 * n + (b - 48)) bs (omega arith))
  where
    go : (t : Bool) → run most (10 * n + (b - 48)) bs ≡ none → pick t (run most (10 * n + (b - 48)) bs) none ≡ none
    go true e = e
    go false e = refl

run_digits : (most n : ℕ) (bs : List ℕ) → AllDigits bs → run most n bs ≡ pick (leb (amount n bs) most) (some (amount n bs)) none
unfolding run
run_digits most n [] p = refl
run_digits most n (b ∷ bs) p =
    let d : IsDigit b = p.0 in
    run_digit most n b (b - 48) bs (omega arith) (omega arith) ∙ run_digits most (10 * n + (b - 48)) bs p.1

run_some : (most n m : ℕ) (bs : List ℕ) → run most n bs ≡ some m → AllDigits bs
unfolding run
run_some most n m [] e = tt
run_some most n m (b ∷ bs) e = go (run_some most (10 * n + (b - 48)) m bs) (leb 48 b) (ltb b 58) refl refl e
  where
    go : (run most (10 * n + (b - 48)) bs ≡ some m → AllDigits bs) → (x y : Bool) → leb 48 b ≡ x → ltb b 58 ≡ y → pick (x and y) (run most (10 * n + (b - 48)) bs) none ≡ some m → AllDigits (b ∷ bs)
    go ih false y p q e = let z : ◌≡◌ {A = ℕ} 0 1 = cc in absurd (omega arith)
    go ih true false p q e = let z : ◌≡◌ {A = ℕ} 0 1 = cc in absurd (omega arith)
    go ih true true p q e = (record { least = leb-true 48 b p; most = ltb-true b 58 q }, ih e)

-- digits without a zero in front are the text of what they amount to
digits-text : (b : ℕ) (bs : List ℕ) → AllDigits (b ∷ bs) → (b ≡ 48 → bs ≡ []) → decimal (amount 0 (b ∷ bs)) ≡ b ∷ bs
digits-text b bs p f = go (dec_le b 48)
  where
    go : Dec (b ≤ 48) → decimal (amount 0 (b ∷ bs)) ≡ b ∷ bs
    go (yes h) =
        let d : IsDigit b = p.0 in
        let e : b ≡ 48 = omega arith in
        rw (f e, e) (decimal-small 0 (omega arith))
    go (no h) =
        let d : IsDigit b = p.0 in
        let e : 48 + (b - 48) ≡ b = omega arith in
        sym (decimal_append (0 + (b - 48)) bs (omega arith) p.1) ∙ rw (zero-add, decimal-small (b - 48) (omega arith), e)

pub natural_run : (most b : ℕ) (bs : List ℕ) → (b ≡ 48 → bs ≡ []) → natural most (b ∷ bs) ≡ run most 0 (b ∷ bs)
unfolding natural
natural_run most b bs f = go (run most 0 (b ∷ bs)) refl
  where
    t : List ℕ
    t = b ∷ bs

    go : (o : Option ℕ) → run most 0 t ≡ o → natural most t ≡ o
    go none e =
        no_natural most t
        (λ n d h.
        let a : AllDigits t = subst AllDigits d (decimal-digits n) in
        let m : amount 0 t ≡ n = ap (amount 0) (sym d) ∙ decimal-amount n in
        let r : run most 0 t ≡ some n = run_digits most 0 t a ∙ rw (m, le-leb n most h) in
        let z : ◌≡◌ {A = ℕ} 0 1 = cc in
        omega arith)
    go (some m) e = given (run_some most 0 m t e)
      where
        given : AllDigits t → natural most t ≡ some m
        given a = rw (digits-text b bs a f, same_refl t) (sym (run_digits most 0 t a) ∙ e)

-- a zero in front of other digits
pub natural-zero : (most c : ℕ) (bs : List ℕ) → natural most (48 ∷ (c ∷ bs)) ≡ none
natural-zero most c bs = no_natural most (48 ∷ (c ∷ bs)) (λ n e h. go n (dec_le n 0) e)
  where
    go : (n : ℕ) → Dec (n ≤ 0) → decimal n ≡ 48 ∷ (c ∷ bs) → ⊥
    go n (yes h) e = let l : length (decimal n) ≡ suc (suc (length bs)) = ap length e in let s : length (decimal n) ≡ 1 = ap length (decimal-small n (omega arith)) in omega arith
    go n (no h) e = decimal-first n (omega arith) (ap (λ (l : List ℕ). get_or l 0 0) e)

pub natural-empty : (most : ℕ) → natural most [] ≡ none
natural-empty most = no_natural most [] (λ n e h. let l : length (decimal n) ≡ 0 = ap length e in omega (arith, decimal-some n))

-- after the spaces: a minus or none
abbrev pub negated : Option ℕ → Option ℤ
negated none = none
negated (some zero) = none
negated (some (suc n)) = some (negsuc n)

abbrev pub plain : Option ℕ → Option ℤ
plain none = none
plain (some n) = some (pos n)

spaced_minus : (k : ℕ) (z : ℤ) (t : List ℕ) → replicate k space ++ numeral z ≡ minus ∷ t → (n : ℕ) × ((z ≡ negsuc n) × (decimal (suc n) ≡ t))
unfolding numeral
spaced_minus (suc k) z t e = let q : space ≡ minus = ap (λ (l : List ℕ). get_or l 0 0) e in absurd (omega arith)
spaced_minus zero (pos n) t e =
    let a : AllDigits (minus ∷ t) = subst AllDigits e (decimal-digits n) in
    let d : IsDigit minus = a.0 in
    absurd (omega (arith, d.least))
spaced_minus zero (negsuc n) t e = (n, (refl, ap (drop 1) e))

spaced_plain : (k : ℕ) (z : ℤ) (b : ℕ) (t : List ℕ) → (b ≡ space → ⊥) → (b ≡ minus → ⊥) → replicate k space ++ numeral z ≡ b ∷ t → (n : ℕ) × ((z ≡ pos n) × (decimal n ≡ b ∷ t))
unfolding numeral
spaced_plain (suc k) z b t s m e = absurd (s (sym (ap (λ (l : List ℕ). get_or l 0 0) e)))
spaced_plain zero (pos n) b t s m e = (n, (refl, e))
spaced_plain zero (negsuc n) b t s m e = absurd (m (sym (ap (λ (l : List ℕ). get_or l 0 0) e)))

pub number-minus : (t : List ℕ) → number_in (minus ∷ t) ≡ negated (natural (2 ^ 31) t)
number-minus t = go (natural (2 ^ 31) t) refl
  where
    other : (o : Option ℕ) → natural (2 ^ 31) t ≡ o → ((n : ℕ) → o ≡ some (suc n) → ⊥) → number_in (minus ∷ t) ≡ none
    other o e f =
        no_number (minus ∷ t)
        (λ z c g.
        let s = spaced_minus (suc (length t) - length (numeral z)) z t (unfold column in c) in
        let b : fits (negsuc s.0) ≡ true = rw s.1.0 at g in
        f s.0 (sym e ∙ ap (natural (2 ^ 31)) (sym s.1.1) ∙ natural-read (2 ^ 31) (suc s.0) (ltb-true s.0 (2 ^ 31) b)))

    go : (o : Option ℕ) → natural (2 ^ 31) t ≡ o → number_in (minus ∷ t) ≡ negated o
    go none e = other none e (λ n q. let z : ◌≡◌ {A = ℕ} 0 1 = cc in omega arith)
    go (some zero) e = other (some 0) e (λ n q. let z : 0 ≡ suc n = cc in omega arith)
    go (some (suc n)) e =
        let r = read-natural (2 ^ 31) (suc n) t e in
        let c : column (suc (length t)) (negsuc n) ≡ minus ∷ t = rw (← r.0) (column-full (suc (length (decimal (suc n)))) (negsuc n) (unfold numeral in omega arith) ∙ (unfold numeral in refl)) in
        rw (← c) (column-read (suc (length t)) (negsuc n) (rw (← r.0) (unfold numeral in omega arith)) (lt-ltb n (2 ^ 31) r.1))

pub number-plain : (b : ℕ) (t : List ℕ) → (b ≡ space → ⊥) → (b ≡ minus → ⊥) → number_in (b ∷ t) ≡ plain (natural (2 ^ 31 - 1) (b ∷ t))
number-plain b t s m = go (natural (2 ^ 31 - 1) (b ∷ t)) refl
  where
    go : (o : Option ℕ) → natural (2 ^ 31 - 1) (b ∷ t) ≡ o → number_in (b ∷ t) ≡ plain o
    go none e =
        no_number (b ∷ t)
        (λ z c g.
        let p = spaced_plain (suc (length t) - length (numeral z)) z b t s m (unfold column in c) in
        let f : fits (pos p.0) ≡ true = rw p.1.0 at g in
        let l : p.0 < 2 ^ 31 = ltb-true p.0 (2 ^ 31) f in
        let q : natural (2 ^ 31 - 1) (b ∷ t) ≡ some p.0 = rw (← p.1.1) (natural-read (2 ^ 31 - 1) p.0 (omega arith)) in
        let z : ◌≡◌ {A = ℕ} 0 1 = cc in
        omega arith)
    go (some n) e =
        let r = read-natural (2 ^ 31 - 1) n (b ∷ t) e in
        let l : n < 2 ^ 31 = omega (arith, r.1) in
        rw (← r.0)
        (ap number_in (sym (column-full (length (decimal n)) (pos n) (unfold numeral in omega arith) ∙ (unfold numeral in refl)))
        ∙ column-read (length (decimal n)) (pos n) (unfold numeral in omega arith) (lt-ltb n (2 ^ 31) l))

pub number-empty : number_in [] ≡ none
number-empty = no_number [] (λ z c g. let l : length (numeral z) ≡ 0 = ap length (sym (column-full 0 z (omega arith)) ∙ c) in omega (arith, numeral-some z))
