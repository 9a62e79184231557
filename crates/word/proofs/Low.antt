-- The low 32 bits: one law modulo 2^32 for sums, differences and products, and what it says of words.
use Rattle.std.proofs.Common.{◌≡◌, ℕ, zero, suc, ◌+◌, ◌-◌, ◌*◌, ◌/◌, ◌%◌, ◌^◌, ◌<◌, ◌≤◌, Bool, true, false, cond, ltb, ℤ, pos, negsuc, ◌+ℤ◌, ◌-ℤ◌, ◌*ℤ◌, neg_ℤ, sym, refl, ap, ◌∙◌, mod-lt, mul_assoc, mul_comm, add-mul, add_comm, mul-zero, div-add-mod', mul-add, arith, lit<, ltb-false, ltb-true, le-ltb, lt-ltb}
use lib.IntN.{sub_ℕ, *ℤ_comm, *ℤ-negsuc}
use Rattle.word.specs.Word.{value, low}
use Rattle.word.specs.LowBits.{KeepsLowBits}
use Rattle.word.specs.LowBits.Arithmetic.{sum, difference, product}

-- -w modulo 2^32
abbrev pub opposite : ℕ → ℕ
opposite w = (2 ^ 32 - w) % 2 ^ 32

pub low_word : (z : ℤ) → low z < 2 ^ 32
unfolding low
low_word (pos n) = mod-lt n (lit< tt)
low_word (negsuc n) = omega arith

pub value-small : (w : ℕ) → w < 2 ^ 31 → value w ≡ pos w
unfolding value
value-small w h = rw (lt-ltb w (2 ^ 31) h)

pub value_large : (w : ℕ) → 2 ^ 31 ≤ w → value w ≡ negsuc (2 ^ 32 - suc w)
unfolding value
value_large w h = rw (le-ltb w (2 ^ 31) h)

-- the signed reading of a word keeps its bits
pub low_value : (w : ℕ) → w < 2 ^ 32 → low (value w) ≡ w
low_value w h = go (ltb w (2 ^ 31)) refl
  where
    go : (b : Bool) → ltb w (2 ^ 31) ≡ b → low (value w) ≡ w
    go true e = rw (value-small w (ltb-true w (2 ^ 31) e)) (unfold low in omega arith)
    go false e = let l : 2 ^ 31 ≤ w = ltb-false w (2 ^ 31) e in rw (value_large w l) (unfold low in omega arith)

pub low_opposite : (z : ℤ) → low (neg_ℤ z) ≡ opposite (low z)
unfolding low
low_opposite (pos zero) = refl
low_opposite (pos (suc n)) = omega arith
low_opposite (negsuc n) = omega arith

low_sub : (a b : ℕ) → low (sub_ℕ a b) ≡ (a + opposite (b % 2 ^ 32)) % 2 ^ 32
low_sub a b = go (ltb a b) refl
  where
    go : (t : Bool) → ltb a b ≡ t → low (cond t (negsuc (b - suc a)) (pos (a - b))) ≡ (a + opposite (b % 2 ^ 32)) % 2 ^ 32
    go true e = let l : a < b = ltb-true a b e in unfold low in omega arith
    go false e = let l : b ≤ a = ltb-false a b e in unfold low in omega arith

-- the successor's opposite, and a summand that counts by its remainder
opposite_suc : (n : ℕ) → opposite (suc n % 2 ^ 32) ≡ 2 ^ 32 - suc (n % 2 ^ 32)
opposite_suc n = omega arith

mod_summand : (m k : ℕ) → (m + k) % 2 ^ 32 ≡ (m % 2 ^ 32 + k) % 2 ^ 32
mod_summand m k = omega arith

low_sum : (x y : ℤ) → low (x +ℤ y) ≡ (low x + low y) % 2 ^ 32
unfolding low
low_sum (pos m) (pos n) = omega arith
low_sum (pos m) (negsuc n) = low_sub m (suc n) ∙ rw (opposite_suc n) (mod_summand m _)
low_sum (negsuc m) (pos n) = low_sub n (suc m) ∙ rw (opposite_suc m) (mod_summand n _ ∙ ap (λ (k : ℕ). k % 2 ^ 32) (add_comm (n % 2 ^ 32) _))
low_sum (negsuc m) (negsuc n) = omega arith

low-difference : (x y : ℤ) → low (x -ℤ y) ≡ (low x + (2 ^ 32 - low y)) % 2 ^ 32
low-difference x y = low_sum x (neg_ℤ y) ∙ rw (low_opposite y) (omega arith)

-- products: a factor counts by its remainder, and its sign is the product's
mod_left : (m n : ℕ) → (m * n) % 2 ^ 32 ≡ (m % 2 ^ 32 * n) % 2 ^ 32
mod_left m n =
    let q : ℕ = m / 2 ^ 32 * n in
    let e : m * n ≡ 2 ^ 32 * q + m % 2 ^ 32 * n = ap (λ (k : ℕ). k * n) (sym (div-add-mod' m (2 ^ 32))) ∙ add-mul (m / 2 ^ 32 * 2 ^ 32) (m % 2 ^ 32) n ∙ rw (mul_comm (m / 2 ^ 32) (2 ^ 32), mul_assoc) in
    omega arith

mod_both : (m n : ℕ) → (m * n) % 2 ^ 32 ≡ (m % 2 ^ 32 * (n % 2 ^ 32)) % 2 ^ 32
mod_both m n = mod_left m n ∙ ap (λ (k : ℕ). k % 2 ^ 32) (mul_comm (m % 2 ^ 32) n) ∙ mod_left n (m % 2 ^ 32) ∙ ap (λ (k : ℕ). k % 2 ^ 32) (mul_comm (n % 2 ^ 32) (m % 2 ^ 32))

opposite_right : (a b : ℕ) → b < 2 ^ 32 → (a * opposite b) % 2 ^ 32 ≡ opposite ((a * b) % 2 ^ 32)
opposite_right a zero h = rw mul-zero refl
opposite_right a (suc b) h =
    let c : ℕ = 2 ^ 32 - suc b in
    let o : opposite (suc b) ≡ c = omega arith in
    let w : c + suc b ≡ 2 ^ 32 = omega arith in
    let e : a * c + a * suc b ≡ a * 2 ^ 32 = sym (mul-add a c (suc b)) ∙ ap (λ (k : ℕ). a * k) w in
    rw o (omega arith)

-- from a positive second factor to a negative one
low_negative : (x : ℤ) (n : ℕ) → low (x *ℤ pos (suc n)) ≡ (low x * low (pos (suc n))) % 2 ^ 32 → low (x *ℤ negsuc n) ≡ (low x * low (negsuc n)) % 2 ^ 32
unfolding low
low_negative x n e =
    ap low (*ℤ-negsuc x n)
    ∙ low_opposite (x *ℤ pos (suc n))
    ∙ ap opposite e
    ∙ sym (opposite_right (low x) (suc n % 2 ^ 32) (mod-lt (suc n) (lit< tt)))
    ∙ rw (opposite_suc n)

low_positive : (m n : ℕ) → low (pos m *ℤ pos n) ≡ (low (pos m) * low (pos n)) % 2 ^ 32
unfolding low
low_positive m n = mod_both m n

low_swapped : (x y : ℤ) → low (x *ℤ y) ≡ (low x * low y) % 2 ^ 32 → low (y *ℤ x) ≡ (low y * low x) % 2 ^ 32
low_swapped x y e = ap low (*ℤ_comm y x) ∙ e ∙ ap (λ (k : ℕ). k % 2 ^ 32) (mul_comm (low x) (low y))

low_product : (x y : ℤ) → low (x *ℤ y) ≡ (low x * low y) % 2 ^ 32
low_product (pos m) (pos n) = low_positive m n
low_product (pos m) (negsuc n) = low_negative (pos m) n (low_positive m (suc n))
low_product (negsuc m) (pos n) = low_swapped (pos n) (negsuc m) (low_negative (pos n) m (low_positive n (suc m)))
low_product (negsuc m) (negsuc n) =
    low_negative (negsuc m) n (low_swapped (pos (suc n)) (negsuc m) (low_negative (pos (suc n)) m (low_positive (suc n) (suc m))))

pub keeps_low_bits : KeepsLowBits
keeps_low_bits sum x y = low_sum x y
keeps_low_bits difference x y = low-difference x y
keeps_low_bits product x y = low_product x y
