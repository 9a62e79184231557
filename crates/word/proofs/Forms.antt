-- The operations as the code has them, on the bits: sign and magnitude for quotient and remainder, the sign bit flipped for the order.
use Rattle.std.proofs.Common.{◌≡◌, ℕ, suc, ◌+◌, ◌-◌, ◌/◌, ◌%◌, ◌^◌, ◌<◌, ◌≤◌, min, Bool, true, false, eqb, ltb, ℤ, pos, negsuc, ◌+ℤ◌, ◌-ℤ◌, ◌*ℤ◌, neg_ℤ, nat_abs, sym, refl, ap, ◌∙◌, ap₂, lt_of_le_of_lt, mod-eq_of_lt, div-le_self, arith, lit<, ltb-false, ltb-true, le-ltb, lt-ltb}
use mathlib.Core.Bool.{beq}
use native.Mathlib.Nat.{mod-le}
use native.Mathlib.Decide.{dec_lt}
use lib.Signed.{quot_z, rem_z, lt_z, non_neg}
use Rattle.word.specs.Choice.{pick, bit}
use Rattle.word.specs.Word.{value, low, within, clamp, outside, clipped, with_sign}
use Rattle.word.specs.LowBits.{Arithmetic, exact, on_words}
use Rattle.word.specs.Operation.{add, subtract, multiply, quotient, remainder, less, equal, absolute, negate, operate}
use Rattle.word.proofs.Selector.{select_word}
use Rattle.word.proofs.Low.{opposite, low_word, low_value, low_opposite, value-small, value_large, keeps_low_bits}

-- "keep the low 32 bits", of the signed readings of two words
pub word_form : (o : Arithmetic) (a b : ℕ) → a < 2 ^ 32 → b < 2 ^ 32 → low (exact o (value a) (value b)) ≡ on_words o a b % 2 ^ 32
word_form o a b ha hb = keeps_low_bits o (value a) (value b) ∙ ap₂ (λ (x y : ℕ). on_words o x y % 2 ^ 32) (low_value a ha) (low_value b hb)

pub negate_form : (a : ℕ) → a < 2 ^ 32 → negate a ≡ opposite a
unfolding negate
negate_form a h = low_opposite (value a) ∙ ap opposite (low_value a h)

-- the sign of a word, and its magnitude
positive : (w : ℕ) → non_neg (value w) ≡ ltb w (2 ^ 31)
unfolding value
positive w = go (ltb w (2 ^ 31))
  where
    go : (b : Bool) → non_neg (pick b (pos w) (negsuc (2 ^ 32 - suc w))) ≡ b
    go true = refl
    go false = refl

magnitude_small : (w : ℕ) → w < 2 ^ 31 → nat_abs (value w) ≡ w
magnitude_small w h = rw (value-small w h)

magnitude_large : (w : ℕ) → 2 ^ 31 ≤ w → w < 2 ^ 32 → nat_abs (value w) ≡ 2 ^ 32 - w
magnitude_large w l h = rw (value_large w l) (omega arith)

magnitude_word : (w : ℕ) → w < 2 ^ 32 → nat_abs (value w) ≤ 2 ^ 31
magnitude_word w h = go (ltb w (2 ^ 31)) refl
  where
    go : (b : Bool) → ltb w (2 ^ 31) ≡ b → nat_abs (value w) ≤ 2 ^ 31
    go true e = let l : w < 2 ^ 31 = ltb-true w (2 ^ 31) e in rw (magnitude_small w l) (omega arith)
    go false e = let l : 2 ^ 31 ≤ w = ltb-false w (2 ^ 31) e in rw (magnitude_large w l h) (omega arith)

absolute_magnitude : (w : ℕ) → w < 2 ^ 32 → absolute w ≡ nat_abs (value w)
unfolding absolute low
absolute_magnitude w h = mod-eq_of_lt (lt_of_le_of_lt (magnitude_word w h) (lit< tt))

pub absolute-small : (w : ℕ) → w < 2 ^ 31 → absolute w ≡ w
absolute-small w h = absolute_magnitude w (omega arith) ∙ magnitude_small w h

pub absolute_large : (w : ℕ) → 2 ^ 31 ≤ w → w < 2 ^ 32 → absolute w ≡ opposite w
absolute_large w l h = absolute_magnitude w h ∙ magnitude_large w l h ∙ omega arith

-- a magnitude is 0 only of 0
pub absolute-some : (w : ℕ) → w < 2 ^ 32 → (w ≡ 0 → ⊥) → 0 < absolute w
absolute-some w h n = go (ltb w (2 ^ 31)) refl
  where
    go : (b : Bool) → ltb w (2 ^ 31) ≡ b → 0 < absolute w
    go true e = rw (absolute-small w (ltb-true w (2 ^ 31) e)) (omega arith)
    go false e = let l : 2 ^ 31 ≤ w = ltb-false w (2 ^ 31) e in rw (absolute_large w l h) (omega arith)

low_negated : (m : ℕ) → m < 2 ^ 32 → low (neg_ℤ (pos m)) ≡ opposite m
low_negated m h = low_opposite (pos m) ∙ ap opposite (unfold low in mod-eq_of_lt h)

low-quotient : (x y : ℤ) → nat_abs x ≤ 2 ^ 31 → low (quot_z x y) ≡ with_sign (beq (non_neg x) (non_neg y)) (nat_abs x / nat_abs y)
low-quotient (pos a) (pos b) h = unfold low in mod-eq_of_lt (lt_of_le_of_lt (div-le_self a b) (omega arith))
low-quotient (pos a) (negsuc b) h = low_negated (a / suc b) (lt_of_le_of_lt (div-le_self a (suc b)) (omega arith))
low-quotient (negsuc a) (pos b) h = low_negated (suc a / b) (lt_of_le_of_lt (div-le_self (suc a) b) (omega arith))
low-quotient (negsuc a) (negsuc b) h = unfold low in mod-eq_of_lt (lt_of_le_of_lt (div-le_self (suc a) (suc b)) (omega arith))

low-remainder : (x y : ℤ) → nat_abs x ≤ 2 ^ 31 → low (rem_z x y) ≡ with_sign (non_neg x) (nat_abs x % nat_abs y)
low-remainder (pos a) y h = unfold low in mod-eq_of_lt (lt_of_le_of_lt (mod-le a (nat_abs y)) (omega arith))
low-remainder (negsuc a) y h = low_negated (suc a % nat_abs y) (lt_of_le_of_lt (mod-le (suc a) (nat_abs y)) (omega arith))

module _ (a b : ℕ) (ha : a < 2 ^ 32) (hb : b < 2 ^ 32) where
  pub quotient_form : quotient a b ≡ pick (eqb b 0) 0 (with_sign (beq (ltb a (2 ^ 31)) (ltb b (2 ^ 31))) (absolute a / absolute b))
  unfolding quotient
  quotient_form =
      ap (pick (eqb b 0) 0)
      (low-quotient (value a) (value b) (magnitude_word a ha)
      ∙ rw (positive a, positive b, absolute_magnitude a ha, absolute_magnitude b hb))

  pub remainder_form : remainder a b ≡ pick (eqb b 0) 0 (with_sign (ltb a (2 ^ 31)) (absolute a % absolute b))
  unfolding remainder
  remainder_form =
      ap (pick (eqb b 0) 0)
      (low-remainder (value a) (value b) (magnitude_word a ha)
      ∙ rw (positive a, absolute_magnitude a ha, absolute_magnitude b hb))

-- the order of the signed readings is that of the words with the sign bit flipped
abbrev pub flip : ℕ → ℕ
flip w = (w + 2 ^ 31) % 2 ^ 32

same-order : (a b c d : ℕ) → (a < b → c < d) → (c < d → a < b) → ltb a b ≡ ltb c d
same-order a b c d f g = go (dec_lt a b)
  where
    go : Dec (a < b) → ltb a b ≡ ltb c d
    go (yes h) = lt-ltb a b h ∙ sym (lt-ltb c d (f h))
    go (no h) = let n : c < d → ⊥ = λ k. h (g k) in le-ltb a b (omega arith) ∙ sym (le-ltb c d (omega arith))

order_form : (a b : ℕ) → a < 2 ^ 32 → b < 2 ^ 32 → lt_z (value a) (value b) ≡ ltb (flip a) (flip b)
order_form a b ha hb = go (ltb a (2 ^ 31)) refl (ltb b (2 ^ 31)) refl
  where
    go : (s : Bool) → ltb a (2 ^ 31) ≡ s → (t : Bool) → ltb b (2 ^ 31) ≡ t → lt_z (value a) (value b) ≡ ltb (flip a) (flip b)
    go true d true e =
        let la : a < 2 ^ 31 = ltb-true a (2 ^ 31) d in
        let lb : b < 2 ^ 31 = ltb-true b (2 ^ 31) e in
        rw (value-small a la, value-small b lb) (same-order a b (flip a) (flip b) (λ h. omega arith) (λ h. omega arith))
    go true d false e =
        let la : a < 2 ^ 31 = ltb-true a (2 ^ 31) d in
        let lb : 2 ^ 31 ≤ b = ltb-false b (2 ^ 31) e in
        rw (value-small a la, value_large b lb) (sym (le-ltb (flip a) (flip b) (omega arith)))
    go false d true e =
        let la : 2 ^ 31 ≤ a = ltb-false a (2 ^ 31) d in
        let lb : b < 2 ^ 31 = ltb-true b (2 ^ 31) e in
        rw (value_large a la, value-small b lb) (sym (lt-ltb (flip a) (flip b) (omega arith)))
    go false d false e =
        let la : 2 ^ 31 ≤ a = ltb-false a (2 ^ 31) d in
        let lb : 2 ^ 31 ≤ b = ltb-false b (2 ^ 31) e in
        rw (value_large a la, value_large b lb) (same-order (2 ^ 32 - suc b) (2 ^ 32 - suc a) (flip a) (flip b) (λ h. omega arith) (λ h. omega arith))

pub less_form : (a b : ℕ) → a < 2 ^ 32 → b < 2 ^ 32 → less a b ≡ bit (ltb (flip a) (flip b))
unfolding less
less_form a b ha hb = ap bit (order_form a b ha hb)

-- a delay's amount by the sign bit, and its bound
pub clamp_form : (amount d : ℕ) → clamp amount d ≡ pick (ltb amount (2 ^ 31)) (min amount d) 0
unfolding clamp value
clamp_form amount d = go (ltb amount (2 ^ 31))
  where
    go : (b : Bool) → within d (pick b (pos amount) (negsuc (2 ^ 32 - suc amount))) ≡ pick b (min amount d) 0
    go true = refl
    go false = refl

-- for a line that is short enough, the negative amounts are the large words
pub clipped_form : (amount d : ℕ) → d < 2 ^ 31 → clipped amount d ≡ ltb d amount
unfolding clipped value
clipped_form amount d h = go (dec_lt amount (2 ^ 31))
  where
    go : Dec (amount < 2 ^ 31) → outside d (pick (ltb amount (2 ^ 31)) (pos amount) (negsuc (2 ^ 32 - suc amount))) ≡ ltb d amount
    go (yes g) = rw (lt-ltb amount (2 ^ 31) g)
    go (no g) = let k : 2 ^ 31 ≤ amount = omega arith in rw (le-ltb amount (2 ^ 31) k, lt-ltb d amount (omega arith))

pub clamp-most : (amount d : ℕ) → clamp amount d ≤ d
clamp-most amount d = rw (clamp_form amount d) (go (ltb amount (2 ^ 31)))
  where
    go : (b : Bool) → pick b (min amount d) 0 ≤ d
    go true = omega arith
    go false = omega arith

-- every operation gives a word; a selector where its inputs are words
bit_word : (b : Bool) → bit b < 2 ^ 32
bit_word true = lit< tt
bit_word false = lit< tt

pick_word : (b : Bool) {x y : ℕ} → x < 2 ^ 32 → y < 2 ^ 32 → pick b x y < 2 ^ 32
pick_word true p q = p
pick_word false p q = q

pub operate_word : (op a b c : ℕ) → b < 2 ^ 32 → c < 2 ^ 32 → operate op a b c < 2 ^ 32
unfolding operate add subtract multiply quotient remainder less equal absolute negate
operate_word op a b c hb hc =
    pick_word (eqb op 1) (low_word (value a +ℤ value b))
    (pick_word (eqb op 2) (low_word (value a -ℤ value b))
    (pick_word (eqb op 3) (low_word (value a *ℤ value b))
    (pick_word (eqb op 4) (pick_word (eqb b 0) {x = 0} (lit< tt) (low_word (quot_z (value a) (value b))))
    (pick_word (eqb op 5) (pick_word (eqb b 0) {x = 0} (lit< tt) (low_word (rem_z (value a) (value b))))
    (pick_word (eqb op 6) (bit_word (lt_z (value a) (value b)))
    (pick_word (eqb op 7) (bit_word (eqb a b))
    (pick_word (eqb op 8) (low_word (pos (nat_abs (value a))))
    (pick_word (eqb op 9) (low_word (neg_ℤ (value a)))
    (pick_word (eqb op 10) {y = 0} (select_word a b c hb hc) (lit< tt))))))))))
