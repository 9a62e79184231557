-- A beam repeated: each place holds what stands one beam before it.
use Prim.Native.Nat.{ℕ, zero, suc, ◌+◌, ◌-◌, ◌*◌, ◌≤◌, ◌<◌}
use mathlib.Core.Path.{◌≡◌, sym, ap, ◌∙◌}
use mathlib.Core.List.{List, ◌++◌}
use native.Mathlib.Omega.{arith}
use native.Mathlib.Nat.{zero-mul, mul-zero, suc-mul}
use native.Mathlib.Decide.{dec_lt}
use lib.ListN.{length, get_or, set, take, get_or-append}
use lib.Seq.{get_or-append-add, get_or-set_same, get_or-set_other, get_or-take, ext_get_or, length-take-le}
use Rattle.signal.specs.Signal.{copies}
use Rattle.signal.proofs.Beams.{length-copies}

-- the first i places of r repeat the beam xs of b
abbrev pub Repeats : ℕ → List ℕ → List ℕ → ℕ → Type 0
Repeats b xs r i = (k j : ℕ) → j < i → j < k * b → get_or r j 0 ≡ get_or (copies k xs) j 0

-- a product that is more than something has no factor 0
some : (b k j : ℕ) → j < k * b → 0 < b
some zero k j h = absurd (omega (arith, mul-zero k))
some (suc b) k j h = omega arith

module _ (b : ℕ) (a : List ℕ) (room : b ≤ length a) where
  pub repeats_start : Repeats b (take b a) a b
  repeats_start zero j h g = absurd (omega (arith, zero-mul b))
  repeats_start (suc k) j h g = sym (get_or-append (take b a) (copies k (take b a)) 0 j (rw (length-take-le b a room) h) ∙ get_or-take b a j 0 h)

  one_back : (k i : ℕ) → b ≤ i → get_or (copies (suc k) (take b a)) i 0 ≡ get_or (copies k (take b a)) (i - b) 0
  one_back k i l =
      let e : length (take b a) ≡ b = length-take-le b a room in
      let z : i ≡ length (take b a) + (i - b) = omega arith in
      ap (λ (j : ℕ). get_or (take b a ++ copies k (take b a)) j 0) z ∙ get_or-append-add (take b a) (copies k (take b a)) (i - b) 0

  pub repeats_next : (r : List ℕ) (i v : ℕ) → b ≤ i → i < length r → v ≡ get_or r (i - b) 0 → Repeats b (take b a) r i → Repeats b (take b a) (set r i v) (i + 1)
  repeats_next r i v l h e s k j m g = go (dec_lt j i) k g
    where
      go : Dec (j < i) → (k : ℕ) → j < k * b → get_or (set r i v) j 0 ≡ get_or (copies k (take b a)) j 0
      go (yes q) k g = get_or-set_other r i j v 0 (λ z. omega arith) ∙ s k j q g
      go (no q) zero g = absurd (omega (arith, zero-mul b))
      go (no q) (suc k) g =
          let z : j ≡ i = omega arith in
          let p : 0 < b = some b (suc k) j g in
          let g' : i - b < k * b = omega (arith, suc-mul k b) in
          rw z (get_or-set_same r i v 0 h ∙ e ∙ s k (i - b) (omega arith) g' ∙ sym (one_back k i l))

  pub repeats_all : (r : List ℕ) (i n : ℕ) → n ≤ i → n ≤ length r → Repeats b (take b a) r i → (k : ℕ) → k * b ≡ n → take n r ≡ copies k (take b a)
  repeats_all r i n l h s k e =
      let z : length (copies k (take b a)) ≡ n = length-copies k (take b a) ∙ ap (λ (m : ℕ). k * m) (length-take-le b a room) ∙ e in
      ext_get_or 0 (take n r) (copies k (take b a)) (length-take-le n r h ∙ sym z)
      (λ j q. let q' : j < n = rw (length-take-le n r h) at q in get_or-take n r j 0 q' ∙ s k j (omega arith) (omega arith))
