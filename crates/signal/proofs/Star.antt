-- h* and h+ of source document 002: h*(h+(t)) = t where there is a demand.
use Prim.Native.Nat.{ℕ, zero, suc, ◌≤◌, ◌<◌}
use mathlib.Core.Path.{◌≡◌, refl, ◌∙◌}
use mathlib.Core.Bool.{Bool, true, false}
use mathlib.Core.Logic.{◌⊎◌, inl, inr}
use native.Mathlib.Omega.{arith}
use native.Mathlib.Decide.{dec_lt}
use native.Mathlib.Numerals.{add-one}
use native.Mathlib.Nat.{add-zero}
use lib.Dec.{ltb}
use lib.IntN.{pos, pred_ℤ, -ℤ_one}
use borrow.Author.Tests.{lt-ltb, le-ltb}
use Rattle.word.specs.Choice.{pick, ◌and◌}
use Rattle.word.specs.Operation.{demand}
use Rattle.signal.specs.Clock.{Clock, least, star, demands_before, plus}

least-none : (p : ℕ → Bool) (n : ℕ) → ((r : ℕ) → r < n → p r ≡ false) → least p n ≡ n
unfolding least
least-none p zero f = refl
least-none p (suc n) f = rw (least-none p n (λ r h. f r (omega arith)), le-ltb n n (omega arith), f n (omega arith))

least-is : (p : ℕ → Bool) (n s : ℕ) → s < n → p s ≡ true → ((r : ℕ) → r < s → p r ≡ false) → least p n ≡ s
unfolding least
least-is p zero s h e f = absurd (omega arith)
least-is p (suc n) s h e f = go (dec_lt s n) (least-is p n s)
  where
    go : Dec (s < n) → (s < n → p s ≡ true → ((r : ℕ) → r < s → p r ≡ false) → least p n ≡ s) → pick (ltb (least p n) n) (least p n) (pick (p n) n (suc n)) ≡ s
    go (yes l) ih = rw (ih l e f, lt-ltb s n l)
    go (no l) ih =
        let q : s ≡ n = omega arith in
        rw (least-none p n (λ r k. f r (omega arith)), le-ltb n n (omega arith), ← q, e)

not-and : (a b : Bool) → b ≡ false → a and b ≡ false
not-and true b e = e
not-and false b e = refl

-- no demand from one time up to another
abbrev Idle : Clock → ℕ → ℕ → Type 0
Idle h from to = (r : ℕ) → from ≤ r → r < to → demand (h r) ≡ false

idle_more : (h : Clock) (from to : ℕ) → Idle h from to → demand (h to) ≡ false → Idle h from (suc to)
idle_more h from to f e r a b = go (dec_lt r to)
  where
    go : Dec (r < to) → demand (h r) ≡ false
    go (yes l) = f r a l
    go (no l) = let q : r ≡ to = omega arith in rw q e

module _ (n : ℕ) (h : Clock) where
  -- the latest demand before t, demand number j at the time s, if there is one
  Latest : ℕ → Type 0
  Latest t =
      ((demands_before h t ≡ 0) × Idle h 0 t)
      ⊎ ((j s : ℕ) × (demands_before h t ≡ suc j) × (s < t) × (star n h j ≡ s) × Idle h (suc s) t)

  found : (t : ℕ) → t < n → demand (h t) ≡ true → Latest t → star n h (demands_before h t) ≡ t
  unfolding star Latest
  found t l e (inl (z, f)) = rw z (least-is (λ r. demand (h r)) n t l e (λ r k. f r (omega arith) k))
  found t l e (inr (j, s, z, b, q, f)) = rw z (least-is (λ r. demand (h r) and ltb (star n h j) r) n t l (rw (e, q, lt-ltb s t b)) none)
    where
      none : (r : ℕ) → r < t → demand (h r) and ltb (star n h j) r ≡ false
      none r k = rw q (go (dec_lt s r))
        where
          go : Dec (s < r) → demand (h r) and ltb s r ≡ false
          go (yes m) = rw (f r m k)
          go (no m) = not-and (demand (h r)) (ltb s r) (le-ltb s r (omega arith))

  latest : (t : ℕ) → t ≤ n → Latest t
  unfolding Latest demands_before
  latest zero l = inl (refl, λ r a k. absurd (omega arith))
  latest (suc t) l = go (demand (h t)) refl (latest t (omega arith))
    where
      go : (d : Bool) → demand (h t) ≡ d → Latest t → Latest (suc t)
      go true e k = inr (demands_before h t, t, rw e (add-one (demands_before h t)), omega arith, found t (omega arith) e k, λ r a b. absurd (omega arith))
      go false e (inl (z, f)) = inl (rw (e, add-zero) z, idle_more h 0 t f e)
      go false e (inr (j, s, z, b, q, f)) = inr (j, s, rw (e, add-zero) z, omega arith, q, idle_more h (suc s) t f e)

  -- h*(h+(t)) = t at a demand, before which there are h+(t) others
  pub star-at : (t : ℕ) → t < n → demand (h t) ≡ true → star n h (demands_before h t) ≡ t
  star-at t l e = found t l e (latest t (omega arith))

-- h+ in natural numbers: one less than the demands up to t
pub plus-is : (h : Clock) (t : ℕ) → plus h t ≡ pred_ℤ (pos (demands_before h (suc t)))
unfolding plus
plus-is h t = -ℤ_one (pos (demands_before h (suc t)))

pub plus-at : (h : Clock) (t : ℕ) → demand (h t) ≡ true → plus h t ≡ pos (demands_before h t)
unfolding demands_before
plus-at h t e = plus-is h t ∙ rw (e, add-one)
