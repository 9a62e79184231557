-- Laws of `zip_with` over probes and the numbers that they show.
use Prim.Native.Nat.{ℕ, zero, suc, ◌+◌, ◌*◌, ◌<◌}
use mathlib.Core.Path.{◌≡◌, refl, sym, ap, ap₂, subst, ◌∙◌}
use mathlib.Core.List.{List, [], ◌∷◌}
use native.Mathlib.Omega.{arith}
use lib.ListN.{length, get_or}
use Rattle.word.specs.Tick.{Each}
use Rattle.signal.specs.Wire.{Probe}
use Rattle.calls.specs.Probes.{zip_with}
use Rattle.calls.specs.Probed.{probes_of}
use Rattle.probes.specs.Marks.{node_of, output_of}

abbrev pub probe : List ℕ → ℕ → Probe
probe xs k = record { node = node_of xs k; output = output_of xs k }

-- probe k of a list that goes on by two numbers
next-probe : (j o : ℕ) (xs : List ℕ) (k : ℕ) → probe (j ∷ o ∷ xs) (suc k) ≡ probe xs k
next-probe j o xs k =
    let a : 2 * suc k ≡ suc (suc (2 * k)) = omega arith in
    let b : 2 * suc k + 1 ≡ suc (suc (2 * k + 1)) = omega arith in
    ap₂ (λ x y. record { node = get_or (j ∷ o ∷ xs) x 0; output = get_or (j ∷ o ∷ xs) y 0 }) a b

-- what holds of each probe holds of probe k
pub each_at : (P : Probe → Type 0) (xs : List ℕ) (m : ℕ) → length xs ≡ 2 * m → Each P (probes_of xs) → (k : ℕ) → k < m → P (probe xs k)
each_at P xs zero l e k h = absurd (omega arith)
each_at P [] (suc m) l e k h = absurd (omega arith)
each_at P (j ∷ []) (suc m) l e k h = absurd (omega arith)
each_at P (j ∷ o ∷ xs) (suc m) l e zero h = e.0
each_at P (j ∷ o ∷ xs) (suc m) l e (suc k) h = subst P (sym (next-probe j o xs k)) (each_at P xs m (omega arith) e.1 k (omega arith))

-- the number of each probe
pub zip_at : (g : Probe → ℕ → ℕ) (xs vs : List ℕ) → length xs ≡ 2 * length vs → (k : ℕ) → k < length vs → get_or (zip_with g (probes_of xs) vs) k 0 ≡ g (probe xs k) (get_or vs k 0)
zip_at g xs [] l k h = absurd (omega arith)
zip_at g [] (v ∷ vs) l k h = absurd (omega arith)
zip_at g (j ∷ []) (v ∷ vs) l k h = absurd (omega arith)
zip_at g (j ∷ o ∷ xs) (v ∷ vs) l zero h = refl
zip_at g (j ∷ o ∷ xs) (v ∷ vs) l (suc k) h =
    zip_at g xs vs (omega arith) k (omega arith) ∙ ap (λ p. g p (get_or vs k 0)) (sym (next-probe j o xs k))

pub zip_long : (g : Probe → ℕ → ℕ) (xs vs : List ℕ) → length xs ≡ 2 * length vs → length (zip_with g (probes_of xs) vs) ≡ length vs
zip_long g [] [] l = refl
zip_long g [] (v ∷ vs) l = absurd (omega arith)
zip_long g (j ∷ []) [] l = refl
zip_long g (j ∷ []) (v ∷ vs) l = absurd (omega arith)
zip_long g (j ∷ o ∷ xs) [] l = refl
zip_long g (j ∷ o ∷ xs) (v ∷ vs) l = ap suc (zip_long g xs vs (omega arith))

-- one after the other
pub zip_zip : (f g : Probe → ℕ → ℕ) (ps : List Probe) (vs : List ℕ) → zip_with g ps (zip_with f ps vs) ≡ zip_with (λ p v. g p (f p v)) ps vs
zip_zip f g [] vs = refl
zip_zip f g (p ∷ ps) [] = refl
zip_zip f g (p ∷ ps) (v ∷ vs) = ap {B = List ℕ} (λ l. g p (f p v) ∷ l) (zip_zip f g ps vs)

-- the same at each probe
pub zip_same : (f g : Probe → ℕ → ℕ) (ps : List Probe) (vs : List ℕ) → Each (λ p. (v : ℕ) → f p v ≡ g p v) ps → zip_with f ps vs ≡ zip_with g ps vs
zip_same f g [] vs e = refl
zip_same f g (p ∷ ps) [] e = refl
zip_same f g (p ∷ ps) (v ∷ vs) e = ap₂ {C = List ℕ} (λ x l. x ∷ l) (e.0 v) (zip_same f g ps vs e.1)

pub zip_all : (f g : Probe → ℕ → ℕ) → ((p : Probe) (v : ℕ) → f p v ≡ g p v) → (ps : List Probe) (vs : List ℕ) → zip_with f ps vs ≡ zip_with g ps vs
zip_all f g e [] vs = refl
zip_all f g e (p ∷ ps) [] = refl
zip_all f g e (p ∷ ps) (v ∷ vs) = ap₂ {C = List ℕ} (λ x l. x ∷ l) (e p v) (zip_all f g e ps vs)

-- nothing changes
pub zip_kept : (xs vs : List ℕ) → length xs ≡ 2 * length vs → zip_with (λ p v. v) (probes_of xs) vs ≡ vs
zip_kept [] [] l = refl
zip_kept [] (v ∷ vs) l = absurd (omega arith)
zip_kept (j ∷ []) [] l = refl
zip_kept (j ∷ []) (v ∷ vs) l = absurd (omega arith)
zip_kept (j ∷ o ∷ xs) [] l = refl
zip_kept (j ∷ o ∷ xs) (v ∷ vs) l = ap {B = List ℕ} (λ us. v ∷ us) (zip_kept xs vs (omega arith))
