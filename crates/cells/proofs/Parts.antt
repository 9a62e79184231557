-- Parts of the cells: what is stored is read back, and nothing else changes.
use Prim.Native.Nat.{ℕ, zero, suc, ◌+◌, ◌≤◌, ◌<◌}
use mathlib.Core.Path.{◌≡◌, refl, sym, ap, ap₂, ◌∙◌}
use mathlib.Core.List.{List, [], ◌∷◌, ◌++◌, append_assoc}
use native.Mathlib.Nat.{zero-add, add-zero, add-suc, suc-add}
use native.Mathlib.Omega.{arith}
use lib.ListN.{length, length-set, get_or, set, get_or-replicate, take, drop, length-drop}
use lib.Seq.{length-sets, get_or-set_same, get_or-set_other, ext_get_or, sets-eq, get_or-take, get_or-drop, length-take-le}
use Rattle.word.specs.Tick.{zeros}
use Rattle.cells.specs.Cells.{part, store}

-- k is one of the n cells from a on
pub record Among (a n k : ℕ) : Type 0 where
  pub low : a ≤ k
  pub high : k < a + n

pub part_length : (a n : ℕ) (cs : List ℕ) → length (part a n cs) ≡ n
part_length a zero cs = refl
part_length a (suc n) cs = ap suc (part_length (suc a) n cs)

-- two lists of cells that agree on some cells
pub part_agree : (a n : ℕ) (cs cs' : List ℕ) → ((k : ℕ) → Among a n k → get_or cs' k 0 ≡ get_or cs k 0) → part a n cs' ≡ part a n cs
part_agree a zero cs cs' g = refl
part_agree a (suc n) cs cs' g =
    ap₂ {C = List ℕ} (λ x xs. x ∷ xs) (g a (record { low = omega arith; high = omega arith }))
    (part_agree (suc a) n cs cs' (λ k h. g k (record { low = omega arith; high = omega arith })))

-- one cell of a part
pub part_at : (a n i : ℕ) (cs : List ℕ) → i < n → get_or (part a n cs) i 0 ≡ get_or cs (a + i) 0
part_at a zero i cs h = absurd (omega arith)
part_at a (suc n) zero cs h = rw add-zero
part_at a (suc n) (suc i) cs h = let e : suc a + i ≡ a + suc i = omega arith in part_at (suc a) n i cs (omega arith) ∙ ap (λ k. get_or cs k 0) e

pub store_other : (a : ℕ) (ys cs : List ℕ) (k : ℕ) → (Among a (length ys) k → ⊥) → get_or (store a ys cs) k 0 ≡ get_or cs k 0
store_other a [] cs k n = refl
store_other a (y ∷ ys) cs k n =
    store_other (suc a) ys (set cs a y) k (λ o. n (record { low = omega arith; high = omega arith }))
    ∙ get_or-set_other cs a k y 0 (λ e. n (record { low = omega arith; high = omega arith }))

-- what was just stored is read back
pub part-store : (a : ℕ) (vs cs : List ℕ) → a + length vs ≤ length cs → part a (length vs) (store a vs cs) ≡ vs
part-store a [] cs h = refl
part-store a (v ∷ vs) cs h =
    let i : a < length cs = omega arith in
    let t : suc a + length vs ≤ length (set cs a v) = rw (length-set cs a v) (omega arith) in
    ap₂ {C = List ℕ} (λ x xs. x ∷ xs) (store_other (suc a) vs (set cs a v) a (λ o. omega arith) ∙ get_or-set_same cs a v 0 i) (part-store (suc a) vs (set cs a v) t)

pub part-zeros : (a n k : ℕ) → a + n ≤ k → part a n (zeros k) ≡ zeros n
part-zeros a zero k h = refl
part-zeros a (suc n) k h = ap₂ {C = List ℕ} (λ x xs. x ∷ xs) (get_or-replicate k a 0 0 (omega arith)) (part-zeros (suc a) n k (omega arith))

-- the n cells from a on hold ys, and the others what they held
pub record Stored (a n : ℕ) (ys cs cs' : List ℕ) : Type 0 where
  pub own : part a n cs' ≡ ys
  pub other : (k : ℕ) → (Among a n k → ⊥) → get_or cs' k 0 ≡ get_or cs k 0
  pub long : length cs' ≡ length cs

pub stores : (a n : ℕ) (ys cs : List ℕ) → length ys ≡ n → a + n ≤ length cs → Stored a n ys cs (store a ys cs)
stores a n ys cs e h =
    record {
      own = rw (← e) (part-store a ys cs (rw e h));
      other = λ k m. store_other a ys cs k (λ o. m (rw e at o));
      long = length-sets cs a ys;
    }

-- one cell of a part set
pub part-set : (a n i j v : ℕ) (cs : List ℕ) → j ≡ a + i → i < n → j < length cs → part a n (set cs j v) ≡ set (part a n cs) i v
part-set a zero i j v cs e b h = absurd (omega arith)
part-set a (suc n) zero j v cs e b h =
    let g : j ≡ a = omega arith in
    rw g
    (ap₂ {C = List ℕ} (λ x xs. x ∷ xs) (get_or-set_same cs a v 0 (omega arith))
    (part_agree (suc a) n cs (set cs a v) (λ k m. get_or-set_other cs a k v 0 (omega arith))))
part-set a (suc n) (suc i) j v cs e b h =
    ap₂ {C = List ℕ} (λ x xs. x ∷ xs) (get_or-set_other cs j a v 0 (omega arith)) (part-set (suc a) n i j v cs (omega arith) (omega arith) h)

pub part_append : (a n m : ℕ) (cs : List ℕ) → part a (n + m) cs ≡ part a n cs ++ part (a + n) m cs
part_append a zero m cs = rw (zero-add, add-zero)
part_append a (suc n) m cs = rw (suc-add, add-suc a n, ← suc-add a n) (ap {B = List ℕ} (λ xs. get_or cs a 0 ∷ xs) (part_append (suc a) n m cs))

-- all cells
pub part-all : (cs : List ℕ) → part 0 (length cs) cs ≡ cs
part-all cs = ext_get_or 0 (part 0 (length cs) cs) cs (part_length 0 (length cs) cs) (λ i b. part_at 0 (length cs) i cs (omega (arith, part_length 0 (length cs) cs)) ∙ rw zero-add)

-- a part that lies inside is a slice
pub part-take : (a n : ℕ) (cs : List ℕ) → a + n ≤ length cs → part a n cs ≡ take n (drop a cs)
part-take a n cs h =
    let l : length (take n (drop a cs)) ≡ n = length-take-le n (drop a cs) (rw length-drop (omega arith)) in
    ext_get_or 0 (part a n cs) (take n (drop a cs)) (part_length a n cs ∙ sym l)
    (λ i b. let b' : i < n = rw part_length at b in part_at a n i cs b' ∙ sym (get_or-take n (drop a cs) i 0 b' ∙ get_or-drop a cs i 0))

-- what is stored inside stands between what was before and after it
pub store_parts : (a : ℕ) (ys cs : List ℕ) → a + length ys ≤ length cs → store a ys cs ≡ take a cs ++ (ys ++ drop (a + length ys) cs)
store_parts a ys cs h = sets-eq ys cs a h ∙ append_assoc (take a cs) ys (drop (a + length ys) cs)
