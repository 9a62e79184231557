-- The ring of a delay: the place that is read holds the first input of some ticks ago, and a tick sets one place.
use Prim.Native.Nat.{ℕ, zero, suc, ◌+◌, ◌-◌, ◌%◌, ◌≤◌, ◌<◌}
use mathlib.Core.Path.{◌≡◌, refl, sym, ap, ap₂, ◌∙◌, subst}
use mathlib.Core.Bool.{Bool, true, false}
use mathlib.Core.Logic.{◌≢◌}
use mathlib.Core.List.{List, [], ◌∷◌, ◌++◌}
use native.Mathlib.Nat.{mod-lt, mod-eq_of_lt, mod_self, suc-mod, add-mod_left, add-zero}
use native.Mathlib.Numerals.{add-one}
use native.Mathlib.Decide.{dec_le}
use native.Mathlib.Omega.{arith}
use lib.ListN.{length, get_or, set, length-set, length-append, get_or-append}
use lib.Seq.{get_or-set_same, get_or-set_other, ext_get_or, get_or_at}
use lib.Dec.{T, eqb, ltb, lt→ltb, eqb-suc-zero, eqb→eq, eqb_refl}
use Rattle.word.specs.Choice.{pick}
use Rattle.word.specs.Word.{clamp}
use Rattle.word.specs.Tick.{Tick}
use Rattle.word.proofs.Forms.{clamp-most}
use Rattle.word.proofs.Lists.{passed, same_number, other-number}
use Rattle.cells.specs.Cells.{part}
use Rattle.cells.specs.Delay.{position, delayed, moved}
use Rattle.cells.proofs.Parts.{Stored, part_at, part-set}
use Rattle.signal.specs.Signal.{History, ago}
use Rattle.signal.specs.Contents.{latest, ring, delay_cells}

-- one place back, in a ring of d
wrap_le : (d m a : ℕ) → m < d → a ≤ m → (m + d - a) % d ≡ m - a
wrap_le d m a h k =
    let e : m + d - a ≡ d + (m - a) = omega arith in
    rw (e, add-mod_left) (mod-eq_of_lt (omega arith))

wrap_gt : (d m a : ℕ) → m < d → m < a → (m + d - a) % d ≡ m + d - a
wrap_gt d m a h k = mod-eq_of_lt (omega arith)

back : (d m a : ℕ) → m < d → a < d → (suc m % d + d - suc a) % d ≡ (m + d - a) % d
back d m a h k = go (dec_le d (suc m))
  where
    go : Dec (d ≤ suc m) → (suc m % d + d - suc a) % d ≡ (m + d - a) % d
    go (no g) = rw (mod-eq_of_lt {n = suc m} {m = d} (omega arith)) (ap (λ x. x % d) (omega arith))
    go (yes g) =
        let e : suc m ≡ d = omega arith in
        let z : suc m % d ≡ 0 = rw e (mod_self d) in
        let y : m + d - a ≡ d + (0 + d - suc a) = omega arith in
        rw (z, y, add-mod_left)

other_place : (d m a : ℕ) → m < d → 0 < a → a < d → (m + d - a) % d ≢ m
other_place d m a h z k e = go (dec_le a m)
  where
    go : Dec (a ≤ m) → ⊥
    go (yes g) = omega (arith, wrap_le d m a h g)
    go (no g) = omega (arith, wrap_gt d m a h (omega arith))

-- the ring, place by place
pub ring-length : (d n : ℕ) (h : History) → length (ring d n h) ≡ n
unfolding ring
ring-length d zero h = refl
ring-length d (suc n) h = rw (length-append, ring-length d n h) (omega arith)

ring-at : (d n j : ℕ) (h : History) → j < n → get_or (ring d n h) j 0 ≡ latest d j h
unfolding ring
ring-at d zero j h b = absurd (omega arith)
ring-at d (suc n) j h b = go (ring-at d n j h) (dec_le n j)
  where
    go : (j < n → get_or (ring d n h) j 0 ≡ latest d j h) → Dec (n ≤ j) → get_or (ring d n h ++ (latest d n h ∷ [])) j 0 ≡ latest d j h
    go r (yes g) = let e : j ≡ n = omega arith in rw e (get_or_at (ring d n h) (latest d n h) [] 0 n (ring-length d n h))
    go r (no g) = get_or-append (ring d n h) _ 0 j (omega (arith, ring-length d n h)) ∙ r (omega arith)

module _ (d : ℕ) (pos : 0 < d) where
  abbrev place_of : ℕ → ℕ → ℕ
  place_of n a = (n % d + d - suc a) % d

  place-next : (n a : ℕ) → a < d → place_of (suc n) a ≡ (n % d + d - a) % d
  place-next n a k = rw (suc-mod n d) (back d (n % d) a (mod-lt n pos) k)

  -- suc a places back from the position stands the first input of a ticks ago
  latest-ago : (h : History) (a : ℕ) → a < d → latest d (place_of (length h) a) h ≡ ago h a
  unfolding latest
  latest-ago [] zero k = refl
  latest-ago [] (suc a) k = refl
  latest-ago (f ∷ past) zero k =
      let m : ℕ = length past % d in
      let e : place_of (suc (length past)) 0 ≡ m = place-next (length past) 0 k ∙ wrap_le d m 0 (mod-lt (length past) pos) (omega arith) ∙ omega arith in
      rw (e, same_number m)
  latest-ago (f ∷ past) (suc a) k =
      let m : ℕ = length past % d in
      let j : ℕ = (m + d - suc a) % d in
      let n : eqb m j ≡ false = other-number m j (other_place d m (suc a) (mod-lt (length past) pos) (omega arith) k) in
      ap (λ (p : ℕ). latest d p (f ∷ past)) (place-next (length past) (suc a) k) ∙ rw n (latest-ago past a (omega arith))

-- a tick sets the place of its number
set-place : (l : List ℕ) (m j x : ℕ) → j < length l → (b : Bool) → eqb m j ≡ b → get_or (set l m x) j 0 ≡ pick b x (get_or l j 0)
set-place l m j x h true e = let g : m ≡ j = eqb→eq m j (rw e tt) in rw g (get_or-set_same l j x 0 h)
set-place l m j x h false e = get_or-set_other l m j x 0 (λ g. rw e at (subst (λ y. T (eqb m y)) (sym g) (eqb_refl m)))

ring-next : (d : ℕ) (f : Tick) (h : History) → ring d d (f ∷ h) ≡ set (ring d d h) (length h % d) (get_or f.inputs 0 0)
unfolding latest
ring-next d f h =
    let m : ℕ = length h % d in
    let x : ℕ = get_or f.inputs 0 0 in
    ext_get_or 0 (ring d d (f ∷ h)) (set (ring d d h) m x) (ring-length d d (f ∷ h) ∙ sym (length-set (ring d d h) m x ∙ ring-length d d h))
    (λ j b. let g : j < d = omega (arith, ring-length d d (f ∷ h)) in
    ring-at d d j (f ∷ h) g ∙ ap (pick (eqb m j) x) (sym (ring-at d d j h g)) ∙ sym (set-place (ring d d h) m j x (rw (ring-length d d h) g) (eqb m j) refl))

-- cells of a part
cell_at : (a n i : ℕ) (cs xs : List ℕ) → part a n cs ≡ xs → i < n → get_or cs (a + i) 0 ≡ get_or xs i 0
cell_at a n i cs xs e b = sym (part_at a n i cs b) ∙ ap (λ l. get_or l i 0) e

position_at : (d p : ℕ) → p < d → position d p ≡ p
position_at d p h = rw (passed (ltb p d) (lt→ltb p d h))

module _ (a d : ℕ) (h : History) (f : Tick) (cs : List ℕ) (u : part a (suc (suc d)) cs ≡ delay_cells (suc d) h) where
  place-holds : position (suc d) (get_or cs a 0) ≡ length h % suc d
  unfolding delay_cells
  place-holds =
      let e : get_or cs a 0 ≡ length h % suc d = rw add-zero at (cell_at a (suc (suc d)) 0 cs _ u (omega arith)) in
      rw e (position_at (suc d) (length h % suc d) (mod-lt (length h) (omega arith)))

  reads : (c : ℕ) → c ≤ suc d
      → pick (eqb c 0) (get_or f.inputs 0 0) (get_or cs (a + 1 + (position (suc d) (get_or cs a 0) + suc d - c) % suc d) 0) ≡ ago (f ∷ h) c
  unfolding delay_cells
  reads zero k = refl
  reads (suc c) k =
      let j : ℕ = (length h % suc d + suc d - suc c) % suc d in
      let b : j < suc d = mod-lt (length h % suc d + suc d - suc c) {m = suc d} (omega arith) in
      let e : a + 1 + j ≡ a + suc j = omega arith in
      rw (eqb-suc-zero c, place-holds, e)
      (cell_at a (suc (suc d)) (suc j) cs _ u (omega arith) ∙ ring-at (suc d) (suc d) j h b ∙ latest-ago (suc d) (omega arith) h c k)

  moves : a + suc (suc d) ≤ length cs → Stored a (suc (suc d)) (delay_cells (suc d) (f ∷ h)) cs (moved a (suc d) (get_or f.inputs 0 0) cs)
  unfolding delay_cells
  moves room =
      let p : ℕ = length h % suc d in
      let x : ℕ = get_or f.inputs 0 0 in
      let b : p < suc d = mod-lt (length h) (omega arith) in
      let e : (p + 1) % suc d ≡ suc (length h) % suc d = rw (suc-mod (length h) (suc d), add-one) in
      rw place-holds
      (record {
        own = part-set a (suc (suc d)) 0 a ((p + 1) % suc d) (set cs (a + 1 + p) x) (omega arith) (omega arith) (omega (arith, length-set cs (a + 1 + p) x))
            ∙ ap (λ l. set l 0 ((p + 1) % suc d)) (part-set a (suc (suc d)) (suc p) (a + 1 + p) x cs (omega arith) (omega arith) (omega arith) ∙ ap (λ l. set l (suc p) x) u)
            ∙ ap₂ {C = List ℕ} (λ v vs. v ∷ vs) e (sym (ring-next (suc d) f h));
        other = λ k n.
            get_or-set_other (set cs (a + 1 + p) x) a k _ 0 (λ g. n (record { low = omega arith; high = omega arith }))
            ∙ get_or-set_other cs (a + 1 + p) k x 0 (λ g. n (record { low = omega arith; high = omega arith }));
        long = length-set (set cs (a + 1 + p) x) a _ ∙ length-set cs (a + 1 + p) x;
      })

pub delay-reads : (a d : ℕ) (h : History) (f : Tick) (amount : ℕ) (cs : List ℕ) → part a (suc d) cs ≡ delay_cells d h
    → delayed a d (get_or f.inputs 0 0) amount cs ≡ ago (f ∷ h) (clamp amount d)
delay-reads a zero h f amount cs u =
    let e : clamp amount 0 ≡ 0 = omega (arith, clamp-most amount 0) in
    rw e
delay-reads a (suc d) h f amount cs u = reads a d h f cs u (clamp amount (suc d)) (clamp-most amount (suc d))

pub delay_moves : (a d : ℕ) (h : History) (f : Tick) (cs : List ℕ) → a + suc d ≤ length cs → part a (suc d) cs ≡ delay_cells d h
    → Stored a (suc d) (delay_cells d (f ∷ h)) cs (moved a d (get_or f.inputs 0 0) cs)
unfolding delay_cells
delay_moves a zero h f cs room u = record { own = u; other = λ k n. refl; long = refl }
delay_moves a (suc d) h f cs room u = moves a d h f cs u room
