-- What each loop of the translator writes next: an instruction on a cell, a term of a sum, a sum of a merge.
use Prim.Native.Nat.{ℕ, zero, suc, ◌+◌, ◌-◌, ◌≤◌, ◌<◌}
use mathlib.Core.Path.{◌≡◌, refl, sym, ap, subst, subst₂}
use mathlib.Core.List.{List, [], ◌∷◌, ◌++◌}
use native.Mathlib.Omega.{arith}
use native.Mathlib.Nat.{add-zero}
use native.Mathlib.Numerals.{add-one}
use lib.ListN.{length, get_or, take, drop, set, replicate, drop_of_length-le}
use lib.Seq.{drop-cons, take-suc-set}
use Rattle.flat.specs.Flat.{Instruction}
use Rattle.flat.specs.Instructions as flat
use Rattle.translator.specs.Emit.{Emitted, emitted, reads, writes, up_from, terms, merges}
use Rattle.translator.specs.Writing.{Room, Written, Summed, on_cells}
use Rattle.translator.specs.declared.place.Place.{Place}
use Rattle.translator.specs.declared.merge.Sum.{Sum}
use Rattle.translator.proofs.Writing.{Going, first-room, go_on, one_more}

-- reads and writes in the form that they share
pub writes_form : (a : ℕ) (rs : List ℕ) → writes a rs ≡ on_cells 6 a rs
unfolding on_cells
writes_form a [] = refl
writes_form a (r ∷ rs) = ap {B = List Instruction} (λ is. flat.write a r ∷ is) (writes_form (suc a) rs)

pub reads_form : (a k n : ℕ) → k ≤ n → reads a k ≡ on_cells 5 a (take k (replicate n 0))
unfolding on_cells
reads_form a zero n h = refl
reads_form a (suc k) zero h = absurd (omega arith)
reads_form a (suc k) (suc n) h = ap {B = List Instruction} (λ is. flat.read a ∷ is) (reads_form (suc a) k n (omega arith))

module _ (k a i : ℕ) (xs : List ℕ) (inside : i < length xs) where
  cell-first : on_cells k (a + i) (drop i xs) ≡ (flat.on_cell k (a + i) (get_or xs i 0) ∷ []) ++ on_cells k (a + (i + 1)) (drop (i + 1) xs)
  unfolding on_cells
  cell-first =
      let e : a + (i + 1) ≡ suc (a + i) = omega arith in
      rw (drop-cons xs i 0 inside, e, add-one i)

  module _ {e : Emitted} {p q : Place} {c c₁ : List ℕ} (g : Going e p c q c₁ [] (emitted (on_cells k (a + i) (drop i xs)) [])) where
    cell_going : Going e p c q c₁ [] (emitted ((flat.on_cell k (a + i) (get_or xs i 0) ∷ []) ++ on_cells k (a + (i + 1)) (drop (i + 1) xs)) [])
    cell_going = subst (λ (is : List Instruction). Going e p c q c₁ [] (emitted is [])) cell-first g

    pub cell_room : Room (flat.on_cell k (a + i) (get_or xs i 0) ∷ []) q c₁
    cell_room = first-room (flat.on_cell k (a + i) (get_or xs i 0) ∷ []) _ cell_going

    pub cell-next : {s : Place} {c₂ : List ℕ} → Written (flat.on_cell k (a + i) (get_or xs i 0) ∷ []) q c₁ s c₂ → Going e p c s c₂ [] (emitted (on_cells k (a + (i + 1)) (drop (i + 1) xs)) [])
    cell-next w = go_on (flat.on_cell k (a + i) (get_or xs i 0) ∷ []) _ cell_going w

pub cells_done : {e : Emitted} {p q : Place} {c c₁ : List ℕ} (k a i : ℕ) (xs : List ℕ) → Going e p c q c₁ [] (emitted (on_cells k a (drop i xs)) []) → length xs ≤ i → Going e p c q c₁ [] (emitted [] [])
unfolding on_cells
cells_done k a i xs g h = rw (drop_of_length-le xs h) at g

module _ (b acc at v : ℕ) (xs : List ℕ) (value : v ≡ get_or xs at 0) {e : Emitted} {p q : Place} {c c₁ : List ℕ} (n k : ℕ) (more : n ≡ suc k) (g : Going e p c q c₁ [] (terms n b acc at xs q.next)) where
  term_going : Going e p c q c₁ [] (terms (suc k) b acc at xs q.next)
  term_going = subst (λ (j : ℕ). Going e p c q c₁ [] (terms j b acc at xs q.next)) more g

  pub term_room : Room (flat.addition acc v ∷ []) q c₁
  term_room = rw value (first-room (flat.addition acc (get_or xs at 0) ∷ []) (terms k b q.next (at + b) xs (suc q.next)).code term_going)

  pub term_next : {s : Place} {c₂ : List ℕ} (at' : ℕ) → at' ≡ at + b → Written (flat.addition acc v ∷ []) q c₁ s c₂ → Going e p c s c₂ [] (terms k b q.next at' xs s.next)
  term_next {s} {c₂} at' f w =
      let m : s.next ≡ suc q.next = omega (arith, w.next) in
      let w' : Written (flat.addition acc (get_or xs at 0) ∷ []) q c₁ s c₂ = subst (λ (x : ℕ). Written (flat.addition acc x ∷ []) q c₁ s c₂) value w in
      subst₂ (λ (j l : ℕ). Going e p c s c₂ [] (terms k b q.next j xs l)) (sym f) (sym m)
      (go_on (flat.addition acc (get_or xs at 0) ∷ []) (terms k b q.next (at + b) xs (suc q.next)).code term_going w')

module _ (k b i v : ℕ) (xs : List ℕ) (value : v ≡ get_or xs i 0) {e : Emitted} {p q : Place} {c c₁ ys : List ℕ} where
  pub sum_room : (n : ℕ) → Going e p c q c₁ ys (merges n k b i xs q.next) → 0 < n → Room (terms k b v (i + b) xs q.next).code q c₁
  sum_room zero g h = absurd (omega arith)
  sum_room (suc n) g h =
      let t = terms k b (get_or xs i 0) (i + b) xs q.next in
      rw value (first-room t.code (merges n k b (suc i) xs (q.next + length t.code)).code g)

  pub sum-next : {s : Sum} {c₂ : List ℕ} (n : ℕ) → Going e p c q c₁ ys (merges n k b i xs q.next) → 0 < n → Summed k b v (i + b) xs q c₁ s c₂
      → Going e p c s.place c₂ (ys ++ (s.register ∷ [])) (merges (n - 1) k b (i + 1) xs s.place.next)
  sum-next zero g h w = absurd (omega arith)
  sum-next {s} {c₂} (suc n) g h w =
      let z : suc n - 1 ≡ n = omega arith in
      let w' : Summed k b (get_or xs i 0) (i + b) xs q c₁ s c₂ = subst (λ (x : ℕ). Summed k b x (i + b) xs q c₁ s c₂) value w in
      let t = terms k b (get_or xs i 0) (i + b) xs q.next in
      let m = merges n k b (suc i) xs (q.next + length t.code) in
      let g' : Going e p c q c₁ ys (emitted (t.code ++ m.code) (s.register ∷ m.results)) =
      subst (λ (l : List ℕ). Going e p c q c₁ ys (emitted (t.code ++ m.code) (l ++ m.results))) (sym w'.result) g in
      rw (z, add-one i)
      (subst (λ (j : ℕ). Going e p c s.place c₂ (ys ++ (s.register ∷ [])) (merges n k b (suc i) xs j)) (sym w'.written.next)
      (one_more m.code (go_on t.code m.code g' w'.written)))

module _ {e : Emitted} {p q : Place} {c c₁ : List ℕ} (k b i : ℕ) (xs sums : List ℕ) where
  -- the sum stands in its place
  pub sum_stored : (r : ℕ) → Going e p c q c₁ (take i sums ++ (r ∷ [])) (merges (b - i - 1) k b (i + 1) xs q.next) → i < length sums
      → Going e p c q c₁ (take (i + 1) (set sums i r)) (merges (b - (i + 1)) k b (i + 1) xs q.next)
  sum_stored r g h =
      let z : b - i - 1 ≡ b - (i + 1) = omega arith in
      rw (add-one i, take-suc-set sums i r h, ← add-one i, ← z) g

-- a merge onto nothing
-- registers in order
pub ascend_next : (xs : List ℕ) (i first next : ℕ) → take i xs ≡ up_from first i → next ≡ first + i → i < length xs → take (i + 1) (set xs i next) ≡ up_from first (i + 1)
ascend_next xs i first next e f h = rw (add-one i, take-suc-set xs i next h, e, f) (sym (up-last first i))
  where
    up-last : (a k : ℕ) → up_from a (suc k) ≡ up_from a k ++ ((a + k) ∷ [])
    up-last a zero = rw add-zero
    up-last a (suc k) = let z : a + suc k ≡ suc a + k = omega arith in rw z (ap {B = List ℕ} (λ l. a ∷ l) (up-last (suc a) k))
