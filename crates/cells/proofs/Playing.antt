-- The ticks of a call, one after another: what is left to play, over the outputs written so far.
use Prim.Native.Nat.{ℕ, zero, suc, ◌+◌, ◌-◌, ◌*◌, ◌≤◌, ◌<◌}
use mathlib.Core.Path.{◌≡◌, refl, sym, ap, ap₂, ◌∙◌}
use mathlib.Core.Bool.{Bool}
use mathlib.Core.List.{List, [], ◌∷◌, ◌++◌, append_assoc, append-nil}
use native.Mathlib.Nat.{zero-add, suc-mul, zero-mul, add_assoc, add-zero}
use native.Mathlib.Omega.{arith}
use lib.ListN.{length, take, drop, length-append, length-drop}
use lib.Seq.{drop-drop, take_at, take_all, length-take-le}
use Rattle.word.specs.Choice.{bit}
use Rattle.word.specs.Tick.{Tick, tick, Stepped, stepped}
use Rattle.cells.specs.Block.{Played, played_as, ticks_of, played}

plays_none : (g : Tick → List ℕ → Stepped) (cs : List ℕ) → played g [] cs ≡ played_as [] cs 0
unfolding played
plays_none g cs = refl

plays_one : (g : Tick → List ℕ → Stepped) (f : Tick) (fs : List Tick) (cs ys cs' : List ℕ) (c : Bool) → g f cs ≡ stepped ys cs' c
    → played g (f ∷ fs) cs ≡ played_as (ys ++ (played g fs cs').outputs) (played g fs cs').cells (bit c + (played g fs cs').clips)
unfolding played
plays_one g f fs cs ys cs' c e = ap (λ (s : Stepped). played_as (s.outputs ++ (played g fs s.cells).outputs) (played g fs s.cells).cells (bit s.clipped + (played g fs s.cells).clips)) e

one_less : (left n : ℕ) → 0 < left → left * n ≡ (left - 1) * n + n
one_less zero n h = absurd (omega arith)
one_less (suc k) n h = let z : suc k - 1 ≡ k = omega arith in rw z (suc-mul k n)

-- at place a of the inputs and b of the outputs, with so many ticks left, and k clipped ones so far
pub record Playing (g : Tick → List ℕ → Stepped) (inputs controls : List ℕ) (target : Played) (n m left a b k : ℕ) (ys cs : List ℕ) : Type 0 where
  pub reads : a + left * n ≡ length inputs
  pub writes : b + left * m ≡ length ys
  pub same : played_as (take b ys ++ (played g (ticks_of n controls left (drop a inputs)) cs).outputs) (played g (ticks_of n controls left (drop a inputs)) cs).cells
      (k + (played g (ticks_of n controls left (drop a inputs)) cs).clips) ≡ target

pub begins : (g : Tick → List ℕ → Stepped) (inputs controls : List ℕ) (n n' m m' ticks : ℕ) (ys cs : List ℕ) → n ≡ n' → m ≡ m' → length inputs ≡ ticks * n' → length ys ≡ ticks * m'
    → Playing g inputs controls (played g (ticks_of n' controls ticks inputs) cs) n m ticks 0 0 0 ys cs
begins g inputs controls n n' m m' ticks ys cs en em li lo =
    record { reads = rw en (omega arith); writes = rw em (omega arith); same = rw (en, zero-add) }

module _ {g : Tick → List ℕ → Stepped} {inputs controls : List ℕ} {target : Played} {n m left a b k : ℕ} {ys cs : List ℕ}
    (p : Playing g inputs controls target n m left a b k ys cs) (h : 0 < left) where
  pub reads_fit : a + n ≤ length inputs
  reads_fit = omega (arith, p.reads, one_less left n h)

  pub writes_fit : b + m ≤ length ys
  writes_fit = omega (arith, p.writes, one_less left m h)

  pub plays_on : (xs zs rest ys' cs' : List ℕ) (c : Bool) → xs ≡ take n (drop a inputs) → g (tick xs controls) cs ≡ stepped zs cs' c → length zs ≡ m → ys' ≡ take b ys ++ (zs ++ rest) → length ys' ≡ length ys
      → Playing g inputs controls target n m (left - 1) (a + n) (b + m) (k + bit c) ys' cs'
  plays_on xs zs rest ys' cs' c ex e lz ey ly =
      let j : ℕ = left - 1 in
      let z : left ≡ suc j = omega arith in
      let fs : List Tick = ticks_of n controls j (drop (a + n) inputs) in
      let t : ticks_of n controls left (drop a inputs) ≡ tick xs controls ∷ fs =
      ap (λ i. ticks_of n controls i (drop a inputs)) z ∙ ap₂ (λ l r. tick l controls ∷ ticks_of n controls j r) (sym ex) (drop-drop n a inputs) in
      let lb : length (take b ys) ≡ b = length-take-le b ys (omega (arith, writes_fit)) in
      let q : take (b + m) ys' ≡ take b ys ++ zs =
      rw (ey, ← append_assoc (take b ys) zs rest) (take_at (take b ys ++ zs) rest (b + m) (length-append (take b ys) zs ∙ ap₂ ◌+◌ lb lz)) in
      record {
        reads = omega (arith, p.reads, one_less left n h);
        writes = omega (arith, p.writes, one_less left m h);
        same =
            ap₂ (λ l i. played_as l (played g fs cs').cells i) (ap (λ l. l ++ (played g fs cs').outputs) q ∙ append_assoc (take b ys) zs (played g fs cs').outputs) (add_assoc k (bit c) (played g fs cs').clips)
            ∙ ap (λ (s : Played). played_as (take b ys ++ s.outputs) s.cells (k + s.clips)) (sym (plays_one g (tick xs controls) fs cs zs cs' c e) ∙ ap (λ l. played g l cs) (sym t))
            ∙ p.same;
      }

pub ends : (g : Tick → List ℕ → Stepped) (inputs controls : List ℕ) (target : Played) (n m left a b k : ℕ) (ys cs : List ℕ)
    → Playing g inputs controls target n m left a b k ys cs → left ≤ 0 → target ≡ played_as ys cs k
ends g inputs controls target n m left a b k ys cs p h =
    let z : left ≡ 0 = omega arith in
    let s = p.same in
    let w = p.writes in
    let l : length ys ≤ b = omega (arith, rw (z, zero-mul) at w) in
    sym (rw (z, plays_none g cs, append-nil, take_all b ys l, add-zero) at s)

-- a part of n from a on that is lent, and what comes back
part-size : (a n : ℕ) → a + n - a ≡ n
part-size a n = omega arith

pub part-is : (a n : ℕ) (l : List ℕ) → take (a + n - a) (drop a l) ≡ take n (drop a l)
part-is a n l = ap (λ j. take j (drop a l)) (part-size a n)

pub part-long : (a n : ℕ) (l : List ℕ) → a + n ≤ length l → length (take (a + n - a) (drop a l)) ≡ n
part-long a n l h = ap length (part-is a n l) ∙ length-take-le n (drop a l) (rw length-drop (omega arith))

pub part_back : (a n : ℕ) (l zs : List ℕ) → a + n ≤ length l → length zs ≡ n → length (take a l ++ (zs ++ drop (a + n - a) (drop a l))) ≡ length l
part_back a n l zs h e =
    let z : a + n - a ≡ n = part-size a n in
    let t : length (take a l) ≡ a = length-take-le a l (omega arith) in
    rw (z) (simp (length-append, length-drop) (omega arith))
