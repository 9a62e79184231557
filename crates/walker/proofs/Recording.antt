-- The ticks of a call with probes, one after another: what is left to record.
use Prim.Native.Nat.{ℕ, zero, suc, ◌+◌, ◌-◌, ◌*◌, ◌≤◌, ◌<◌}
use mathlib.Core.Path.{◌≡◌, refl, sym, ap, ap₂, ◌∙◌}
use mathlib.Core.List.{List, [], ◌∷◌, ◌++◌, append_assoc, append-nil}
use native.Mathlib.Nat.{suc-mul, zero-mul}
use native.Mathlib.Omega.{arith}
use lib.ListN.{length, take, drop, length-append}
use lib.Seq.{drop-drop, take_at, take_all, length-take-le, length-sets}
use Rattle.word.specs.Tick.{Tick, tick}
use Rattle.cells.specs.Cells.{store}
use Rattle.cells.specs.Block.{ticks_of}
use Rattle.cells.proofs.Parts.{store_parts}
use Rattle.arity.specs.Tree.{Tree}
use Rattle.signal.specs.Wire.{Probe}
use Rattle.calls.specs.Step.{step}
use Rattle.calls.specs.Probes.{latest_after, Noted, noted_as, recorded}

less : (left n : ℕ) → 0 < left → left * n ≡ (left - 1) * n + n
less zero n h = absurd (omega arith)
less (suc k) n h = let z : suc k - 1 ≡ k = omega arith in rw z (suc-mul k n)

record_none : (base : ℕ → ℕ) (t : Tree) (ps : List Probe) (cs vs : List ℕ) → recorded base t ps [] cs vs ≡ noted_as vs []
unfolding recorded
record_none base t ps cs vs = refl

record_one : (base : ℕ → ℕ) (t : Tree) (ps : List Probe) (f : Tick) (fs : List Tick) (cs vs cs' vs' : List ℕ) → (step base t f cs).cells ≡ cs' → latest_after base t ps f cs vs ≡ vs'
    → recorded base t ps (f ∷ fs) cs vs ≡ noted_as (recorded base t ps fs cs' vs').latest (vs' ++ (recorded base t ps fs cs' vs').recording)
unfolding recorded
record_one base t ps f fs cs vs cs' vs' e d = ap₂ (λ us ds. noted_as (recorded base t ps fs ds us).latest (us ++ (recorded base t ps fs ds us).recording)) d e

-- at place a of the inputs and d of the recording, with so many ticks left
pub record Recording (base : ℕ → ℕ) (t : Tree) (ps : List Probe) (inputs controls : List ℕ) (target : Noted) (n m left a d : ℕ) (rec cs vs : List ℕ) : Type 0 where
  pub writes : d + left * m ≡ length rec
  pub same : noted_as (recorded base t ps (ticks_of n controls left (drop a inputs)) cs vs).latest (take d rec ++ (recorded base t ps (ticks_of n controls left (drop a inputs)) cs vs).recording) ≡ target

pub record_begins : (base : ℕ → ℕ) (t : Tree) (ps : List Probe) (inputs controls : List ℕ) (n m ticks : ℕ) (rec cs vs : List ℕ) → length rec ≡ ticks * m
    → Recording base t ps inputs controls (recorded base t ps (ticks_of n controls ticks inputs) cs vs) n m ticks 0 0 rec cs vs
record_begins base t ps inputs controls n m ticks rec cs vs l = record { writes = omega arith; same = refl }

module _ {base : ℕ → ℕ} {t : Tree} {ps : List Probe} {inputs controls : List ℕ} {target : Noted} {n m left a d : ℕ} {rec cs vs : List ℕ}
    (p : Recording base t ps inputs controls target n m left a d rec cs vs) (h : 0 < left) where
  pub record_fits : d + m ≤ length rec
  record_fits = omega (arith, p.writes, less left m h)

  pub record_on : (xs rec' cs' vs' : List ℕ) → xs ≡ take n (drop a inputs) → (step base t (tick xs controls) cs).cells ≡ cs' → vs' ≡ latest_after base t ps (tick xs controls) cs vs
      → length vs' ≡ m → rec' ≡ store d vs' rec → Recording base t ps inputs controls target n m (left - 1) (a + n) (d + m) rec' cs' vs'
  record_on xs rec' cs' vs' ex ec ev lv er =
      let k : ℕ = left - 1 in
      let z : left ≡ suc k = omega arith in
      let fs : List Tick = ticks_of n controls k (drop (a + n) inputs) in
      let f : ticks_of n controls left (drop a inputs) ≡ tick xs controls ∷ fs =
      ap (λ j. ticks_of n controls j (drop a inputs)) z ∙ ap₂ (λ l u. tick l controls ∷ ticks_of n controls k u) (sym ex) (drop-drop n a inputs) in
      let rest : List ℕ = drop (d + length vs') rec in
      let e : rec' ≡ take d rec ++ (vs' ++ rest) = er ∙ store_parts d vs' rec (omega (arith, record_fits)) in
      let lb : length (take d rec) ≡ d = length-take-le d rec (omega (arith, record_fits)) in
      let q : take (d + m) rec' ≡ take d rec ++ vs' =
      rw (e, ← append_assoc (take d rec) vs' rest) (take_at (take d rec ++ vs') rest (d + m) (length-append (take d rec) vs' ∙ ap₂ ◌+◌ lb lv)) in
      let w : Noted = recorded base t ps fs cs' vs' in
      record {
        writes = omega (arith, p.writes, less left m h, ap length er, length-sets rec d vs');
        same =
            ap (λ l. noted_as w.latest l) (ap (λ l. l ++ w.recording) q ∙ append_assoc (take d rec) vs' w.recording)
            ∙ ap (λ (s : Noted). noted_as s.latest (take d rec ++ s.recording)) (sym (record_one base t ps (tick xs controls) fs cs vs cs' vs' ec (sym ev)) ∙ ap (λ l. recorded base t ps l cs vs) (sym f))
            ∙ p.same;
      }

pub record_ends : (base : ℕ → ℕ) (t : Tree) (ps : List Probe) (inputs controls : List ℕ) (target : Noted) (n m left a d : ℕ) (rec cs vs : List ℕ)
    → Recording base t ps inputs controls target n m left a d rec cs vs → left ≤ 0 → target ≡ noted_as vs rec
record_ends base t ps inputs controls target n m left a d rec cs vs p h =
    let z : left ≡ 0 = omega arith in
    let s = p.same in
    let w = p.writes in
    let l : length rec ≤ d = omega (arith, rw (z, zero-mul) at w) in
    sym (rw (z, record_none base t ps cs vs, append-nil, take_all d rec l) at s)
