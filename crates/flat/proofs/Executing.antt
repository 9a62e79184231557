-- A tick, instruction after instruction: what is left to execute, over the registers written so far.
use Prim.Native.Nat.{ℕ, zero, suc, ◌+◌, ◌-◌, ◌*◌, ◌≤◌, ◌<◌}
use mathlib.Core.Path.{◌≡◌, sym, ap, ap₂, subst₂, ◌∙◌}
use mathlib.Core.Bool.{Bool, true, false}
use mathlib.Core.List.{List, [], ◌∷◌, ◌++◌, append_assoc, append-nil}
use native.Mathlib.Nat.{zero-add, add-zero, suc-add}
use native.Mathlib.Omega.{arith}
use lib.ListN.{length, get_or, set, take, drop, length-set, length-append, length-drop, length-replicate, drop_of_length-le}
use lib.Seq.{drop-drop, take-suc-set, take_at, length-take-le}
use Rattle.word.specs.Choice.{◌or◌}
use Rattle.word.specs.Tick.{zeros}
use Rattle.word.proofs.Lists.{first-true, second-true, or_first, or_assoc}
use Rattle.flat.specs.declared.keys.Key.{Key}
use Rattle.flat.specs.declared.keys.Key.TheVariants.{Skip}
use Rattle.flat.specs.Flat.{Instruction, width, Machine, machine, effect, worked, execute, worked_clips, execute_clips}
use Rattle.flat.specs.Code.{header, instruction_at, instructions_of, input_count, instruction_count}
use Rattle.flat.specs.Check.{instruction_ok, instructions_ok}
use Rattle.flat.specs.Steps.{Header, Keys, Workable, Steppable, Advanced, Ready}
use Rattle.flat.proofs.Decoded.{code-instructions, instructions-next, ok_step}
use Rattle.flat.proofs.Effects.{execute-none, execute-first, execute_skipped, clips-none, clips-first, clips_skipped}
use Rattle.flat.proofs.Keyed.{keys_as, key_here, keys_on}
use Rattle.flat.proofs.Working.{works_below, clips-below, skips_inside}

-- skipped instructions leave zeros, for all that goes over one as execution does
module _ {A : Type 0} (run : List Instruction → Machine → A)
    (over : (x : Instruction) (xs : List Instruction) (ρ cs : List ℕ) (s : ℕ) → run (x ∷ xs) (machine ρ (suc s) cs) ≡ run xs (machine (ρ ++ (0 ∷ [])) s cs)) where
  skipped : (s k : ℕ) (ys ρ cs : List ℕ) → run (instructions_of (s + k) ys) (machine ρ s cs) ≡ run (instructions_of k (drop (width * s) ys)) (machine (ρ ++ zeros s) 0 cs)
  skipped zero k ys ρ cs = rw (zero-add, append-nil)
  skipped (suc s) k ys ρ cs =
      let z : width * suc s ≡ width + width * s = omega arith in
      rw (suc-add, z)
      (over _ (instructions_of (s + k) (drop width ys)) ρ cs s
      ∙ skipped s k (drop width ys) (ρ ++ (0 ∷ [])) cs
      ∙ ap₂ (λ l m. run (instructions_of k l) (machine m 0 cs)) (drop-drop (width * s) width ys) (append_assoc ρ (0 ∷ []) (zeros s)))

ok-rest : (cells end r : ℕ) (x : Instruction) (xs : List Instruction) → instructions_ok cells end r (x ∷ xs) ≡ true → instructions_ok cells end (suc r) xs ≡ true
unfolding instructions_ok
ok-rest cells end r x xs e = second-true (instruction_ok cells end r x) (instructions_ok cells end (suc r) xs) e

ok_skipped : (cells end r s k : ℕ) (ys : List ℕ) → instructions_ok cells end r (instructions_of (s + k) ys) ≡ true → instructions_ok cells end (r + s) (instructions_of k (drop (width * s) ys)) ≡ true
ok_skipped cells end r zero k ys e = rw add-zero (rw zero-add at e)
ok_skipped cells end r (suc s) k ys e =
    let z : width * suc s ≡ width + width * s = omega arith in
    let y : r + suc s ≡ suc r + s = omega arith in
    let f : instructions_ok cells end r (instructions_of (suc (s + k)) ys) ≡ true = rw suc-add at e in
    rw (z, y, ← drop-drop (width * s) width ys) (ok_skipped cells end (suc r) s k (drop width ys) (ok-rest cells end r _ _ f))

-- registers of which those from `from` to `to` were cleared
filled : (ρ ys zs : List ℕ) (from to s : ℕ) → to ≡ from + s → to ≤ length ρ → ys ≡ zeros s ++ drop s (take (to - from) (drop from ρ))
    → take to (take from ρ ++ (ys ++ zs)) ≡ take from ρ ++ zeros s
filled ρ ys zs from to s e h q =
    let l : length (take from ρ) ≡ from = length-take-le from ρ (omega arith) in
    let m : length (take (to - from) (drop from ρ)) ≡ s = length-take-le (to - from) (drop from ρ) (rw length-drop (omega arith)) ∙ difference from to s e in
    let y : ys ≡ zeros s = q ∙ rw (nothing s (take (to - from) (drop from ρ)) m, append-nil) in
    rw (y, ← append_assoc (take from ρ) (zeros s) zs)
    (take_at (take from ρ ++ zeros s) zs to (length-append (take from ρ) (zeros s) ∙ ap₂ ◌+◌ l (length-replicate s 0) ∙ sym e))
  where
    difference : (from to s : ℕ) → to ≡ from + s → to - from ≡ s
    difference from to s e = omega arith

    nothing : (n : ℕ) (l : List ℕ) → length l ≡ n → drop n l ≡ []
    nothing n l e = drop_of_length-le l {i = n} (omega arith)

-- one step: the instruction, its own register, and zeros for those that it skips
module _ {key : Key} {x : Instruction} {controls : List ℕ} {own : ℕ} {ρ cs : List ℕ} (w : Steppable key x controls own ρ cs) where
  pub steppable_works : Workable key x controls ρ cs
  steppable_works = record { keyed = w.keyed; end = w.end; own = own; ok = w.ok; room = omega (arith, w.inside, w.room); sixteen = w.sixteen }

  pub tells : (told : Bool) {told₁ : Bool} → told₁ ≡ told or worked_clips x ρ → told₁ ≡ told or worked_clips x (take own ρ)
  tells told e = e ∙ ap (λ b. told or b) (sym (clips-below (length cs) w.end own x ρ w.ok))

  module _ {v s : ℕ} {cs₁ : List ℕ} (d : worked controls x ρ cs ≡ effect v s cs₁) where
    pub skip-room : own + (1 + s) ≤ length ρ
    skip-room =
        let i = skips_inside (length cs) w.end own controls x ρ cs w.ok w.inside in
        omega (arith, rw d at i, w.room)

    pub advance : (ρ₂ ys zs : List ℕ) (from to : ℕ) → from ≡ own + 1 → to ≡ from + s
        → ys ≡ zeros s ++ drop s (take (to - from) (drop from (set ρ own v))) → ρ₂ ≡ take from (set ρ own v) ++ (ys ++ zs)
        → Advanced x controls own ρ cs s ρ₂ cs₁
    advance ρ₂ ys zs from to ef et ey e₂ =
        let l : own < length ρ = omega (arith, w.inside, w.room) in
        let n : own + (1 + s) ≡ to = omega arith in
        let f : from ≡ suc own = omega arith in
        let t : to ≤ length (set ρ own v) = rw length-set (omega (arith, skip-room)) in
        let a : take from (set ρ own v) ≡ take own ρ ++ (v ∷ []) = rw f (take-suc-set ρ own v l) in
        record {
          value = v;
          does = works_below (length cs) w.end own controls x ρ cs w.ok ∙ d;
          takes = rw (n, e₂) (filled (set ρ own v) ys zs from to s et t ey ∙ ap (λ l. l ++ zeros s) a ∙ append_assoc (take own ρ) (v ∷ []) (zeros s));
        }

-- what is left to do at register r, where the instructions stand from p on, told so far of a clipped delay or not
pub record Going (code : List ℕ) (keys : List Key) (controls : List ℕ) (target : Machine) (all : Bool) (end p r : ℕ) (told : Bool) (ρ cs : List ℕ) : Type 0 where
  pub low : r ≤ end
  pub keyed : Keys code keys end p r
  pub place : p + width * (end - r) ≤ length code
  pub room : end ≤ length ρ
  pub sixteen : length controls ≡ 16
  pub ok : instructions_ok (length cs) end r (instructions_of (end - r) (drop p code)) ≡ true
  pub same : execute controls (instructions_of (end - r) (drop p code)) (machine (take r ρ) 0 cs) ≡ target
  pub clips : told or execute_clips controls (instructions_of (end - r) (drop p code)) (machine (take r ρ) 0 cs) ≡ all

module _ {code : List ℕ} {keys : List Key} {controls : List ℕ} {target : Machine} {all : Bool} {end p r : ℕ} {told : Bool} {ρ cs : List ℕ} (g : Going code keys controls target all end p r told ρ cs) where
  pub arrived : end ≤ r → target ≡ machine (take end ρ) 0 cs
  arrived h =
      let e : r ≡ end = omega (arith, g.low) in
      let z : end - r ≡ 0 = omega arith in
      sym g.same ∙ rw (z, e) (execute-none controls (machine (take end ρ) 0 cs))

  pub all_told : end ≤ r → told ≡ all
  all_told h =
      let z : end - r ≡ 0 = omega arith in
      or_first told _ (rw z (clips-none controls (machine (take r ρ) 0 cs))) ∙ g.clips

  module _ (h : r < end) {x : Instruction} (i : x ≡ instruction_at code p) where
    here-ok : instruction_ok (length cs) end r x ≡ true
    here-ok = rw i (first-true _ (instructions_ok (length cs) end (r + 1) (instructions_of (end - (r + 1)) (drop (p + width) code))) (sym (ok_step (length cs) end r p code h) ∙ g.ok))

    rest_ok : instructions_ok (length cs) end (r + 1) (instructions_of (end - (r + 1)) (drop (p + width) code)) ≡ true
    rest_ok = second-true (instruction_ok (length cs) end r (instruction_at code p)) _ (sym (ok_step (length cs) end r p code h) ∙ g.ok)

    pub steppable : Steppable (get_or keys r Skip) x controls r ρ cs
    steppable = record { keyed = key_here g.keyed h i; end = end; ok = here-ok; inside = h; room = g.room; sixteen = g.sixteen }

    module _ {s : ℕ} {ρ₂ cs₁ : List ℕ} (a : Advanced x controls r ρ cs s ρ₂ cs₁) where
      inside : r + (1 + s) ≤ end
      inside = rw a.does at (skips_inside (length cs) end r controls x (take r ρ) cs here-ok h)

      -- the next register and the next place lie inside
      pub next : (r + (1 + s) ≤ length ρ) × (p + (width + width * s) ≤ length code)
      next = (omega (arith, inside, g.room), omega (arith, inside, g.place))

      behind : {told₁ : Bool} → told₁ ≡ told or worked_clips x (take r ρ) → length ρ₂ ≡ length ρ → length cs₁ ≡ length cs
          → Going code keys controls target all end (p + (width + width * s)) (r + (1 + s)) told₁ ρ₂ cs₁
      behind t lr lc =
          let b : r + (1 + s) ≤ end = inside in
          let k : ℕ = end - (r + (1 + s)) in
          let e₁ : end - r ≡ suc (s + k) = omega arith in
          let e₂ : end - (r + 1) ≡ s + k = omega arith in
          let e₃ : p + width + width * s ≡ p + (width + width * s) = omega arith in
          let e₄ : r + 1 + s ≡ r + (1 + s) = omega arith in
          let d : drop (width * s) (drop (p + width) code) ≡ drop (p + (width + width * s)) code = drop-drop (width * s) (p + width) code ∙ ap (λ n. drop n code) e₃ in
          let o : instructions_ok (length cs) end (r + 1 + s) (instructions_of k (drop (width * s) (drop (p + width) code))) ≡ true =
          ok_skipped (length cs) end (r + 1) s k (drop (p + width) code) (rw e₂ at rest_ok) in
          let ρ₁ : List ℕ = take r ρ ++ (a.value ∷ []) in
          let written : take (r + (1 + s)) ρ₂ ≡ ρ₁ ++ zeros s = a.takes ∙ sym (append_assoc (take r ρ) (a.value ∷ []) (zeros s)) in
          let rest : List Instruction = instructions_of (s + k) (drop (p + width) code) in
          let here : x ∷ rest ≡ instructions_of (end - r) (drop p code) =
          ap {B = List Instruction} (λ y. y ∷ rest) i ∙ sym (instructions-next (s + k) p code) ∙ ap (λ n. instructions_of n (drop p code)) (sym e₁) in
          record {
            low = b;
            keyed = keys_on g.keyed s;
            place = omega (arith, g.place);
            room = omega (arith, g.room);
            sixteen = g.sixteen;
            ok = rw lc (rw (e₄, d) at o);
            same =
                ap₂ (λ l m. execute controls (instructions_of k l) (machine m 0 cs₁)) (sym d) written
                ∙ sym (skipped (execute controls) (execute_skipped controls) s k (drop (p + width) code) ρ₁ cs₁)
                ∙ sym (execute-first controls x rest (take r ρ) cs cs₁ a.value s a.does)
                ∙ ap (λ l. execute controls l (machine (take r ρ) 0 cs)) here
                ∙ g.same;
            clips =
                ap₂ (λ b c. b or c) t
                (ap₂ (λ l m. execute_clips controls (instructions_of k l) (machine m 0 cs₁)) (sym d) written
                ∙ sym (skipped (execute_clips controls) (clips_skipped controls) s k (drop (p + width) code) ρ₁ cs₁))
                ∙ or_assoc told (worked_clips x (take r ρ)) (execute_clips controls rest (machine ρ₁ s cs₁))
                ∙ ap (λ b. told or b)
                (sym (clips-first controls x rest (take r ρ) cs cs₁ a.value s a.does)
                ∙ ap (λ l. execute_clips controls l (machine (take r ρ) 0 cs)) here)
                ∙ g.clips;
          }

      pub go_on : {q o : ℕ} {told₁ : Bool} → told₁ ≡ told or worked_clips x (take r ρ) → length ρ₂ ≡ length ρ → length cs₁ ≡ length cs → p + (width + width * s) ≡ q → r + (1 + s) ≡ o
          → Going code keys controls target all end q o told₁ ρ₂ cs₁
      go_on {told₁ = told₁} t lr lc eq eo = subst₂ (λ (q o : ℕ). Going code keys controls target all end q o told₁ ρ₂ cs₁) eq eo (behind t lr lc)

-- the first instruction
pub begin : (code : List ℕ) (keys : List Key) (controls ρ cs : List ℕ) (n c : ℕ) → n ≡ input_count code → c ≡ instruction_count code → Ready code keys controls ρ cs
    → Going code keys controls (execute controls (instructions_of (instruction_count code) (drop header code)) (machine (take (input_count code) ρ) 0 cs))
    (execute_clips controls (instructions_of (instruction_count code) (drop header code)) (machine (take (input_count code) ρ) 0 cs)) (n + c) header n false ρ cs
begin code keys controls ρ cs n c en ec r =
    let h : Header code = r.checked.head in
    let z : n + c - n ≡ c = omega arith in
    record {
      low = omega arith;
      keyed = keys_as r.keyed (sym (ap₂ ◌+◌ en ec)) (sym en);
      place = omega (arith, h.long);
      room = omega (arith, h.ins, h.count, r.room);
      sixteen = r.sixteen;
      ok = rw (z, r.all, en, ec) (code-instructions code r.checked.ok);
      same = rw (z, en, ec);
      clips = rw (z, en, ec);
    }
