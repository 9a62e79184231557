-- The complete result of a call, refusal by refusal.
use Prim.Native.Nat.{ℕ, zero, suc, ◌*◌, ◌≤◌, ◌<◌}
use mathlib.Core.Path.{◌≡◌, refl, sym, ap, ◌∙◌}
use mathlib.Core.Bool.{Bool, true, false}
use mathlib.Core.List.{List, [], ◌∷◌, ◌++◌}
use native.Mathlib.Nat.{mul-le-mul}
use native.Mathlib.Omega.{arith}
use lib.IntN.{ℤ}
use lib.Dec.{eqb, leb}
use lib.ListN.{length, take, drop}
use borrow.Author.Tests.{leb-true, eqb-true, le-leb, lt-leb}
use Rattle.word.specs.Choice.{pick, ◌and◌}
use Rattle.word.specs.Tick.{Tick, Stepped, head_or}
use Rattle.word.proofs.Lists.{first-true, second-true, bit-few}
use Rattle.refusal.specs.Answer.{Answer, count, refused_all}
use Rattle.refusal.specs.Answer.Answer.{counts, refused}
use Rattle.cells.specs.Block.{with_report, report_of, without_report, Ran, ran_as, unchanged, refusal, ticks_of, Played, played_as, played, block_ok, answered, called}

-- what turns on whether a call is refused, and on nothing else in an accepted answer than the count of samples, does not see the report
pub unreported : {A : Type 0} (f : Answer → A) → ((ks : List ℕ) → f (counts ks) ≡ f (count (head_or 0 ks))) → (y : Answer) → f y ≡ f (without_report y)
unreported f e (counts ks) = e ks
unreported f e (refused r p) = refl

pub refused_has_none : (y : Answer) (x : ℕ) (p : ℤ) → without_report y ≡ refused x p → y ≡ refused x p
refused_has_none (counts ks) x p e = absurd (let z : ◌≡◌ {A = ℕ} 0 1 = cc in omega arith)
refused_has_none (refused r q) x p e = e

-- samples of at most 4,096 ticks
pub few : (t n k : ℕ) → t ≤ 4096 → n ≤ k → t * n ≤ 4096 * k
few t n k h g = mul-le-mul h g

-- what row 14 leaves
pub record Block (n ticks : ℕ) (inputs controls : List ℕ) : Type 0 where
  pub short : ticks ≤ 4096
  pub ins : length inputs ≡ ticks * n
  pub sixteen : length controls ≡ 16

pub block_says : (n ticks : ℕ) (inputs controls : List ℕ) → block_ok n ticks inputs controls ≡ true → Block n ticks inputs controls
block_says n ticks inputs controls e =
    let t = second-true (leb ticks 4096) _ e in
    record {
      short = leb-true _ _ (first-true (leb ticks 4096) _ e);
      ins = eqb-true _ _ (first-true (eqb (length inputs) (ticks * n)) (eqb (length controls) 16) t);
      sixteen = eqb-true _ _ (second-true (eqb (length inputs) (ticks * n)) _ t);
    }

module _ (g : Tick → List ℕ → Stepped) (n m k ticks : ℕ) (inputs controls cells outputs : List ℕ) where
  called_opened : called g n m k ticks inputs controls cells outputs
      ≡ pick (block_ok n ticks inputs controls)
      (pick (leb k (length cells) and leb (ticks * m) (length outputs)) (answered g n m k ticks inputs controls cells outputs) (refusal 12 cells outputs))
      (refusal 14 cells outputs)
  unfolding called
  called_opened = refl

  pub answered-all : (ys cs : List ℕ) (j : ℕ) → played g (ticks_of n controls ticks inputs) (take k cells) ≡ played_as ys cs j
      → ran_as (with_report (ticks * m) j) (cs ++ drop k cells) (ys ++ drop (ticks * m) outputs) ≡ answered g n m k ticks inputs controls cells outputs
  unfolding answered
  answered-all ys cs j e = ap (λ (s : Played). ran_as (with_report (ticks * m) s.clips) (s.cells ++ drop k cells) (s.outputs ++ drop (ticks * m) outputs)) (sym e)

  pub wrong_block : block_ok n ticks inputs controls ≡ false → ran_as (refused_all 14) cells outputs ≡ called g n m k ticks inputs controls cells outputs
  wrong_block e = sym (called_opened ∙ rw e)

  module _ (block : block_ok n ticks inputs controls ≡ true) where
    pub cells-short : length cells < k → ran_as (refused_all 12) cells outputs ≡ called g n m k ticks inputs controls cells outputs
    cells-short c = sym (called_opened ∙ rw (block, lt-leb k (length cells) c))

    pub outputs-short : k ≤ length cells → length outputs < ticks * m → ran_as (refused_all 12) cells outputs ≡ called g n m k ticks inputs controls cells outputs
    outputs-short c d = sym (called_opened ∙ rw (block, le-leb k (length cells) c, lt-leb (ticks * m) (length outputs) d))

    pub accepted : k ≤ length cells → ticks * m ≤ length outputs → (ys cs : List ℕ) (j : ℕ) → played g (ticks_of n controls ticks inputs) (take k cells) ≡ played_as ys cs j
        → ran_as (with_report (ticks * m) j) (cs ++ drop k cells) (ys ++ drop (ticks * m) outputs) ≡ called g n m k ticks inputs controls cells outputs
    accepted c d ys cs j e = answered-all ys cs j e ∙ sym (called_opened ∙ rw (block, le-leb k (length cells) c, le-leb (ticks * m) (length outputs) d))

  -- a refused call changes nothing
  pub refused-nothing : (x : ℕ) (p : ℤ) → (called g n m k ticks inputs controls cells outputs).answer ≡ refused x p
      → called g n m k ticks inputs controls cells outputs ≡ unchanged (refused x p) cells outputs
  unfolding called answered
  refused-nothing x p = go (block_ok n ticks inputs controls) (leb k (length cells) and leb (ticks * m) (length outputs))
    where
      result : Bool → Bool → Ran
      result a b = pick a (pick b (answered g n m k ticks inputs controls cells outputs) (refusal 12 cells outputs)) (refusal 14 cells outputs)

      go : (a b : Bool) → (result a b).answer ≡ refused x p → result a b ≡ unchanged (refused x p) cells outputs
      go true true e = absurd (let z : ◌≡◌ {A = ℕ} 0 1 = cc in omega arith)
      go true false e = ap (λ a. unchanged a cells outputs) e
      go false b e = ap (λ a. unchanged a cells outputs) e

  -- no more ticks are reported than the call brings
  played-few : (fs : List Tick) (cs : List ℕ) → (played g fs cs).clips ≤ length fs
  unfolding played
  played-few [] cs = omega arith
  played-few (f ∷ fs) cs = omega (arith, bit-few (g f cs).clipped, played-few fs (g f cs).cells)

  ticks_many : (j : ℕ) (xs : List ℕ) → length (ticks_of n controls j xs) ≡ j
  ticks_many zero xs = refl
  ticks_many (suc j) xs = ap suc (ticks_many j (drop n xs))

  pub few-reported : report_of (called g n m k ticks inputs controls cells outputs).answer ≤ 4096
  unfolding called answered
  few-reported = go (block_ok n ticks inputs controls) refl (leb k (length cells) and leb (ticks * m) (length outputs))
    where
      go : (a : Bool) → block_ok n ticks inputs controls ≡ a → (b : Bool)
          → report_of (pick a (pick b (answered g n m k ticks inputs controls cells outputs) (refusal 12 cells outputs)) (refusal 14 cells outputs)).answer ≤ 4096
      go true e true =
          let p = played-few (ticks_of n controls ticks inputs) (take k cells) in
          omega (arith, p, ticks_many ticks inputs, (block_says n ticks inputs controls e).short)
      go true e false = omega arith
      go false e b = omega arith
