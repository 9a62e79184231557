-- What `translate` has written when it answers a count: the table was accepted within the limits, and the buffer begins with its code.
use Prim.Native.Nat.{ℕ}
use mathlib.Core.Path.{◌≡◌, refl, ap}
use mathlib.Core.Bool.{Bool, true, false}
use mathlib.Core.List.{List, [], ◌∷◌, ◌++◌}
use native.Mathlib.Omega.{arith}
use borrow.Author.Tests.{leb-true}
use lib.Dec.{leb}
use lib.ListN.{length, take, drop}
use lib.Seq.{take_at}
use Rattle.word.specs.Choice.{pick}
use Rattle.word.specs.Tick.{Words}
use Rattle.refusal.specs.Answer.{Answer, count, refused_all}
use Rattle.refusal.specs.Answer.Answer.{counts, refused}
use Rattle.arity.specs.Tree.{ins, outs, need}
use Rattle.arity.specs.Table.{nodes, circuit}
use Rattle.arity.specs.Nodes.{cells_before}
use Rattle.arity.specs.Check.{checked, IsAccepted}
use Rattle.arity.proofs.Promise.{recounted, promise}
use Rattle.flat.specs.Check.{code_ok}
use Rattle.translator.specs.Translated.{translated}
use Rattle.refusal.specs.Outcome.{Outcome, outcome}
use Rattle.translator.specs.Translate.{numbers_of, translates, translated_by, translated_table}
use Rattle.translator.specs.Laws.{DeliversCode, Delivered}
use Rattle.translator.proofs.Checked.{encoded-length, translation-ok}

never : (n k : ℕ) (code code' : List ℕ) → outcome (count n) code' ≡ outcome (refused_all k) code → ⊥
never n k code code' e = let a : count n ≡ refused_all k = ap (λ (o : Outcome). o.answer) e in let z : ◌≡◌ {A = ℕ} 0 1 = cc a in omega arith

translates-counted : (table code : List ℕ) (n : ℕ) (code' : List ℕ) → outcome (count n) code' ≡ translates table code → Delivered table code n code'
unfolding translates
translates-counted table code n code' = go _ _ _ refl refl refl
  where
    go : (x y z : Bool) → leb (need (circuit table)) 2048 ≡ x → leb (cells_before (circuit table) (nodes table)) 16384 ≡ y → leb (numbers_of table) (length code) ≡ z →
        outcome (count n) code' ≡ pick x
        (pick y
        (pick z (outcome (count (numbers_of table)) (translated table ++ drop (numbers_of table) code)) (outcome (refused_all 12) code))
        (outcome (refused_all 11) code))
        (outcome (refused_all 10) code) → Delivered table code n code'
    go true true true x y z e =
        let a : count n ≡ count (numbers_of table) = ap (λ (o : Outcome). o.answer) e in
        record {
          counted = cc a;
          within = leb-true (numbers_of table) (length code) z;
          short = leb-true (need (circuit table)) 2048 x;
          few = leb-true (cells_before (circuit table) (nodes table)) 16384 y;
          is = ap (λ (o : Outcome). o.buffer) e;
        }
    go true true false x y z e = absurd (never n 12 code code' e)
    go true false w x y z e = absurd (never n 11 code code' e)
    go false v w x y z e = absurd (never n 10 code code' e)

module _ (table code : List ℕ) {n : ℕ} {code' : List ℕ} (t : outcome (count n) code' ≡ translated_table table code) where
  is-accepted : IsAccepted table
  unfolding translated_table
  is-accepted = go (checked table) refl t
    where
      go : (x : Answer) → checked table ≡ x → outcome (count n) code' ≡ translated_by x table code → IsAccepted table
      go (counts ks) f r = (ks, f)
      go (refused k q) f r = absurd (let b : count n ≡ refused k q = ap (λ (o : Outcome). o.answer) r in let z : ◌≡◌ {A = ℕ} 0 1 = cc b in omega arith)

  pub is_delivered : Delivered table code n code'
  unfolding translated_table
  is_delivered = translates-counted table code n code' (rw is-accepted.1 at t)

  pub was_accepted : checked table ≡ counts (ins (circuit table) ∷ outs (circuit table) ∷ need (circuit table) ∷ cells_before (circuit table) (nodes table) ∷ [])
  was_accepted = recounted table is-accepted

pub delivered : (table code : List ℕ) {n : ℕ} {code' : List ℕ} → DeliversCode table code n code'
unfolding translated
delivered table code t words =
    let d = is_delivered table code t in
    let long : length (translated table) ≡ numbers_of table = encoded-length (nodes table) (circuit table) (promise (was_accepted table code t) words).well_formed in
    rw (d.is, d.counted) (take_at (translated table) (drop (numbers_of table) code) (numbers_of table) long)

-- refusal 13 never
pub delivered_passes : (table code : List ℕ) {n : ℕ} {code' : List ℕ} → outcome (count n) code' ≡ translated_table table code → Words table → code_ok (take n code') ≡ true
unfolding translated
delivered_passes table code t words =
    let p = promise (was_accepted table code t) words in
    let d = is_delivered table code t in
    let s = p.small d.short d.few in
    rw (delivered table code t words) (translation-ok (nodes table) (circuit table) p.well_formed p.complete s.inputs s.outputs s.instructions s.cells)
