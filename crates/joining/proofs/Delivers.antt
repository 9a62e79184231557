-- What a call answers and delivers, in the words of the request.
use Prim.Native.Nat.{ℕ, ◌+◌}
use mathlib.Core.Path.{◌≡◌, refl, sym, ap, ◌∙◌}
use mathlib.Core.Bool.{Bool, true, false}
use mathlib.Core.List.{List, ◌++◌}
use native.Mathlib.Omega.{arith}
use lib.Dec.{leb}
use lib.IntN.{ℤ}
use lib.ListN.{length, drop, take}
use lib.Seq.{take_at}
use borrow.Author.Tests.{le-leb, leb-true}
use Rattle.word.specs.Choice.{pick}
use Rattle.refusal.specs.Answer.{Answer, count, refused_all}
use Rattle.refusal.specs.Answer.Answer.{counts, refused}
use Rattle.refusal.specs.Outcome.{Outcome, outcome}
use Rattle.arity.specs.Table.{nodes}
use Rattle.arity.specs.Check.{checked, IsAccepted}
use Rattle.drawing.specs.Numbering.{joined}
use Rattle.drawing.specs.Laws.{Joinable}
use Rattle.drawing.proofs.Joined.{joined-draws}
use Rattle.drawing.proofs.Same.{unnumbered}
use Rattle.joining.specs.Join.{written_by, joined_by, joined_circuits, joined_tables}
use Rattle.joining.specs.Laws.{AnswersAsChecked, DeliversComposition}

pub answers_as_checked : AnswersAsChecked
unfolding joined_tables joined_circuits
answers_as_checked k t u out j = rw (j.first.1, j.second.1, le-leb (nodes t + nodes u + 1) 512 (omega (arith, j.few)))

-- a refusal is no count
not-count : {r : ℕ} {p : ℤ} {n : ℕ} {out out' : List ℕ} → outcome (count n) out' ≡ outcome (refused r p) out → ⊥
not-count {r} {p} {n} e = let z : count n ≡ refused r p = ap (λ (o : Outcome). o.answer) e in let y : ◌≡◌ {A = ℕ} 0 1 = cc z in omega arith

module _ (kind : ℕ) (t u out : List ℕ) (n : ℕ) (out' : List ℕ) where
  -- what was written is the joined table, and the check accepts it
  written : (a : Answer) → checked (joined kind t u) ≡ a → outcome (count n) out' ≡ written_by a (joined kind t u) out
      → IsAccepted (joined kind t u) × (take n out' ≡ joined kind t u)
  written (refused r p) c e = absurd (not-count e)
  written (counts ks) c e = go (leb (length (joined kind t u)) (length out)) e
    where
      go : (b : Bool) → outcome (count n) out' ≡ pick b (outcome (count (length (joined kind t u))) (joined kind t u ++ drop (length (joined kind t u)) out)) (outcome (refused_all 12) out)
          → IsAccepted (joined kind t u) × (take n out' ≡ joined kind t u)
      go true f =
          let m : n ≡ length (joined kind t u) = cc (ap (λ (o : Outcome). o.answer) f) in
          ((ks, c), ap (take n) (ap (λ (o : Outcome). o.buffer) f) ∙ take_at (joined kind t u) _ n (sym m))
      go false f = absurd (not-count f)

  -- both tables are accepted and not too long
  held : (a b : Answer) → checked t ≡ a → checked u ≡ b → outcome (count n) out' ≡ joined_by a b (joined_circuits kind t u out) out
      → Joinable t u × (outcome (count n) out' ≡ written_by (checked (joined kind t u)) (joined kind t u) out)
  unfolding joined_circuits
  held (refused r p) b c d e = absurd (not-count e)
  held (counts ks) (refused r p) c d e = absurd (not-count e)
  held (counts ks) (counts js) c d e = go (leb (nodes t + nodes u + 1) 512) refl e
    where
      go : (b : Bool) → leb (nodes t + nodes u + 1) 512 ≡ b
          → outcome (count n) out' ≡ pick b (written_by (checked (joined kind t u)) (joined kind t u) out) (outcome (refused_all 17) out)
          → Joinable t u × (outcome (count n) out' ≡ written_by (checked (joined kind t u)) (joined kind t u) out)
      go true q f = (record { first = (ks, c); second = (js, d); few = omega (arith, leb-true (nodes t + nodes u + 1) 512 q) }, f)
      go false q f = absurd (not-count f)

pub delivers_composition : DeliversComposition
unfolding joined_tables
delivers_composition kind t u out n out' e =
    let (j, w) = held kind t u out n out' (checked t) (checked u) refl refl e in
    let (a, f) = written kind t u out n out' (checked (joined kind t u)) refl w in
    let s = unnumbered _ _ (joined-draws kind t u j a) in
    rw f (record { joinable = j; is_joined = refl; accepted = a; meaning = s.meaning; samples = s.samples; reports = s.reports })
