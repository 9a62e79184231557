-- A call of `join` from the check's answers on.
use Prim.Native.Nat.{ℕ, ◌+◌, ◌≤◌, ◌<◌}
use mathlib.Core.Path.{◌≡◌, sym, ap, ap₂, ◌∙◌}
use mathlib.Core.List.{List, ◌++◌}
use native.Mathlib.Omega.{arith}
use lib.IntN.{ℤ}
use lib.ListN.{length, drop, take, length-replicate}
use lib.Seq.{sets, sets-eq, take_at}
use borrow.Author.Tests.{le-leb, lt-leb}
use Rattle.word.specs.Tick.{zeros}
use Rattle.refusal.specs.Answer.{Answer, count, refused_all}
use Rattle.refusal.specs.Answer.Answer.{counts, refused}
use Rattle.refusal.specs.Outcome.{Outcome, outcome}
use Rattle.arity.specs.Table.{nodes}
use Rattle.arity.specs.Check.{checked, IsAccepted}
use Rattle.drawing.specs.Numbering.{joined}
use Rattle.drawing.specs.Laws.{Joinable}
use Rattle.drawing.proofs.Accepted.{formed}
use Rattle.drawing.proofs.Joined.{joined_length}
use Rattle.joining.specs.Join.{written_by, joined_by, joined_circuits, joined_tables}

module _ (k : ℕ) (t u : List ℕ) (a : IsAccepted t) (b : IsAccepted u) (out : List ℕ) where
  pub too_many : 1536 < length t + length u + 3 → outcome (refused_all 17) out ≡ joined_circuits k t u out
  unfolding joined_circuits
  too_many h = rw (lt-leb (nodes t + nodes u + 1) 512 (omega (arith, (formed t a).whole, (formed u b).whole)))

  module _ (few : length t + length u + 3 ≤ 1536) where
    pub joinable : Joinable t u
    joinable = record { first = a; second = b; few = omega (arith, (formed t a).whole, (formed u b).whole) }

    long : length (joined k t u) ≡ length t + length u + 3
    long = joined_length k t u joinable ∙ omega (arith, (formed t a).whole, (formed u b).whole)

    -- the joined table in front of a buffer
    written : (o : List ℕ) {o' : List ℕ} → length t + length u + 3 ≤ length o → o' ≡ sets o 0 (joined k t u) → o' ≡ joined k t u ++ drop (length (joined k t u)) o
    written o {o'} h e = e ∙ sets-eq (joined k t u) o 0 (omega (arith, long)) ∙ rw (zero-add (length (joined k t u)))
      where
        zero-add : (n : ℕ) → 0 + n ≡ n
        zero-add n = omega arith

    -- from the check's answer to it, as it stands in front of cleared numbers
    module _ {s : List ℕ} (e : s ≡ sets (zeros 1536) 0 (joined k t u)) where
      in_front : take (length t + length u + 3) s ≡ joined k t u
      in_front =
          let h : length t + length u + 3 ≤ length (zeros 1536) = rw length-replicate few in
          ap (take (length t + length u + 3)) (written (zeros 1536) h e) ∙ take_at (joined k t u) _ (length t + length u + 3) long

      opened : {r : Answer} → r ≡ checked (take (length t + length u + 3) s) → joined_circuits k t u out ≡ written_by r (joined k t u) out
      unfolding joined_circuits
      opened c = rw (le-leb (nodes t + nodes u + 1) 512 (omega (arith, (formed t a).whole, (formed u b).whole)), ← in_front, c) (rw in_front)

      pub refused-joined : {n : ℕ} {p : ℤ} → refused n p ≡ checked (take (length t + length u + 3) s) → outcome (refused n p) out ≡ joined_circuits k t u out
      refused-joined c = sym (opened c)

      module _ {ks : List ℕ} (c : counts ks ≡ checked (take (length t + length u + 3) s)) where
        pub short : length out < length t + length u + 3 → outcome (refused_all 12) out ≡ joined_circuits k t u out
        short h = sym (opened c ∙ rw (long, lt-leb (length t + length u + 3) (length out) h))

        pub done : {out' : List ℕ} → length t + length u + 3 ≤ length out → out' ≡ sets out 0 (joined k t u)
            → outcome (count (length t + length u + 3)) out' ≡ joined_circuits k t u out
        done {out'} h g =
            ap (outcome (count (length t + length u + 3))) (written out h g)
            ∙ sym (opened c ∙ rw (long, le-leb (length t + length u + 3) (length out) h))

-- the two checks
module _ (k : ℕ) (t u : List ℕ) (out : List ℕ) where
  pub first-refused : {n : ℕ} {p : ℤ} → refused n p ≡ checked t → outcome (refused n p) out ≡ joined_tables k t u out
  unfolding joined_tables
  first-refused e = ap (λ (z : Answer). joined_by z (checked u) (joined_circuits k t u out) out) e

  module _ {ks : List ℕ} (e : counts ks ≡ checked t) where
    pub second-refused : {n : ℕ} {p : ℤ} → refused n p ≡ checked u → outcome (refused n p) out ≡ joined_tables k t u out
    unfolding joined_tables
    second-refused f = ap₂ (λ (y z : Answer). joined_by y z (joined_circuits k t u out) out) e f

    pub both_accepted : {js : List ℕ} {w : Outcome} → counts js ≡ checked u → w ≡ joined_circuits k t u out → w ≡ joined_tables k t u out
    unfolding joined_tables
    both_accepted f g = g ∙ ap₂ (λ (y z : Answer). joined_by y z (joined_circuits k t u out) out) e f
