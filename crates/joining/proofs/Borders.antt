-- The laws at their borders: a premise that asked for more, or a conclusion that said less, would fail here.
use Prim.Native.Nat.{ℕ, ◌+◌}
use mathlib.Core.Path.{◌≡◌, ◌∙◌}
use mathlib.Core.List.{List, [], ◌∷◌}
use native.Mathlib.Omega.{arith}
use lib.IntN.{ℤ}
use lib.ListN.{take}
use Rattle.word.specs.Tick.{Tick}
use Rattle.refusal.specs.Answer.{count}
use Rattle.refusal.specs.Answer.Answer.{refused}
use Rattle.refusal.specs.Outcome.{outcome}
use Rattle.arity.specs.Table.{nodes, circuit}
use Rattle.arity.specs.Check.{checked, IsAccepted}
use Rattle.signal.specs.Signal.{History, signal, samples}
use Rattle.signal.specs.Clips.{clipped_ticks}
use Rattle.drawing.specs.Numbering.{joined}
use Rattle.drawing.specs.Joined.{composed}
use Rattle.drawing.specs.Laws.{Joinable}
use Rattle.joining.specs.Join.{joined_tables}
use Rattle.joining.proofs.Delivers.{answers_as_checked, delivers_composition}

-- 511 nodes and the joining one, and no buffer: the refusal that the check gives the joined table, and nothing is written
module _ (kind : ℕ) (t u : List ℕ) (a : IsAccepted t) (b : IsAccepted u) (e : nodes t + nodes u ≡ 511) where
  most : Joinable t u
  most = record { first = a; second = b; few = omega arith }

  as_checked : (r : ℕ) (p : ℤ) → checked (joined kind t u) ≡ refused r p → joined_tables kind t u [] ≡ outcome (refused r p) []
  as_checked r p f = answers_as_checked kind t u [] most ∙ rw f

-- what was written, at any tick
module _ (kind : ℕ) (t u out : List ℕ) (n : ℕ) (out' : List ℕ) (e : outcome (count n) out' ≡ joined_tables kind t u out) (f : Tick) (h : History) where
  is-joined : (take n out' ≡ joined kind t u) × IsAccepted (take n out')
  is-joined = let d = delivers_composition kind t u out n out' e in (d.is_joined, d.accepted)

  is-composed : (signal (circuit (take n out')) (f ∷ h) ≡ signal (composed kind (circuit t) (circuit u)) (f ∷ h))
      × (samples (circuit (take n out')) (f ∷ h) ≡ samples (composed kind (circuit t) (circuit u)) (f ∷ h))
      × (clipped_ticks (circuit (take n out')) (f ∷ h) ≡ clipped_ticks (composed kind (circuit t) (circuit u)) (f ∷ h))
  is-composed = let d = delivers_composition kind t u out n out' e in (d.meaning (f ∷ h), d.samples (f ∷ h), d.reports (f ∷ h))
