-- What is proved of a call of `join`.
use Rattle.std.specs.Prelude.{ℕ, ◌≡◌, List, take}
use Rattle.refusal.specs.Answer.{count}
use Rattle.refusal.specs.Outcome.{outcome}
use Rattle.arity.specs.Table.{circuit}
use Rattle.arity.specs.Check.{checked, IsAccepted}
use Rattle.signal.specs.Signal.{History, signal, samples}
use Rattle.signal.specs.Clips.{clipped_ticks}
use Rattle.drawing.specs.Numbering.{joined}
use Rattle.drawing.specs.Joined.{composed}
use Rattle.drawing.specs.Laws.{Joinable}
use Rattle.joining.specs.Join.{written_by, joined_tables}

-- join answers what `check` answers the joined table, for accepted tables that are not too long: its refusal, or else 12 or the count of its numbers
abbrev pub AnswersAsChecked : Type 0
AnswersAsChecked = (kind : ℕ) (t u out : List ℕ) → Joinable t u → joined_tables kind t u out ≡ written_by (checked (joined kind t u)) (joined kind t u) out

-- what stands in the first n numbers of the buffer after a call that answers n: an accepted table, which means the composition of the two circuits
pub record Composition (kind : ℕ) (t u table : List ℕ) : Type 0 where
  pub joinable : Joinable t u
  pub is_joined : table ≡ joined kind t u
  pub accepted : IsAccepted table
  pub meaning : (h : History) → signal (circuit table) h ≡ signal (composed kind (circuit t) (circuit u)) h
  pub samples : (h : History) → samples (circuit table) h ≡ samples (composed kind (circuit t) (circuit u)) h
  pub reports : (h : History) → clipped_ticks (circuit table) h ≡ clipped_ticks (composed kind (circuit t) (circuit u)) h

abbrev pub DeliversComposition : Type 0
DeliversComposition = (kind : ℕ) (t u out : List ℕ) (n : ℕ) (out' : List ℕ) → outcome (count n) out' ≡ joined_tables kind t u out → Composition kind t u (take n out')
