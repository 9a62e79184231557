-- The complete result of a call that fills one lent buffer: what it answers, and what the buffer then holds.
use Rattle.std.specs.Prelude.{ℕ, List}
use Rattle.refusal.specs.Answer.{Answer}

pub record Outcome : Type 0 where
  pub answer : Answer
  pub buffer : List ℕ

abbrev pub outcome : Answer → List ℕ → Outcome
outcome a b = record { answer = a; buffer = b }
