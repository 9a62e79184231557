-- "The checks by place": each check gives a refusal or none, and the first refusal counts.
use Rattle.std.specs.Prelude.{Bool, true, false, List, ℕ}
use Rattle.std.proofs.Math.Option.{Option, none, some}
use Rattle.refusal.specs.Answer.{Answer}
use Rattle.refusal.specs.Outcome.{Outcome, outcome}

-- a check: this refusal, where the test holds
abbrev pub when : Bool → Answer → Option Answer
when true a = some a
when false a = none

infixr 5 ◌or◌
-- the first refusal of two checks
abbrev pub ◌or◌ : Option Answer → Option Answer → Option Answer
none or r = r
(some a) or r = some a

-- what an accepted call leaves, unless there is a refusal, which leaves the buffer as it was
abbrev pub unless : Option Answer → List ℕ → Outcome → Outcome
unless none b accepted = accepted
unless (some a) b accepted = outcome a b
