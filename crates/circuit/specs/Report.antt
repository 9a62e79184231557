-- "The check reports inputs, outputs, instructions and cells": into a lent buffer, as its first four numbers.
use Rattle.std.specs.Prelude.{ℕ, List, ◌++◌, leb, length, drop}
use Rattle.word.specs.Choice.{pick}
use Rattle.refusal.specs.Answer.{Answer, count, refused_all}
use Rattle.refusal.specs.Answer.Answer.{counts, refused}
use Rattle.arity.specs.Check.{checked}
use Rattle.refusal.specs.Outcome.{Outcome, outcome}

-- how many the check reports
abbrev pub reported : ℕ
reported = 4

-- what the check's answer leaves: its refusal, or 12, "last"; else the report
abbrev pub reported_by : Answer → List ℕ → Outcome
reported_by (counts ks) buffer =
    pick (leb reported (length buffer))
    (outcome (count reported) (ks ++ drop reported buffer))
    (outcome (refused_all 12) buffer)
reported_by (refused r p) buffer = outcome (refused r p) buffer

-- the complete result of a check
unfoldable pub reporting : List ℕ → List ℕ → Outcome
reporting table = reported_by (checked table)
