-- "Joining two drawings": the complete result of one call, its answer and the buffer after it.
use Rattle.std.specs.Prelude.{ℕ, ◌+◌, List, ◌++◌, leb, length, drop}
use Rattle.word.specs.Choice.{pick}
use Rattle.word.specs.Limits.{most_nodes}
use Rattle.refusal.specs.Answer.{Answer, count, refused_all}
use Rattle.refusal.specs.Answer.Answer.{counts, refused}
use Rattle.refusal.specs.Outcome.{Outcome, outcome}
use Rattle.arity.specs.Table.{nodes}
use Rattle.arity.specs.Check.{checked}
use Rattle.drawing.specs.Numbering.{joined}

-- from the check's answer to a table: its refusal; 12; or the table, and "a buffer longer than needed keeps its content past the needed part"
abbrev pub written_by : Answer → (table out : List ℕ) → Outcome
written_by (refused r p) table out = outcome (refused r p) out
written_by (counts ks) table out =
    pick (leb (length table) (length out)) (outcome (count (length table)) (table ++ drop (length table) out)) (outcome (refused_all 12) out)

-- "Refusal 17 is for two lengths and the new node exceeding 512"; it "precedes those of the joined one"
unfoldable pub joined_circuits : ℕ → (first second out : List ℕ) → Outcome
joined_circuits kind first second out =
    pick (leb (nodes first + nodes second + 1) most_nodes)
    (written_by (checked (joined kind first second)) (joined kind first second) out)
    (outcome (refused_all 17) out)

-- it "follows the checks of the first and then the second table"
abbrev pub joined_by : (first second : Answer) → Outcome → List ℕ → Outcome
joined_by (refused r p) b further out = outcome (refused r p) out
joined_by (counts ks) (refused r p) further out = outcome (refused r p) out
joined_by (counts ks) (counts js) further out = further

unfoldable pub joined_tables : ℕ → (first second out : List ℕ) → Outcome
unfolding joined_circuits
joined_tables kind first second out = joined_by (checked first) (checked second) (joined_circuits kind first second out) out
