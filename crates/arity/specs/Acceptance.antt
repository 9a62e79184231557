-- Demand 2 of tables: "A table of the stated form is accepted if and only if the published arity rules for Faust circuits count the inputs and outputs
-- of each of its nodes, none above 32", and, by E7, no recursion in it has a right side with "neither inputs nor outputs".
use Rattle.std.specs.Prelude.{ℕ, suc, ◌*◌, ◌<◌, ◌≡◌, ◌↔◌, List, length, eqb}
use Rattle.word.specs.Choice.{pick}
use Rattle.word.specs.Limits.{most_nodes}
use Rattle.refusal.specs.Answer.{refused_at}
use Rattle.arity.specs.Tree.{Tree, ins, outs}
use Rattle.arity.specs.Rules.{Arity}
use Rattle.arity.specs.WellFormed.{Ruled}
use Rattle.arity.specs.Check.{refusal_at, report, checked, IsAccepted}
use Rattle.arity.specs.Formed.{Formed, Fitting, Attached, Begun}

abbrev pub Acceptance : Type 0
Acceptance = (t : List ℕ) → Formed t → IsAccepted t ↔ Fitting t

-- exactly the tables of the stated form are accepted whose nodes fit
abbrev pub Accepted : Type 0
Accepted = (t : List ℕ) → IsAccepted t ↔ (Formed t × Fitting t)

-- of a table whose nodes but the last, n, are of the stated form and fit, the last decides
abbrev pub LastDecides : Type 0
LastDecides = (t : List ℕ) (n : ℕ) → length t ≡ 3 * suc n → n < most_nodes → Begun t n → (refusal_at t n ≡ 0 → Attached t)
    → checked t ≡ pick (eqb (refusal_at t n) 0) (report t) (refused_at (refusal_at t n) n)

-- the rules give a tree a inputs and b outputs exactly where each composition fits and these are counted
abbrev pub Exact : Type 0
Exact = (x : Tree) (a b : ℕ) → Arity x a b ↔ (Ruled x × (a ≡ ins x) × (b ≡ outs x))
