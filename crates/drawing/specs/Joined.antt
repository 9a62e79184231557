-- "Joining two drawings": what the check answers to the joined table.
use Rattle.std.specs.Prelude.{ℕ, ◌+◌, not, List, [], ◌∷◌, eqb}
use Rattle.word.specs.Choice.{pick}
use Rattle.refusal.specs.Answer.{Answer, refused_at}
use Rattle.refusal.specs.Answer.Answer.{counts}
use Rattle.arity.specs.Tree.{Tree, ins, outs, need}
use Rattle.arity.specs.Tree.Tree.{join}
use Rattle.arity.specs.Table.{nodes, circuit, composition_of}
use Rattle.arity.specs.Check.{known_kind, two_children, rule, feedback, narrow}
use Rattle.drawing.specs.Drawing.{cells_in}

-- the composition of two circuits; its number does not matter
abbrev pub composed : ℕ → Tree → Tree → Tree
composed kind l r = join 0 (composition_of kind) l r

-- the row that refuses the joining node, 0 where none does: "a kind other than 7 to 11 gets its 4 or 5", then "the arity rule, the limit of 32 and the
-- feedback check", in the order of the rows
unfoldable pub join_refusal : ℕ → Tree → Tree → ℕ
join_refusal kind l r =
    pick (not (known_kind kind)) 4
    (pick (not (two_children kind)) 5
    (pick (not (rule kind (ins l) (outs l) (ins r) (outs r))) 7
    (pick (not (feedback kind (ins r) (outs r))) 16
    (pick (not (narrow (composed kind l r))) 8 0))))

-- what the check reports of a tree
abbrev pub report_of : Tree → Answer
report_of x = counts (ins x ∷ outs x ∷ need x ∷ cells_in x ∷ [])

-- the check's answer to the joined table: the refusal of its last node, or the counts of the composition
unfoldable pub join_answer : ℕ → List ℕ → List ℕ → Answer
unfolding join_refusal
join_answer kind t u =
    let r = join_refusal kind (circuit t) (circuit u) in
    pick (eqb r 0) (report_of (composed kind (circuit t) (circuit u))) (refused_at r (nodes t + nodes u))
