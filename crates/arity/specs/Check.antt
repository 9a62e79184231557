-- "The checks by place", for a table: which refusal it gets, at which node, and what the check reports where it gets none.
use Rattle.std.specs.Prelude.{ℕ, zero, suc, ◌%◌, ◌≡◌, Bool, true, false, not, ◌&&◌, ◌||◌, List, [], ◌∷◌, length, eqb, leb, ltb, Result, Ok, Err}
use Rattle.word.specs.Choice.{pick}
use Rattle.word.specs.Limits.{most_nodes, widest, last_slot, longest_delay}
use Rattle.word.specs.Operation.{operands}
use Rattle.refusal.specs.Answer.{Answer, refused_at, refusal_of}
use Rattle.refusal.specs.Answer.Answer.{counts}
use Rattle.refusal.specs.declared.Refusal.{Refusal}
use Rattle.arity.specs.Tree.{Tree, ins, outs, size, need}
use Rattle.arity.specs.Table.{kind_at, first_at, second_at, nodes, tree, circuit}
use Rattle.arity.specs.Nodes.{sum_to}
use Rattle.arity.specs.Lowest.{lowest}
use Rattle.arity.specs.declared.counts.Counts.{Counts}

-- 4: "kind not 1 to 12"
abbrev pub known_kind : ℕ → Bool
known_kind kind = leb 1 kind && leb kind 12

-- 5: "a used field of kinds 2 to 4 out of range, or an unused field not 0"; an op is in range where the table of operand counts has it, a number's
-- value may be any, and the fields of children are for 6
abbrev pub first_in_range : ℕ → ℕ → Bool
first_in_range kind first =
    pick (eqb kind 2) (leb first last_slot)
    (pick (eqb kind 3) (ltb 0 (operands first))
    (pick (eqb kind 4) (leb first longest_delay)
    (pick (eqb kind 5) (eqb first 0)
    (pick (eqb kind 6) (eqb first 0) true))))

abbrev pub two_children : ℕ → Bool
two_children kind = leb 7 kind && leb kind 11

abbrev pub second_in_range : ℕ → ℕ → Bool
second_in_range kind second = pick (two_children kind) true (eqb second 0)

-- node j has the child c; a node below i has it
abbrev pub names : List ℕ → ℕ → ℕ → Bool
names table j c = (leb 7 (kind_at table j) && eqb (first_at table j) c) || (two_children (kind_at table j) && eqb (second_at table j) c)

unfoldable pub taken : List ℕ → ℕ → ℕ → Bool
taken table zero c = false
taken table (suc i) c = names table i c || taken table i c

-- 6: "a child negative, not lower, named twice, or taken before"; a negative number is a word of 2^31 or more, so not lower
abbrev pub free : List ℕ → ℕ → ℕ → Bool
free table i c = ltb c i && not (taken table i c)

unfoldable pub children_free : List ℕ → ℕ → Bool
children_free table i =
    let l = first_at table i in
    let r = second_at table i in
    pick (leb (kind_at table i) 6) true
    (pick (leb (kind_at table i) 11) (free table i l && (free table i r && not (eqb l r)))
    (free table i l))

-- n is k times b, k ≥ 1
abbrev pub multiple : ℕ → ℕ → Bool
multiple b n = pick (eqb b 0) (eqb n 0) (leb 1 n && eqb (n % b) 0)

-- 7: "no arity rule fits", for a left side a→b and a right side c→d
abbrev pub rule : (kind a b c d : ℕ) → Bool
rule kind a b c d =
    pick (eqb kind 7) (eqb b c)
    (pick (eqb kind 9) (multiple b c)
    (pick (eqb kind 10) (multiple c b)
    (pick (eqb kind 11) (leb c b && leb d a) true)))

unfoldable pub rule_fits : List ℕ → ℕ → Bool
rule_fits table i =
    let l = tree table (first_at table i) in
    let r = tree table (second_at table i) in
    rule (kind_at table i) (ins l) (outs l) (ins r) (outs r)

-- 16: "a recursion whose right side has neither inputs nor outputs", for a right side c→d; no other kind gets it
abbrev pub feedback : (kind c d : ℕ) → Bool
feedback kind c d = not (eqb kind 11 && (eqb c 0 && eqb d 0))

unfoldable pub feeds_back : List ℕ → ℕ → Bool
feeds_back table i =
    let r = tree table (second_at table i) in
    feedback (kind_at table i) (ins r) (outs r)

-- 8: "inputs or outputs above 32"
abbrev pub narrow : Tree → Bool
narrow x = leb (ins x) widest && leb (outs x) widest

-- "At one node the rows are taken downwards": the number of the first that refuses node i, 0 where none does
unfoldable pub refusal_at : List ℕ → ℕ → ℕ
refusal_at table i =
    pick (not (known_kind (kind_at table i))) 4
    (pick (not (first_in_range (kind_at table i) (first_at table i) && second_in_range (kind_at table i) (second_at table i))) 5
    (pick (not (children_free table i)) 6
    (pick (not (rule_fits table i)) 7
    (pick (not (feeds_back table i)) 16
    (pick (not (narrow (tree table i))) 8 0)))))

-- "the table, node by node": the first node that is refused; the count of nodes where none is
abbrev pub is_refused : List ℕ → ℕ → Bool
is_refused table i = ltb 0 (refusal_at table i)

abbrev pub first_refused : List ℕ → ℕ
first_refused table = lowest (is_refused table) (nodes table) 0

-- "A node's cells follow those of all lower-numbered nodes": the first cell of node i
abbrev pub cells_of : List ℕ → ℕ → ℕ
cells_of table j = size (tree table j)

abbrev pub first_cell : List ℕ → ℕ → ℕ
first_cell table i = sum_to (cells_of table) i

-- "The check reports inputs, outputs, instructions and cells."
abbrev pub report : List ℕ → Answer
report table = counts (ins (circuit table) ∷ outs (circuit table) ∷ need (circuit table) ∷ first_cell table (nodes table) ∷ [])

-- 9: "a node other than the last is nobody's child"
abbrev pub loose : List ℕ → ℕ → Bool
loose table p = ltb (suc p) (nodes table) && not (taken table (nodes table) p)

-- its place, "the lowest-numbered node that is nobody's child"; the count of nodes where there is none
abbrev pub first_loose : List ℕ → ℕ
first_loose table = lowest (loose table) (nodes table) 0

-- 3: "numbers no multiple of three", or no node
abbrev pub uneven : List ℕ → Bool
uneven table = eqb (length table) 0 || not (eqb (length table % 3) 0)

-- the whole check; "Refusal 3 has place 0 when the list or file is empty or a table's count of numbers is no multiple of three, otherwise 512."
unfoldable pub checked : List ℕ → Answer
checked table =
    pick (uneven table) (refused_at 3 0)
    (pick (ltb most_nodes (nodes table)) (refused_at 3 most_nodes)
    (pick (ltb (first_refused table) (nodes table)) (refused_at (refusal_at table (first_refused table)) (first_refused table))
    (pick (ltb (first_loose table) (nodes table)) (refused_at 9 (first_loose table))
    (report table))))

-- the document's answer for each case
abbrev pub answer_of : Result Counts Refusal → Answer
answer_of (Ok n) = counts (n.inputs ∷ n.outputs ∷ n.instructions ∷ n.cells ∷ [])
answer_of (Err r) = refusal_of r

-- the check answers with counts
abbrev pub IsAccepted : List ℕ → Type 0
IsAccepted table = (ks : List ℕ) × (checked table ≡ counts ks)
