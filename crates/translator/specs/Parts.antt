-- The parts of a node's translation: what stands before its first side, between its sides and behind its second, in whichever composition.
use Rattle.std.specs.Prelude.{ℕ, ◌+◌, ◌-◌, ◌/◌, List, [], ◌∷◌, ◌++◌, length, take}
use Rattle.word.specs.Tick.{head_or, tail_of}
use Rattle.arity.specs.Tree.{Tree, Composition, ins, outs, need}
use Rattle.arity.specs.Tree.Composition.{sequence, parallel, split, merge, recursion}
use Rattle.arity.specs.Table.{tree, first_at}
use Rattle.calls.specs.Wiring.{first_inputs, second_inputs, join_outputs}
use Rattle.walker.specs.Ready.{base, joining, left_tree, right_tree, first_child, second_child, ins_of, outs_of}
use Rattle.flat.specs.Flat.{Instruction}
use Rattle.flat.specs.Instructions as flat
use Rattle.translator.specs.Emit.{Emitted, emitted, emit, reads, writes, up_from, merges}
use Rattle.translator.specs.Writing.{Puts}
use Rattle.translator.specs.declared.place.Progress.{Progress}

-- "recursion: q reads, right, left, q writes", on the cells from a on
abbrev pub reads_of : Composition → (a q : ℕ) → List Instruction
reads_of sequence a q = []
reads_of parallel a q = []
reads_of split a q = []
reads_of merge a q = []
reads_of recursion a q = reads a q

abbrev pub writes_of : Composition → (a q : ℕ) → List ℕ → List Instruction
writes_of sequence a q zs = []
writes_of parallel a q zs = []
writes_of split a q zs = []
writes_of merge a q zs = []
writes_of recursion a q zs = writes a (take q zs)

-- what stands before the first side, with the registers that this side is given; the node's are xs
abbrev pub opening : Composition → (a : ℕ) → Tree → Tree → List ℕ → ℕ → Emitted
opening c a l r xs n = emitted (reads_of c a (ins r)) (first_inputs c l xs (up_from n (ins r)))

-- "A merge places its additions .. between left and right"; the first side's results are ys
abbrev pub middle : Composition → Tree → Tree → List ℕ → List ℕ → ℕ → Emitted
middle sequence l r xs ys n = emitted [] (second_inputs sequence l r xs ys)
middle parallel l r xs ys n = emitted [] (second_inputs parallel l r xs ys)
middle split l r xs ys n = emitted [] (second_inputs split l r xs ys)
middle merge l r xs ys n = merges (ins r) (outs l / ins r - 1) (ins r) 0 ys n
middle recursion l r xs ys n = emitted [] (second_inputs recursion l r xs ys)

-- what stands behind the second side, whose results are zs
abbrev pub closing : Composition → (a : ℕ) → Tree → List ℕ → List ℕ → Emitted
closing c a r ys zs = emitted (writes_of c a (ins r) zs) (join_outputs c ys zs)

-- "Ondemand: skip, body, writes inside the skip, then as many reads": what stands before the body b, and what behind it
abbrev pub skipping : Tree → List ℕ → Emitted
skipping b xs = emitted (flat.skip (head_or 0 xs) (need b + outs b) ∷ []) (tail_of xs)

abbrev pub holding : (a m : ℕ) → List ℕ → ℕ → Emitted
holding a m ys n = emitted (writes a ys ++ reads a m) (up_from (n + length ys) m)

-- the translation of node i of a table from p on, its inputs being the first registers of p
abbrev pub emission : List ℕ → ℕ → Progress → Emitted
emission table i p = emit (base table) (tree table i) (ins_of table i p.regs) p.place.next

-- the parts of it: the first side left q, the second r
abbrev pub opening_of : List ℕ → ℕ → Progress → Emitted
opening_of table i p = opening (joining table i) (base table i) (left_tree table i) (right_tree table i) (ins_of table i p.regs) p.place.next

abbrev pub middle_of : List ℕ → ℕ → Progress → Progress → Emitted
middle_of table i p q =
    middle (joining table i) (left_tree table i) (right_tree table i) (ins_of table i p.regs) (outs_of table (first_child table i) q.regs) q.place.next

abbrev pub closing_of : List ℕ → ℕ → Progress → Progress → Emitted
closing_of table i q r =
    closing (joining table i) (base table i) (right_tree table i) (outs_of table (first_child table i) q.regs) (outs_of table (second_child table i) r.regs)

abbrev pub skipping_of : List ℕ → ℕ → Progress → Emitted
skipping_of table i p = skipping (left_tree table i) (ins_of table i p.regs)

abbrev pub holding_of : List ℕ → ℕ → Progress → Emitted
holding_of table i q = holding (base table i) (outs (left_tree table i)) (outs_of table (first_at table i) q.regs) q.place.next

-- how many inputs and outputs node i has
abbrev pub ins_at : List ℕ → ℕ → ℕ
ins_at table i = ins (tree table i)

abbrev pub outs_at : List ℕ → ℕ → ℕ
outs_at table i = outs (tree table i)

-- From p and the code c a part of node i was written: q and c' are what it leaves, with the registers that are needed next.
-- The whole node, whose registers are then its outputs
pub record Emits (table : List ℕ) (i : ℕ) (p : Progress) (c : List ℕ) (q : Progress) (c' : List ℕ) : Type 0 where
  pub is : Puts (emission table i p) (outs_at table i) p.place c q c'

-- what stands before the first side
pub record Opens (table : List ℕ) (i : ℕ) (p : Progress) (c : List ℕ) (q : Progress) (c' : List ℕ) : Type 0 where
  pub is : Puts (opening_of table i p) (ins_at table (first_child table i)) p.place c q c'

-- what stands between the sides, where p is the node's, and the first side left q
pub record Links (table : List ℕ) (i : ℕ) (p q : Progress) (c : List ℕ) (m : Progress) (c' : List ℕ) : Type 0 where
  pub is : Puts (middle_of table i p q) (ins_at table (second_child table i)) q.place c m c'

-- what stands behind the second side, which left r
pub record Closes (table : List ℕ) (i : ℕ) (q r : Progress) (c : List ℕ) (z : Progress) (c' : List ℕ) : Type 0 where
  pub is : Puts (closing_of table i q r) (outs_at table i) r.place c z c'

-- what stands before an ondemand's body, and what behind it
pub record Skips (table : List ℕ) (i : ℕ) (p : Progress) (c : List ℕ) (q : Progress) (c' : List ℕ) : Type 0 where
  pub is : Puts (skipping_of table i p) (ins_at table (first_at table i)) p.place c q c'

pub record Holds (table : List ℕ) (i : ℕ) (q : Progress) (c : List ℕ) (r : Progress) (c' : List ℕ) : Type 0 where
  pub is : Puts (holding_of table i q) (outs_at table i) q.place c r c'
