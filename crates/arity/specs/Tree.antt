-- A circuit as a tree, each node with its number in the table; its inputs and outputs, the cells that it owns and the instructions that it needs.
use Rattle.std.specs.Prelude.{ℕ, suc, ◌+◌, ◌-◌, ◌*◌}
use Rattle.word.specs.Operation.{operands}

-- kinds 1 to 6
pub data Primitive : Type 0 where
  number : ℕ → Primitive
  control : ℕ → Primitive
  operation : ℕ → Primitive
  delay : ℕ → Primitive
  cable : Primitive
  cut : Primitive

-- kinds 7 to 11, each with a left and a right side
pub data Composition : Type 0 where
  sequence : Composition
  parallel : Composition
  split : Composition
  merge : Composition
  recursion : Composition

-- the first number of a node is its number in the table
pub data Tree : Type 0 where
  leaf : ℕ → Primitive → Tree
  join : ℕ → Composition → Tree → Tree → Tree
  ondemand : ℕ → Tree → Tree

-- "inputs → outputs" of the node table
abbrev pub prim_ins : Primitive → ℕ
prim_ins (number v) = 0
prim_ins (control s) = 0
prim_ins (operation o) = operands o
prim_ins (delay d) = 2
prim_ins cable = 1
prim_ins cut = 1

abbrev pub prim_outs : Primitive → ℕ
prim_outs (number v) = 1
prim_outs (control s) = 1
prim_outs (operation o) = 1
prim_outs (delay d) = 1
prim_outs cable = 1
prim_outs cut = 0

-- a recursion r+n→q+m, q→r has n inputs and all outputs of its left side
unfoldable pub outs : Tree → ℕ
outs (leaf i p) = prim_outs p
outs (join i sequence l r) = outs r
outs (join i parallel l r) = outs l + outs r
outs (join i split l r) = outs r
outs (join i merge l r) = outs r
outs (join i recursion l r) = outs l
outs (ondemand i b) = outs b

unfoldable pub ins : Tree → ℕ
unfolding outs
ins (leaf i p) = prim_ins p
ins (join i sequence l r) = ins l
ins (join i parallel l r) = ins l + ins r
ins (join i split l r) = ins l
ins (join i merge l r) = ins l
ins (join i recursion l r) = ins l - outs r
ins (ondemand i b) = suc (ins b)

-- how many cells the root of a tree owns: "a delay owns D+1 cells", "a recursion owns q cells, an ondemand one for each output"
unfoldable pub size : Tree → ℕ
unfolding ins outs
size (leaf i (number v)) = 0
size (leaf i (control s)) = 0
size (leaf i (operation o)) = 0
size (leaf i (delay d)) = suc d
size (leaf i cable) = 0
size (leaf i cut) = 0
size (join i sequence l r) = 0
size (join i parallel l r) = 0
size (join i split l r) = 0
size (join i merge l r) = 0
size (join i recursion l r) = ins r
size (ondemand i b) = outs b

-- "Instructions needed: kinds 1 to 4 one; cable and cut none; a merge adds left outputs minus right inputs, a recursion 2q, an ondemand 1 plus
-- twice its outputs."
unfoldable pub need : Tree → ℕ
unfolding ins outs
need (leaf i (number v)) = 1
need (leaf i (control s)) = 1
need (leaf i (operation o)) = 1
need (leaf i (delay d)) = 1
need (leaf i cable) = 0
need (leaf i cut) = 0
need (join i sequence l r) = need l + need r
need (join i parallel l r) = need l + need r
need (join i split l r) = need l + need r
need (join i merge l r) = need l + need r + (outs l - ins r)
need (join i recursion l r) = need l + need r + 2 * ins r
need (ondemand i b) = need b + (1 + 2 * outs b)
