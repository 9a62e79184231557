-- "Number of Inputs and Outputs", the rules of source document 004, one constructor a rule: Arity C m n is its io[C] : m → n.
-- The compositions are 004's (seq), (par), (split), (merge), (rec) and (od), with one premise more: `1 ≤ k` in split and merge is the document's,
-- "k ≥ 1". 004 leaves k open. Its k = 0 would split any outputs onto a right side without inputs, and merge a left side without outputs onto any
-- inputs. The inputs and outputs of primitives are those of 004's (num) to (cut), an operation's by the document's table.
use Rattle.std.specs.Prelude.{ℕ, suc, ◌+◌, ◌*◌, ◌≤◌}
use Rattle.word.specs.Operation.{operands}
use Rattle.arity.specs.Tree.{Tree, Primitive, Composition}

pub data Arity : Tree → ℕ → ℕ → Type 0 where
  number : {i v : ℕ} → Arity (Tree.leaf i (Primitive.number v)) 0 1
  control : {i s : ℕ} → Arity (Tree.leaf i (Primitive.control s)) 0 1
  operation : {i o : ℕ} → Arity (Tree.leaf i (Primitive.operation o)) (operands o) 1
  delay : {i d : ℕ} → Arity (Tree.leaf i (Primitive.delay d)) 2 1
  cable : {i : ℕ} → Arity (Tree.leaf i Primitive.cable) 1 1
  cut : {i : ℕ} → Arity (Tree.leaf i Primitive.cut) 1 0
  sequence : {i m n p : ℕ} {x y : Tree} → Arity x m n → Arity y n p → Arity (Tree.join i Composition.sequence x y) m p
  parallel : {i m n p q : ℕ} {x y : Tree} → Arity x m n → Arity y p q → Arity (Tree.join i Composition.parallel x y) (m + p) (n + q)
  split : {i m n p k : ℕ} {x y : Tree} → 1 ≤ k → Arity x m n → Arity y (k * n) p → Arity (Tree.join i Composition.split x y) m p
  merge : {i m n p k : ℕ} {x y : Tree} → 1 ≤ k → Arity x m (k * n) → Arity y n p → Arity (Tree.join i Composition.merge x y) m p
  recursion : {i n q r : ℕ} {x y : Tree} (m : ℕ) → Arity x (r + n) (q + m) → Arity y q r → Arity (Tree.join i Composition.recursion x y) n (q + m)
  ondemand : {i m n : ℕ} {x : Tree} → Arity x m n → Arity (Tree.ondemand i x) (suc m) n
