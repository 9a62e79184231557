-- Renumbering: the table of an accepted table's circuit, numbered left, right, then the node, is accepted with the same answer, draws the same, and is
-- its own renumbering; two circuits draw the same exactly where their renumbered tables are equal.
use Prim.Native.Nat.{ℕ, ◌+◌, ◌-◌, ◌≤◌}
use mathlib.Core.Path.{◌≡◌, refl, sym, ap, ap₂, ◌∙◌}
use mathlib.Core.List.{List, []}
use native.Mathlib.Omega.{arith}
use Rattle.arity.specs.Tree.{Tree, Primitive, Composition}
use Rattle.arity.specs.Tree.Tree.{leaf, join, ondemand}
use Rattle.arity.specs.Tree.Primitive.{number, control, operation, delay, cable, cut}
use Rattle.arity.specs.Tree.Composition.{sequence, parallel, split, merge, recursion}
use Rattle.arity.specs.Table.{nodes, circuit, primitive_of, composition_of}
use Rattle.arity.specs.Check.{checked, IsAccepted}
use Rattle.arity.specs.Formed.{Fields, Fitting, Fitted}
use Rattle.drawing.specs.Drawing.{drawing, Alike, total, count, All}
use Rattle.drawing.specs.Numbering.{kind_of, first_of, kind_for, InRange, closed, joined, renumbered}
use Rattle.drawing.specs.Laws.{Renumbered, SameTable}
use Rattle.drawing.proofs.Numbers.{alike-fitted}
use Rattle.drawing.proofs.Same.{unnumbered}
use Rattle.drawing.proofs.Placed.{Rows}
use Rattle.drawing.proofs.Closed.{closed-nodes}
use Rattle.drawing.proofs.Closing.{Closes, closed-rows, draws-leaf, draws-join, draws-ondemand, closed-fitted}
use Rattle.drawing.proofs.Accepted.{formed, all_in_range, all-fitted, counted-nodes, answer, accepted-rows}

-- the table of a tree is that of its drawing
pub renumbered-drawing : (x : Tree) → renumbered (drawing x) ≡ renumbered x
unfolding drawing renumbered
renumbered-drawing (leaf i p) = refl
renumbered-drawing (join i c l r) = ap₂ (joined (kind_for c)) (renumbered-drawing l) (renumbered-drawing r)
renumbered-drawing (ondemand i b) = ap (λ (t : List ℕ). closed t [] 12 (nodes t - 1) 0) (renumbered-drawing b)

pub renumbered-alike : (x y : Tree) → Alike x y → renumbered x ≡ renumbered y
renumbered-alike x y e = sym (renumbered-drawing x) ∙ ap renumbered e ∙ renumbered-drawing y

-- kinds and fields back and forth
pub primitive_back : (p : Primitive) → primitive_of (kind_of p) (first_of p) ≡ p
primitive_back (number v) = refl
primitive_back (control s) = refl
primitive_back (operation o) = refl
primitive_back (delay d) = refl
primitive_back cable = refl
primitive_back cut = refl

pub composition_back : (c : Composition) → composition_of (kind_for c) ≡ c
composition_back sequence = refl
composition_back parallel = refl
composition_back split = refl
composition_back merge = refl
composition_back recursion = refl

kind-small : (p : Primitive) → kind_of p ≤ 6
kind-small (number v) = omega arith
kind-small (control s) = omega arith
kind-small (operation o) = omega arith
kind-small (delay d) = omega arith
kind-small cable = omega arith
kind-small cut = omega arith

pub kind_joint : (c : Composition) → (7 ≤ kind_for c) × (kind_for c ≤ 11)
kind_joint sequence = (omega arith, omega arith)
kind_joint parallel = (omega arith, omega arith)
kind_joint split = (omega arith, omega arith)
kind_joint merge = (omega arith, omega arith)
kind_joint recursion = (omega arith, omega arith)

-- which nodes may close a table
alone_least : (p : Primitive) → 1 ≤ kind_of p
alone_least (number v) = omega arith
alone_least (control s) = omega arith
alone_least (operation o) = omega arith
alone_least (delay d) = omega arith
alone_least cable = omega arith
alone_least cut = omega arith

pub closes_alone : (p : Primitive) → Fields (kind_of p) (first_of p) 0 → Closes 0 0 (kind_of p) (first_of p) 0
closes_alone p w =
    let k = kind-small p in
    record {
      least = alone_least p;
      most = omega arith;
      fields = w;
      first = λ l. absurd (omega arith);
      second = λ l m. absurd (omega arith);
      left = λ l. absurd (omega arith);
      right = λ l. absurd (omega arith);
    }

high_fields : (k f s : ℕ) → 7 ≤ k → ((7 ≤ k → k ≤ 11 → ⊥) → s ≡ 0) → Fields k f s
high_fields k f s l u = record {
  control = λ e. absurd (omega arith);
  operation = λ e. absurd (omega arith);
  delay = λ e. absurd (omega arith);
  cable = λ e. absurd (omega arith);
  cut = λ e. absurd (omega arith);
  unused = u;
}

pub closes_two : (k n m : ℕ) → 7 ≤ k → k ≤ 11 → 1 ≤ n → 1 ≤ m → Closes n m k (n - 1) (n + m - 1)
closes_two k n m l h a b = record {
  least = omega arith;
  most = omega arith;
  fields = high_fields k (n - 1) (n + m - 1) l (λ u. absurd (u l h));
  first = λ z. omega arith;
  second = λ y z. (omega arith, b);
  left = λ z. l;
  right = λ z. (l, h);
}

pub closes_one : (n : ℕ) → 1 ≤ n → Closes n 0 12 (n - 1) 0
closes_one n a = record {
  least = omega arith;
  most = omega arith;
  fields = high_fields 12 (n - 1) 0 (omega arith) (λ u. refl);
  first = λ z. omega arith;
  second = λ y z. absurd (omega arith);
  left = λ z. omega arith;
  right = λ z. absurd (omega arith);
}

pub empty : Rows []
empty = record {
  whole = refl;
  kinds = λ i h. absurd (omega arith);
  fields = λ i h. absurd (omega arith);
  children = λ i h. absurd (omega arith);
  attached = λ i h. absurd (omega arith);
}

-- the renumbered table of a tree whose fields are in range
pub record Renumbers (x : Tree) : Type 0 where
  pub rows : Rows (renumbered x)
  pub many : nodes (renumbered x) ≡ count x
  pub some : 1 ≤ nodes (renumbered x)
  pub draws : Alike (circuit (renumbered x)) x
  pub fitting : All Fitted x → Fitting (renumbered x)

pub renumbers : (x : Tree) → All InRange x → Renumbers x
unfolding renumbered drawing total All
renumbers (leaf i p) w =
    let c = closes_alone p w in
    let a : Alike (circuit (closed [] [] (kind_of p) (first_of p) 0)) (leaf i p) = draws-leaf [] [] _ _ _ empty empty c (kind-small p) ∙ ap {B = Tree} (leaf 0) (primitive_back p) in
    record {
      rows = closed-rows [] [] _ _ _ empty empty c;
      many = closed-nodes [] [] (kind_of p) (first_of p) 0 empty empty;
      some = omega (arith, closed-nodes [] [] (kind_of p) (first_of p) 0 empty empty);
      draws = a;
      fitting = λ e. closed-fitted [] [] _ _ _ empty empty c (λ j h. absurd (omega arith)) (λ j h. absurd (omega arith)) (alike-fitted _ _ (sym a) e);
    }
renumbers (join i c l r) w =
    let a = renumbers l w.1 in
    let b = renumbers r w.2 in
    let (g, h) = kind_joint c in
    let z = closes_two (kind_for c) (nodes (renumbered l)) (nodes (renumbered r)) g h a.some b.some in
    let n = closed-nodes (renumbered l) (renumbered r) (kind_for c) (nodes (renumbered l) - 1) (nodes (renumbered l) + nodes (renumbered r) - 1) a.rows b.rows in
    let d : Alike (circuit (joined (kind_for c) (renumbered l) (renumbered r))) (join i c l r) =
    draws-join (renumbered l) (renumbered r) _ _ _ a.rows b.rows z g h
    ∙ ap₂ (λ (x y : Tree). join 0 (composition_of (kind_for c)) x y) a.draws b.draws
    ∙ ap (λ (k : Composition). join 0 k (drawing l) (drawing r)) (composition_back c) in
    record {
      rows = closed-rows (renumbered l) (renumbered r) _ _ _ a.rows b.rows z;
      many = omega (arith, n, a.many, b.many);
      some = omega (arith, n);
      draws = d;
      fitting = λ e. closed-fitted (renumbered l) (renumbered r) _ _ _ a.rows b.rows z (a.fitting e.1) (b.fitting e.2) (alike-fitted _ _ (sym d) e.0);
    }
renumbers (ondemand i x) w =
    let a = renumbers x w.1 in
    let z = closes_one (nodes (renumbered x)) a.some in
    let n = closed-nodes (renumbered x) [] 12 (nodes (renumbered x) - 1) 0 a.rows empty in
    let d : Alike (circuit (closed (renumbered x) [] 12 (nodes (renumbered x) - 1) 0)) (ondemand i x) =
    draws-ondemand (renumbered x) [] _ _ _ a.rows empty z (omega arith) ∙ ap {B = Tree} (ondemand 0) a.draws in
    record {
      rows = closed-rows (renumbered x) [] _ _ _ a.rows empty z;
      many = omega (arith, n, a.many);
      some = omega (arith, n);
      draws = d;
      fitting = λ e. closed-fitted (renumbered x) [] _ _ _ a.rows empty z (a.fitting e.1) (λ j h. absurd (omega arith)) (alike-fitted _ _ (sym d) e.0);
    }

-- the laws, of an accepted table
module _ (t : List ℕ) (a : IsAccepted t) where
  made : Renumbers (circuit t)
  made = renumbers (circuit t) (all_in_range t a)

  same_many : nodes (renumbered (circuit t)) ≡ nodes t
  same_many = made.many ∙ counted-nodes t a

  pub renumbered-accepted : IsAccepted (renumbered (circuit t))
  renumbered-accepted = accepted-rows _ made.rows made.some (omega (arith, same_many, (formed t a).most)) (made.fitting (all-fitted t a))

  same_answer : checked (renumbered (circuit t)) ≡ checked t
  same_answer =
      let s = unnumbered _ _ made.draws in
      answer (renumbered (circuit t)) renumbered-accepted ∙ rw (s.inputs, s.outputs, s.instructions, s.cells) (sym (answer t a))

pub renumbering : Renumbered
renumbering t a = record {
  length = same_many t a;
  answer = same_answer t a;
  draws = (made t a).draws;
  again = renumbered-alike _ _ (made t a).draws;
}

pub same-table : SameTable
same-table t u a b = (
  renumbered-alike (circuit t) (circuit u),
  λ e. sym (made t a).draws ∙ ap (λ (l : List ℕ). drawing (circuit l)) e ∙ (made u b).draws,
)
