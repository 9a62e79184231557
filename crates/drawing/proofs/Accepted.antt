-- What is known of an accepted table, and which tables are.
use Prim.Native.Nat.{ℕ, ◌-◌, ◌≤◌, ◌<◌}
use mathlib.Core.Path.{◌≡◌, refl, sym, ◌∙◌}
use mathlib.Core.List.{List}
use native.Mathlib.Omega.{arith}
use Rattle.arity.specs.Tree.{Tree}
use Rattle.arity.specs.Table.{kind_at, first_at, second_at, nodes, tree, circuit, primitive_of}
use Rattle.arity.specs.Check.{checked, IsAccepted}
use Rattle.arity.specs.Formed.{Fields, Formed, Fitting, Fitted}
use Rattle.arity.proofs.Acceptance.{accepted}
use Rattle.arity.proofs.Promise.{whole, recounted}
use Rattle.arity.proofs.ByKind.{Alone, alone_of}
use Rattle.arity.proofs.ByKind.Alone.{k1, k2, k3, k4, k5, k6}
use Rattle.arity.proofs.Trees.{View, view, strong}
use Rattle.arity.proofs.Trees.View.{alone, two, one}
use Rattle.drawing.specs.Drawing.{count, All}
use Rattle.drawing.specs.Numbering.{kind_of, first_of, InRange}
use Rattle.drawing.specs.Joined.{report_of}
use Rattle.drawing.proofs.Placed.{Rows, rows_of, formed_of}
use Rattle.drawing.proofs.Totals.{complete-count, complete-cells}

-- what holds of each node of a table holds of each node of its trees
pub all-nodes : (P : Tree → Type 0) (t : List ℕ) → Rows t → ((i : ℕ) → i < nodes t → P (tree t i)) → (i : ℕ) → i < nodes t → All P (tree t i)
unfolding All
all-nodes P t r p = strong (λ i. i < nodes t → All P (tree t i)) (λ i ih h. step i ih h (view t (nodes t) r.children i h))
  where
    step : (i : ℕ) → ((j : ℕ) → j < i → j < nodes t → All P (tree t j)) → i < nodes t → View t i → All P (tree t i)
    step i ih h (alone a e) = rw e (rw e at (p i h))
    step i ih h (two a b e) =
        let l = ((r.children i h).first a).lower in
        let m = ((r.children i h).second a b).lower in
        rw e (rw e at (p i h), ih _ l (omega arith), ih _ m (omega arith))
    step i ih h (one a e) =
        let l = ((r.children i h).first (omega arith)).lower in
        rw e (rw e at (p i h), ih _ l (omega arith))

-- kind and first field of a leaf's primitive
kind_of_alone : (k f s : ℕ) → Alone k → Fields k f s → (kind_of (primitive_of k f) ≡ k) × (first_of (primitive_of k f) ≡ f)
kind_of_alone k f s k1 w = (refl, refl)
kind_of_alone k f s k2 w = (refl, refl)
kind_of_alone k f s k3 w = (refl, refl)
kind_of_alone k f s k4 w = (refl, refl)
kind_of_alone k f s k5 w = (refl, sym (w.cable refl))
kind_of_alone k f s k6 w = (refl, sym (w.cut refl))

node_in_range : (t : List ℕ) → Rows t → (i : ℕ) → i < nodes t → InRange (tree t i)
node_in_range t r i h = go (view t (nodes t) r.children i h)
  where
    go : View t i → InRange (tree t i)
    go (alone a e) =
        let f = r.fields i h in
        let k = kind_of_alone (kind_at t i) (first_at t i) (second_at t i) (alone_of (kind_at t i) (r.kinds i h).0 a) f in
        let z : second_at t i ≡ 0 = f.unused (λ l m. omega arith) in
        rw e (rw (k.0, k.1) (rw z at f))
    go (two a b e) = rw e tt
    go (one a e) = rw e tt

module _ (t : List ℕ) (a : IsAccepted t) where
  pub formed : Formed t
  formed = ((accepted t).0 a).0

  pub fitting : Fitting t
  fitting = ((accepted t).0 a).1

  pub rows : Rows t
  rows = rows_of t formed

  last : nodes t - 1 < nodes t
  last = omega (arith, formed.least)

  pub all_in_range : All InRange (circuit t)
  all_in_range = all-nodes InRange t rows (node_in_range t rows) (nodes t - 1) last

  pub all-fitted : All Fitted (circuit t)
  all-fitted = all-nodes Fitted t rows fitting (nodes t - 1) last

  pub counted-nodes : count (circuit t) ≡ nodes t
  counted-nodes = complete-count (nodes t) (circuit t) (whole t a)

  -- what the check answers: inputs, outputs, instructions, and the cells of all nodes
  pub answer : checked t ≡ report_of (circuit t)
  answer = recounted t a ∙ rw (complete-cells (nodes t) (circuit t) (whole t a))

-- rows of the stated form, not too many, whose nodes fit, are an accepted table
pub accepted-rows : (t : List ℕ) → Rows t → 1 ≤ nodes t → nodes t ≤ 512 → Fitting t → IsAccepted t
accepted-rows t r l m f = (accepted t).1 (formed_of t r l m, f)
