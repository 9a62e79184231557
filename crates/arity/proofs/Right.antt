-- What the rows that did not refuse a node say of it.
use Prim.Native.Nat.{ℕ, suc, ◌≤◌, ◌<◌}
use mathlib.Core.Path.{◌≡◌}
use mathlib.Core.Bool.{true, not, ◌&&◌}
use mathlib.Core.List.{List}
use native.Mathlib.Omega.{arith}
use native.Mathlib.Decide.{ℕ_discrete}
use lib.Dec.{leb}
use borrow.Author.Tests.{leb-true}
use Rattle.word.specs.Choice.{pick}
use Rattle.arity.specs.Tree.{ins, outs}
use Rattle.arity.specs.Table.{kind_at, first_at, second_at, tree}
use Rattle.arity.specs.Check.{known_kind, first_in_range, second_in_range, children_free, rule_fits, feeds_back, narrow, refusal_at}
use Rattle.arity.specs.Formed.{Children}
use Rattle.arity.proofs.Tests.{and_left, and_right, passed}
use Rattle.arity.proofs.Taken.{children_of}
use Rattle.arity.proofs.Trees.{View, view}

-- a node whose number is none of the rows 4 to 7 has passed them
pub record Past (t : List ℕ) (i n : ℕ) : Type 0 where
  pub kind : known_kind (kind_at t i) ≡ true
  pub fields : (first_in_range (kind_at t i) (first_at t i) && second_in_range (kind_at t i) (second_at t i)) ≡ true
  pub children : children_free t i ≡ true
  pub fits : rule_fits t i ≡ true
  pub rest : pick (not (feeds_back t i)) 16 (pick (not (narrow (tree t i))) 8 0) ≡ n

pub past : (t : List ℕ) (i n : ℕ) → refusal_at t i ≡ n → (4 ≤ n → n ≤ 7 → ⊥) → Past t i n
unfolding refusal_at
past t i n e f =
    let k = kind_at t i in
    let a = passed (known_kind k) 4 _ n e (λ z. f (omega arith) (omega arith)) in
    let b = passed (first_in_range k (first_at t i) && second_in_range k (second_at t i)) 5 _ n a.1 (λ z. f (omega arith) (omega arith)) in
    let c = passed (children_free t i) 6 _ n b.1 (λ z. f (omega arith) (omega arith)) in
    let d = passed (rule_fits t i) 7 _ n c.1 (λ z. f (omega arith) (omega arith)) in
    record { kind = a.0; fields = b.0; children = c.0; fits = d.0; rest = d.1 }

-- what a node without refusal has
pub record Right (t : List ℕ) (i : ℕ) : Type 0 where
  pub least : 1 ≤ kind_at t i
  pub most : kind_at t i ≤ 12
  pub first : first_in_range (kind_at t i) (first_at t i) ≡ true
  pub second : second_in_range (kind_at t i) (second_at t i) ≡ true
  pub children : Children t i
  pub fits : rule_fits t i ≡ true
  pub feeds : feeds_back t i ≡ true
  pub inputs : ins (tree t i) ≤ 32
  pub outputs : outs (tree t i) ≤ 32

pub right : (t : List ℕ) (i : ℕ) → refusal_at t i ≡ 0 → Right t i
right t i e =
    let k = kind_at t i in
    let p = past t i 0 e (λ l m. omega arith) in
    let g = passed (feeds_back t i) 16 _ 0 p.rest (λ z. omega arith) in
    let f = passed (narrow (tree t i)) 8 _ 0 g.1 (λ z. omega arith) in
    record {
      least = leb-true _ _ (and_left (leb 1 k) (leb k 12) p.kind);
      most = leb-true _ _ (and_right (leb 1 k) (leb k 12) p.kind);
      first = and_left (first_in_range k (first_at t i)) (second_in_range k (second_at t i)) p.fields;
      second = and_right (first_in_range k (first_at t i)) (second_in_range k (second_at t i)) p.fields;
      children = children_of t i p.children;
      fits = p.fits;
      feeds = g.0;
      inputs = leb-true _ _ (and_left (leb (ins (tree t i)) 32) (leb (outs (tree t i)) 32) f.0);
      outputs = leb-true _ _ (and_right (leb (ins (tree t i)) 32) (leb (outs (tree t i)) 32) f.0);
    }

-- n nodes without refusal
module _ (t : List ℕ) (n : ℕ) (passes : (j : ℕ) → j < n → refusal_at t j ≡ 0) where
  pub rights : (j : ℕ) → j < n → Right t j
  rights j h = right t j (passes j h)

  pub kids : (j : ℕ) → j < n → Children t j
  kids j h = (rights j h).children

-- the children of all nodes up to i
kids_to : (t : List ℕ) (i : ℕ) → ((j : ℕ) → j < i → refusal_at t j ≡ 0) → Children t i → (j : ℕ) → j ≤ i → Children t j
kids_to t i w c j h = go (ℕ_discrete j i)
  where
    go : Dec (j ≡ i) → Children t j
    go (yes e) = rw e c
    go (no e) = kids t i w j (omega arith)

pub view_at : (t : List ℕ) (i : ℕ) → ((j : ℕ) → j < i → refusal_at t j ≡ 0) → Children t i → View t i
view_at t i w c = view t (suc i) (λ j h. kids_to t i w c j (omega arith)) i (omega arith)
