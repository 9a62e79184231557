-- A table that stands in another, its child numbers moved on: what is known of its nodes there, and that they draw the same.
use Prim.Native.Nat.{ℕ, ◌+◌, ◌-◌, ◌*◌, ◌≤◌, ◌<◌}
use mathlib.Core.Path.{◌≡◌, refl, sym, ap, ap₂, ◌∙◌, subst}
use mathlib.Core.Logic.{inl, inr}
use mathlib.Core.List.{List}
use native.Mathlib.Omega.{arith}
use native.Mathlib.Decide.{dec_lt}
use lib.ListN.{length}
use Rattle.arity.specs.Tree.{Tree}
use Rattle.arity.specs.Tree.Tree.{leaf, join, ondemand}
use Rattle.arity.specs.Table.{kind_at, first_at, second_at, nodes, tree, primitive_of, composition_of}
use Rattle.arity.specs.Formed.{Child, Free, Children, Fields, Attached, Formed}
use Rattle.arity.proofs.Trees.{View, view, strong, as_leaf, as_join, as_ondemand}
use Rattle.arity.proofs.Trees.View.{alone, two, one}
use Rattle.drawing.specs.Drawing.{drawing, Alike}

-- the rows of a table of the stated form, whatever their count
pub record Rows (t : List ℕ) : Type 0 where
  pub whole : 3 * nodes t ≡ length t
  pub kinds : (i : ℕ) → i < nodes t → (1 ≤ kind_at t i) × (kind_at t i ≤ 12)
  pub fields : (i : ℕ) → i < nodes t → Fields (kind_at t i) (first_at t i) (second_at t i)
  pub children : (i : ℕ) → i < nodes t → Children t i
  pub attached : Attached t

pub rows_of : (t : List ℕ) → Formed t → Rows t
rows_of t f = record { whole = f.whole; kinds = f.kinds; fields = f.fields; children = f.children; attached = f.attached }

pub formed_of : (t : List ℕ) → Rows t → 1 ≤ nodes t → nodes t ≤ 512 → Formed t
formed_of t r l m = record {
  whole = r.whole;
  least = l;
  most = m;
  kinds = r.kinds;
  fields = r.fields;
  children = r.children;
  attached = r.attached;
}

-- a child is lower
pub child_lower : (t : List ℕ) → Rows t → (i c : ℕ) → i < nodes t → Child t i c → c < i
child_lower t r i c h (inl k) = omega (arith, k.1, ((r.children i h).first k.0).lower)
child_lower t r i c h (inr k) = omega (arith, k.2, ((r.children i h).second k.0 k.1).lower)

-- node i of t is node b + i of s
pub record Placed (b : ℕ) (t s : List ℕ) : Type 0 where
  pub kind : (i : ℕ) → i < nodes t → kind_at s (b + i) ≡ kind_at t i
  pub value : (i : ℕ) → i < nodes t → kind_at t i ≤ 6 → first_at s (b + i) ≡ first_at t i
  pub first : (i : ℕ) → i < nodes t → 7 ≤ kind_at t i → first_at s (b + i) ≡ b + first_at t i
  pub second : (i : ℕ) → i < nodes t → 7 ≤ kind_at t i → kind_at t i ≤ 11 → second_at s (b + i) ≡ b + second_at t i
  pub unused : (i : ℕ) → i < nodes t → (7 ≤ kind_at t i → kind_at t i ≤ 11 → ⊥) → second_at s (b + i) ≡ second_at t i

module _ (b : ℕ) (t s : List ℕ) (r : Rows t) (p : Placed b t s) where
  -- its children are those of t, moved on
  pub child_down : (i c : ℕ) → i < nodes t → Child s (b + i) c → (d : ℕ) × (c ≡ b + d) × Child t i d
  child_down i c h (inl k) =
      let l : 7 ≤ kind_at t i = omega (arith, p.kind i h, k.0) in
      (first_at t i, sym k.1 ∙ p.first i h l, inl (l, refl))
  child_down i c h (inr k) =
      let l : 7 ≤ kind_at t i = omega (arith, p.kind i h, k.0) in
      let m : kind_at t i ≤ 11 = omega (arith, p.kind i h, k.1) in
      (second_at t i, sym k.2 ∙ p.second i h l m, inr (l, m, refl))

  pub child_up : (i d : ℕ) → i < nodes t → Child t i d → Child s (b + i) (b + d)
  child_up i d h (inl k) = inl (omega (arith, p.kind i h, k.0), p.first i h k.0 ∙ ap (λ (x : ℕ). b + x) k.1)
  child_up i d h (inr k) =
      inr (omega (arith, p.kind i h, k.0), omega (arith, p.kind i h, k.1), p.second i h k.0 k.1 ∙ ap (λ (x : ℕ). b + x) k.2)

  pub kinds_there : (i : ℕ) → i < nodes t → (1 ≤ kind_at s (b + i)) × (kind_at s (b + i) ≤ 12)
  kinds_there i h = (omega (arith, p.kind i h, (r.kinds i h).0), omega (arith, p.kind i h, (r.kinds i h).1))

  pub fields_there : (i : ℕ) → i < nodes t → Fields (kind_at s (b + i)) (first_at s (b + i)) (second_at s (b + i))
  fields_there i h =
      let f = r.fields i h in
      let e = p.kind i h in
      let v : kind_at t i ≤ 6 → first_at s (b + i) ≡ first_at t i = p.value i h in
      record {
        control = λ z. let k : kind_at t i ≡ 2 = omega arith in omega (arith, v (omega arith), f.control k);
        operation = λ z. let k : kind_at t i ≡ 3 = omega arith in rw (v (omega arith)) (f.operation k);
        delay = λ z. let k : kind_at t i ≡ 4 = omega arith in omega (arith, v (omega arith), f.delay k);
        cable = λ z. let k : kind_at t i ≡ 5 = omega arith in omega (arith, v (omega arith), f.cable k);
        cut = λ z. let k : kind_at t i ≡ 6 = omega arith in omega (arith, v (omega arith), f.cut k);
        unused = λ n. let m : 7 ≤ kind_at t i → kind_at t i ≤ 11 → ⊥ = λ x y. n (omega arith) (omega arith) in p.unused i h m ∙ f.unused m;
      }

  -- where nodes before it have their children before it, its children are free
  module _ (before : (j c : ℕ) → j < b → Child s j c → c < b) where
    free_there : (i d : ℕ) → i < nodes t → Free t i d → (c : ℕ) → c ≡ b + d → Free s (b + i) c
    free_there i d h f c e =
        record {
          lower = omega (arith, f.lower);
          new = λ j l k. go j l k (dec_lt j b);
        }
      where
        go : (j : ℕ) → j < b + i → Child s j c → Dec (j < b) → ⊥
        go j l k (yes g) = omega (arith, before j c g k)
        go j l k (no g) =
            let z : j ≡ b + (j - b) = omega arith in
            let q : Child s (b + (j - b)) c = subst (λ (x : ℕ). Child s x c) z k in
            let w = child_down (j - b) c (omega arith) q in
            let d' : w.0 ≡ d = omega (arith, w.1) in
            f.new (j - b) (omega arith) (subst (λ (x : ℕ). Child t (j - b) x) d' w.2)

    pub children_there : (i : ℕ) → i < nodes t → Children s (b + i)
    children_there i h =
        let e = p.kind i h in
        let c = r.children i h in
        record {
          first = λ l. let l' : 7 ≤ kind_at t i = omega arith in free_there i (first_at t i) h (c.first l') _ (p.first i h l');
          second = λ l m.
              let l' : 7 ≤ kind_at t i = omega arith in
              let m' : kind_at t i ≤ 11 = omega arith in
              free_there i (second_at t i) h (c.second l' m') _ (p.second i h l' m');
          apart = λ l m z.
              let l' : 7 ≤ kind_at t i = omega arith in
              let m' : kind_at t i ≤ 11 = omega arith in
              c.apart l' m' (omega (arith, p.first i h l', p.second i h l' m'));
        }

  -- and its nodes draw the same
  module _ (n : ℕ) (room : b + nodes t ≤ n) (kids : (i : ℕ) → i < n → Children s i) where
    pub alike_there : (i : ℕ) → i < nodes t → Alike (tree s (b + i)) (tree t i)
    unfolding drawing
    alike_there = strong (λ i. i < nodes t → Alike (tree s (b + i)) (tree t i)) (λ i ih h. step i ih h (view t (nodes t) r.children i h))
      where
        step : (i : ℕ) → ((j : ℕ) → j < i → j < nodes t → Alike (tree s (b + j)) (tree t j)) → i < nodes t → View t i → Alike (tree s (b + i)) (tree t i)
        step i ih h (alone a e) =
            let k = p.kind i h in
            ap drawing (as_leaf (view s n kids (b + i) (omega arith)) (omega arith))
            ∙ ap₂ (λ (x y : ℕ). leaf 0 (primitive_of x y)) k (p.value i h a) ∙ sym (ap drawing e)
        step i ih h (two a m e) =
            let k = p.kind i h in
            let f = ((r.children i h).first a).lower in
            let g = ((r.children i h).second a m).lower in
            ap drawing (as_join (view s n kids (b + i) (omega arith)) (omega arith) (omega arith))
            ∙ ap₂ (λ (x y : Tree). join 0 (composition_of (kind_at s (b + i))) x y)
            (ap (λ (x : ℕ). drawing (tree s x)) (p.first i h a) ∙ ih (first_at t i) f (omega arith))
            (ap (λ (x : ℕ). drawing (tree s x)) (p.second i h a m) ∙ ih (second_at t i) g (omega arith))
            ∙ ap (λ (x : ℕ). join 0 (composition_of x) (drawing (tree t (first_at t i))) (drawing (tree t (second_at t i)))) k
            ∙ sym (ap drawing e)
        step i ih h (one a e) =
            let k = p.kind i h in
            let l : 7 ≤ kind_at t i = omega arith in
            let f = ((r.children i h).first l).lower in
            ap drawing (as_ondemand (view s n kids (b + i) (omega arith)) (omega arith))
            ∙ ap {B = Tree} (ondemand 0) (ap (λ (x : ℕ). drawing (tree s x)) (p.first i h l) ∙ ih (first_at t i) f (omega arith))
            ∙ sym (ap drawing e)
