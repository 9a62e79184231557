-- One tick of a primitive, and of an ondemand.
use Prim.Native.Nat.{ℕ, suc, ◌+◌, ◌-◌, ◌≤◌, ◌<◌}
use mathlib.Core.Path.{◌≡◌, refl, sym, ap, ap₂, subst, ◌∙◌}
use mathlib.Core.Bool.{Bool, true, false}
use mathlib.Core.List.{List, [], ◌∷◌}
use native.Mathlib.Omega.{arith}
use lib.ListN.{get_or, take, drop}
use lib.Seq.{take-take, take-nil}
use Rattle.word.specs.Choice.{◌or◌}
use Rattle.word.specs.Word.{clipped}
use Rattle.word.specs.Operation.{operate, demand}
use Rattle.word.specs.Tick.{Beam, tick, stepped, head_or, tail_of}
use Rattle.word.proofs.Lists.{or_none}
use Rattle.cells.specs.Cells.{part, store}
use Rattle.cells.specs.Delay.{delayed, moved}
use Rattle.arity.specs.Tree.{Tree, ins, outs, size}
use Rattle.arity.specs.Tree.Tree.{leaf, ondemand}
use Rattle.arity.specs.Table.{nodes, kind_at, first_at, primitive_of, tree}
use Rattle.arity.specs.Promise.{Node}
use Rattle.calls.specs.Step.{step}
use Rattle.arity.specs.Ready.{Promising}
use Rattle.walker.specs.Ready.{base, left_tree, outs_of, Demands, Holding, Ticked}

-- a kind without children that is none of the first five
pub sixth : (k : ℕ) → 1 ≤ k → k ≤ 6 → (k ≡ 1 → ⊥) → (k ≡ 2 → ⊥) → (k ≡ 3 → ⊥) → (k ≡ 4 → ⊥) → (k ≡ 5 → ⊥) → k ≡ 6
sixth k l m a b c d e = omega arith

module _ {table : List ℕ} {i : ℕ} (promise : Promising table) (inside : i < nodes table) where
  node : Node table i
  node = promise.node i inside

  leaf-is : (k : ℕ) → kind_at table i ≡ k → k ≤ 6 → tree table i ≡ leaf i (primitive_of k (first_at table i))
  leaf-is k e l = node.is_leaf (omega arith) ∙ ap (λ (m : ℕ). leaf i (primitive_of m (first_at table i))) e

  pub delay-small : kind_at table i ≡ 4 → first_at table i ≤ 4095
  delay-small e = node.delay e

  pub delay-room : {k : ℕ} → kind_at table i ≡ 4 → base table (nodes table) ≤ k → base table i + suc (first_at table i) ≤ k
  unfolding size
  delay-room e h = omega (arith, node.cells, ap size (leaf-is 4 e (omega arith)))

  -- a tick of a primitive, of its tree alone
  ticked_by : {controls xs cs ys cs' : List ℕ} {told told' : Bool} {o : Bool} (k : ℕ) → told' ≡ told or o → kind_at table i ≡ k → k ≤ 6
      → stepped (take (outs (leaf i (primitive_of k (first_at table i)))) ys) cs' o ≡ step (base table) (leaf i (primitive_of k (first_at table i))) (tick (take (ins (tree table i)) xs) controls) cs
      → Ticked table controls i xs cs ys cs' told told'
  ticked_by {controls} {xs} {cs} {ys} {cs'} {told} {told'} {o} k says e l h =
      record {
        clips = o;
        tells = says;
        is =
            ap (λ (t : Tree). stepped (take (outs t) ys) cs' o) (leaf-is k e l)
            ∙ h
            ∙ sym (ap (λ (t : Tree). step (base table) t (tick (take (ins (tree table i)) xs) controls) cs) (leaf-is k e l));
      }

  module _ {controls xs cs ys : List ℕ} {told : Bool} where
    pub number_ticked : {v : ℕ} → kind_at table i ≡ 1 → v ≡ first_at table i → take 1 ys ≡ v ∷ [] → Ticked table controls i xs cs ys cs told told
    unfolding step outs
    number_ticked e ev h = ticked_by 1 (sym (or_none told)) e (omega arith) (rw (← ev) (ap (λ (l : Beam). stepped l cs false) h))

    pub control_ticked : {v k : ℕ} → kind_at table i ≡ 2 → k ≡ first_at table i → v ≡ get_or controls k 0 → take 1 ys ≡ v ∷ [] → Ticked table controls i xs cs ys cs told told
    unfolding step outs
    control_ticked e ek ev h = ticked_by 2 (sym (or_none told)) e (omega arith) (rw (← ek, ← ev) (ap (λ (l : Beam). stepped l cs false) h))

    pub operation_ticked : {o x y z v n : ℕ} → kind_at table i ≡ 3 → o ≡ first_at table i → n ≡ ins (tree table i) → x ≡ get_or (take n xs) 0 0 → y ≡ get_or (take n xs) 1 0 → z ≡ get_or (take n xs) 2 0
        → v ≡ operate o x y z → take 1 ys ≡ v ∷ [] → Ticked table controls i xs cs ys cs told told
    unfolding step outs
    operation_ticked e eo en ex ey ez ev h = ticked_by 3 (sym (or_none told)) e (omega arith) (rw (← eo, ← en, ← ex, ← ey, ← ez, ← ev) (ap (λ (l : Beam). stepped l cs false) h))

    pub delay_ticked : {a d x y v n : ℕ} {cs' : List ℕ} {told' o : Bool} → kind_at table i ≡ 4 → a ≡ base table i → d ≡ first_at table i → n ≡ ins (tree table i) → x ≡ get_or (take n xs) 0 0 → y ≡ get_or (take n xs) 1 0
        → v ≡ delayed a d x y cs → cs' ≡ moved a d x cs → o ≡ clipped y d → told' ≡ told or o → take 1 ys ≡ v ∷ [] → Ticked table controls i xs cs ys cs' told told'
    unfolding step outs
    delay_ticked {cs' = cs'} {o = o} e ea ed en ex ey ev ec eo says h =
        ticked_by 4 says e (omega arith) (rw (← ed, ← ea, ← en, ← ex, ← ey, ← ev, ← ec, ← eo) (ap (λ (l : Beam). stepped l cs' o) h))

    pub cable_ticked : {v n : ℕ} → kind_at table i ≡ 5 → n ≡ ins (tree table i) → v ≡ get_or (take n xs) 0 0 → take 1 ys ≡ v ∷ [] → Ticked table controls i xs cs ys cs told told
    unfolding step outs
    cable_ticked e en ev h = ticked_by 5 (sym (or_none told)) e (omega arith) (rw (← en, ← ev) (ap (λ (l : Beam). stepped l cs false) h))

    pub cut_ticked : kind_at table i ≡ 6 → Ticked table controls i xs cs ys cs told told
    unfolding step outs
    cut_ticked e = ticked_by 6 (sym (or_none told)) e (omega arith) refl

-- a tick of an ondemand with a demand, from the tick of its body
demanded-step : (base : ℕ → ℕ) (i : ℕ) (b : Tree) (xs us cs ys cs₁ : List ℕ) (o : Bool) → demand (head_or 0 xs) ≡ true → step base b (tick (tail_of xs) us) cs ≡ stepped ys cs₁ o
    → step base (ondemand i b) (tick xs us) cs ≡ stepped (part (base i) (outs b) (store (base i) ys cs₁)) (store (base i) ys cs₁) o
unfolding step
demanded-step base i b xs us cs ys cs₁ o y e = rw (y, e)

-- an ondemand: its counts, its demand, and its rest
module _ {table : List ℕ} {i : ℕ} (promise : Promising table) (d : Demands table i) where
  own : Node table i
  own = promise.node i d.inside

  pub demand-is : tree table i ≡ ondemand i (left_tree table i)
  demand-is = own.is_ondemand (omega (arith, d.kind))

  pub body_in : first_at table i < i
  body_in = own.left (omega (arith, d.kind))

  pub outs-few : outs (tree table i) ≤ 32
  outs-few = own.outputs

  pub held-room : {k : ℕ} → base table (nodes table) ≤ k → base table i + outs (tree table i) ≤ k
  unfolding size outs
  held-room h = omega (arith, own.cells, ap size demand-is, ap outs demand-is)

  outs-same : outs (tree table i) ≡ outs (left_tree table i)
  unfolding outs
  outs-same = ap outs demand-is

  pub ins-more : ins (tree table i) ≡ suc (ins (left_tree table i))
  unfolding ins
  ins-more = ap ins demand-is

  pub clock_is : (xs : List ℕ) → head_or 0 (take (ins (tree table i)) xs) ≡ get_or xs 0 0
  clock_is xs = ap (λ (n : ℕ). head_or 0 (take n xs)) ins-more ∙ first xs
    where
      first : (l : List ℕ) → head_or 0 (take (suc (ins (left_tree table i))) l) ≡ get_or l 0 0
      first [] = refl
      first (x ∷ l) = refl

  pub rest-is : (xs : List ℕ) → tail_of (take (ins (tree table i)) xs) ≡ take (ins (left_tree table i)) (drop 1 xs)
  rest-is xs = ap (λ (n : ℕ). tail_of (take n xs)) ins-more ∙ rest xs
    where
      rest : (l : List ℕ) → tail_of (take (suc (ins (left_tree table i))) l) ≡ take (ins (left_tree table i)) (drop 1 l)
      rest [] = simp take-nil
      rest (x ∷ l) = refl

  module _ {controls xs cs os : List ℕ} {told told' : Bool} where
    pub rest_ticked : {cs₁ : List ℕ} → demand (get_or xs 0 0) ≡ false → cs₁ ≡ cs → told' ≡ told → Holding table i cs₁ os → Ticked table controls i xs cs os cs₁ told told'
    unfolding step
    rest_ticked n ec et h =
        record {
          clips = false;
          tells = et ∙ sym (or_none told);
          is =
              ap₂ (λ (l m : List ℕ). stepped l m false) (h.is ∙ ap₂ (λ (m : ℕ) (l : List ℕ). part (base table i) m l) outs-same ec) ec
              ∙ sym (ap (λ (t : Tree). step (base table) t (tick (take (ins (tree table i)) xs) controls) cs) demand-is ∙ rw (clock_is xs, n));
        }

    pub demand_ticked : {b : ℕ} {zs ys cs₁ cs₂ : List ℕ} {told₁ : Bool} → demand (get_or xs 0 0) ≡ true → b ≡ first_at table i → take (32 - 1) zs ≡ drop 1 xs → Ticked table controls b zs cs ys cs₁ told told₁
        → cs₂ ≡ store (base table i) (outs_of table i ys) cs₁ → told' ≡ told₁ → Holding table i cs₂ os → Ticked table controls i xs cs os cs₂ told told'
    demand_ticked {b} {zs} {ys} {cs₁} {cs₂} {told₁} y eb ez a ec et h =
        let body : Ticked table controls (first_at table i) zs cs ys cs₁ told told₁ = subst (λ (k : ℕ). Ticked table controls k zs cs ys cs₁ told told₁) eb a in
        let few : ins (left_tree table i) ≤ 31 = omega (arith, ins-more, own.inputs) in
        let given : tail_of (take (ins (tree table i)) xs) ≡ take (ins (left_tree table i)) zs = rest-is xs ∙ ap (take (ins (left_tree table i))) (sym ez) ∙ take-take (ins (left_tree table i)) 31 zs few in
        let stored : cs₂ ≡ store (base table i) (take (outs (left_tree table i)) ys) cs₁ = ec ∙ ap (λ (n : ℕ). store (base table i) (take n ys) cs₁) outs-same in
        record {
          clips = body.clips;
          tells = et ∙ body.tells;
          is =
              ap₂ (λ (l m : List ℕ). stepped l m body.clips) (h.is ∙ ap₂ (λ (m : ℕ) (l : List ℕ). part (base table i) m l) outs-same stored) stored
              ∙ sym
              (ap (λ (t : Tree). step (base table) t (tick (take (ins (tree table i)) xs) controls) cs) demand-is
              ∙ demanded-step (base table) i (left_tree table i) (take (ins (tree table i)) xs) controls cs (take (outs (left_tree table i)) ys) cs₁ body.clips (ap demand (clock_is xs) ∙ y)
              (ap (λ (l : Beam). step (base table) (left_tree table i) (tick l controls) cs) given ∙ sym body.is));
        }
