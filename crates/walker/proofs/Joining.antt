-- One tick of a composition, whichever of the five it is.
use Prim.Native.Nat.{ℕ, ◌≤◌}
use mathlib.Core.Path.{◌≡◌, refl, sym, ap, ap₂, ◌∙◌, subst}
use mathlib.Core.Bool.{Bool}
use mathlib.Core.List.{List}
use native.Mathlib.Omega.{arith}
use native.Mathlib.Decide.{ℕ_discrete}
use lib.Dec.{eqb}
use Rattle.word.specs.Choice.{◌or◌, pick}
use Rattle.word.specs.Tick.{Beam, Tick, tick, stepped}
use Rattle.word.proofs.Lists.{or_assoc}
use Rattle.arity.specs.Tree.{Tree, Composition, ins}
use Rattle.arity.specs.Tree.Tree.{join}
use Rattle.arity.specs.Tree.Composition.{sequence, parallel, split, merge, recursion}
use Rattle.arity.specs.Table.{kind_at, first_at, second_at, composition_of, tree}
use Rattle.calls.specs.Step.{first_tick, second_tick, step}
use Rattle.calls.specs.Wiring.{first_side, second_side, join_outputs, kept_cells}
use Rattle.arity.specs.Ready.{Promising}
use Rattle.walker.specs.Ready.{base, Joins, joining, left_tree, right_tree, first_child, second_child, ins_of, outs_of, FirstGiven, SecondGiven, Finished, Ticked}

-- a tick of a composition from the ticks of its sides, one after the other
step-join : (base : ℕ → ℕ) (i : ℕ) (c : Composition) (l r : Tree) (f : Tick) (cs ys cs₁ zs cs₂ : List ℕ) (p q : Bool)
    → step base (first_side c l r) (first_tick base i c l r f cs) cs ≡ stepped ys cs₁ p → step base (second_side c l r) (second_tick c l r f ys) cs₁ ≡ stepped zs cs₂ q
    → step base (join i c l r) f cs ≡ stepped (join_outputs c ys zs) (kept_cells c (base i) (ins r) zs cs₂) (p or q)
unfolding step
step-join base i sequence l r f cs ys cs₁ zs cs₂ p q a b = rw (a, b)
step-join base i parallel l r f cs ys cs₁ zs cs₂ p q a b = rw (a, b)
step-join base i split l r f cs ys cs₁ zs cs₂ p q a b = rw (a, b)
step-join base i merge l r f cs ys cs₁ zs cs₂ p q a b = rw (a, b)
step-join base i recursion l r f cs ys cs₁ zs cs₂ p q a b = rw (a, b)

-- the five kinds of a composition
pub data Kind : ℕ → Type 0 where
  sequences : Kind 7
  parallels : Kind 8
  splits : Kind 9
  merges : Kind 10
  recursions : Kind 11

pub kind_of_lem : (k : ℕ) → 7 ≤ k → k ≤ 11 → Kind k
kind_of_lem k l m = go (ℕ_discrete k 7) (ℕ_discrete k 8) (ℕ_discrete k 9) (ℕ_discrete k 10)
  where
    go : Dec (k ≡ 7) → Dec (k ≡ 8) → Dec (k ≡ 9) → Dec (k ≡ 10) → Kind k
    go (yes e) x y z = rw e sequences
    go (no e) (yes f) y z = rw f parallels
    go (no e) (no f) (yes g) z = rw g splits
    go (no e) (no f) (no g) (yes h) = rw h merges
    go (no e) (no f) (no g) (no h) = let w : k ≡ 11 = omega arith in rw w recursions

-- the tree of the child that runs first is that of the first side
side_first : {A : Type 0} (k : ℕ) → Kind k → (f : ℕ → A) (l r : ℕ) → f (pick (eqb k 11) r l) ≡ first_side (composition_of k) (f l) (f r)
side_first k sequences f l r = refl
side_first k parallels f l r = refl
side_first k splits f l r = refl
side_first k merges f l r = refl
side_first k recursions f l r = refl

side_second : {A : Type 0} (k : ℕ) → Kind k → (f : ℕ → A) (l r : ℕ) → f (pick (eqb k 11) l r) ≡ second_side (composition_of k) (f l) (f r)
side_second k sequences f l r = refl
side_second k parallels f l r = refl
side_second k splits f l r = refl
side_second k merges f l r = refl
side_second k recursions f l r = refl

module _ (table : List ℕ) (i : ℕ) (j : Joins table i) where
  kind : Kind (kind_at table i)
  kind = kind_of_lem (kind_at table i) j.least j.most

  pub first-tree : tree table (first_child table i) ≡ first_side (joining table i) (left_tree table i) (right_tree table i)
  first-tree = side_first (kind_at table i) kind (tree table) (first_at table i) (second_at table i)

  pub second-tree : tree table (second_child table i) ≡ second_side (joining table i) (left_tree table i) (right_tree table i)
  second-tree = side_second (kind_at table i) kind (tree table) (first_at table i) (second_at table i)

-- a tick of a composition from the ticks of its sides
pub join_ticked : {table controls : List ℕ} {i f s : ℕ} {xs cs zs ys cs₁ ws vs cs₂ os cs₃ : List ℕ} {told told₁ told₂ : Bool} → Promising table → Joins table i → f ≡ first_child table i → s ≡ second_child table i
    → FirstGiven table i xs cs zs → Ticked table controls f zs cs ys cs₁ told told₁ → SecondGiven table i xs ys ws → Ticked table controls s ws cs₁ vs cs₂ told₁ told₂ → Finished table i ys vs cs₂ os cs₃
    → Ticked table controls i xs cs os cs₃ told told₂
join_ticked {table} {controls} {i} {f} {s} {xs} {cs} {zs} {ys} {cs₁} {ws} {vs} {cs₂} {os} {cs₃} {told} {told₁} {told₂} promise j ef es first a second b out =
    record {
      clips = a'.clips or b'.clips;
      tells = b'.tells ∙ ap (λ (o : Bool). o or b'.clips) a'.tells ∙ or_assoc told a'.clips b'.clips;
      is =
          ap₂ (λ (l m : List ℕ). stepped l m (a'.clips or b'.clips)) out.outputs out.cells
          ∙ sym
          (ap (λ (t : Tree). step (base table) t (tick (ins_of table i xs) controls) cs) ((promise.node i j.inside).is_join j.least j.most)
          ∙ step-join (base table) i (joining table i) (left_tree table i) (right_tree table i) (tick (ins_of table i xs) controls) cs (outs_of table (first_child table i) ys) cs₁ (outs_of table (second_child table i) vs) cs₂ a'.clips b'.clips
          (ap₂ (λ (t : Tree) (l : Beam). step (base table) t (tick l controls) cs) (sym (first-tree table i j)) (sym first.is) ∙ sym a'.is)
          (ap₂ (λ (t : Tree) (l : Beam). step (base table) t (tick l controls) cs₁) (sym (second-tree table i j)) (sym second.is) ∙ sym b'.is));
    }
  where
    a' : Ticked table controls (first_child table i) zs cs ys cs₁ told told₁
    a' = subst (λ (k : ℕ). Ticked table controls k zs cs ys cs₁ told told₁) ef a

    b' : Ticked table controls (second_child table i) ws cs₁ vs cs₂ told₁ told₂
    b' = subst (λ (k : ℕ). Ticked table controls k ws cs₁ vs cs₂ told₁ told₂) es b
