-- What the probes show after a tick of a node of each kind, from what they show after its sides and what it notes.
use Prim.Native.Nat.{ℕ, ◌-◌, ◌≤◌, ◌<◌}
use mathlib.Core.Path.{◌≡◌, refl, sym, ap, ap₂, subst, ◌∙◌}
use mathlib.Core.Bool.{Bool, true, false}
use mathlib.Core.List.{List, [], ◌∷◌}
use native.Mathlib.Omega.{arith}
use lib.Dec.{eqb, leb}
use lib.ListN.{length, get_or, take, drop}
use lib.Seq.{take-take, get_or-take}
use borrow.Author.Tests.{eqb-true, leb-true, leb-false}
use Rattle.word.specs.Choice.{pick}
use Rattle.word.specs.Operation.{demand}
use Rattle.word.specs.Tick.{Beam, Tick, tick, Stepped, stepped, tail_of, Each}
use Rattle.arity.specs.Tree.{Tree, Composition, ins as ins_t, outs}
use Rattle.arity.specs.Tree.Tree.{leaf, join, ondemand}
use Rattle.arity.specs.Tree.Composition.{sequence, parallel, split, merge, recursion}
use Rattle.arity.specs.Table.{nodes, kind_at, first_at, tree}
use Rattle.arity.specs.Promise.{Node}
use Rattle.signal.specs.Wire.{Probe}
use Rattle.calls.specs.Wiring.{first_side, second_side}
use Rattle.calls.specs.Step.{step, first_tick, second_tick}
use Rattle.calls.specs.Probes.{noted, shown, zip_with}
use Rattle.calls.specs.Probed.{probes_of}
use Rattle.probes.specs.Marks.{Probing, Marked, MarksOf}
use Rattle.probes.proofs.Zips.{each_at, zip_zip, zip_same, zip_all, zip_kept}
use Rattle.arity.specs.Ready.{Promising}
use Rattle.walker.specs.Ready.{base, Joins, Demands, joining, left_tree, right_tree, first_child, second_child, ins_of, outs_of, FirstGiven, SecondGiven, Ticked}
use Rattle.walker.specs.Probing.{Names, Named, Watching, Watched, below, ShowedBelow, Showed}
use Rattle.walker.proofs.Joining.{first-tree, second-tree}
use Rattle.walker.proofs.Leaves.{demand-is, clock_is, rest-is, ins-more}

-- one side of a composition, and a function of it
side_first : {A B : Type 0} (g : A → B) (c : Composition) (l r : A) → first_side c (g l) (g r) ≡ g (first_side c l r)
side_first g sequence l r = refl
side_first g parallel l r = refl
side_first g split l r = refl
side_first g merge l r = refl
side_first g recursion l r = refl

side_second : {A B : Type 0} (g : A → B) (c : Composition) (l r : A) → second_side c (g l) (g r) ≡ g (second_side c l r)
side_second g sequence l r = refl
side_second g parallel l r = refl
side_second g split l r = refl
side_second g merge l r = refl
side_second g recursion l r = refl

-- what the sides of a composition leave, one after the other
sides_below : (base : ℕ → ℕ) (i : ℕ) (c : Composition) (l r : Tree) (f : Tick) (cs ys cs₁ : List ℕ) (o : Bool)
    → step base (first_side c l r) (first_tick base i c l r f cs) cs ≡ stepped ys cs₁ o → (ps : List Probe) (vs : List ℕ)
    → zip_with (shown base (second_side c l r) (second_tick c l r f ys) cs₁) ps (zip_with (shown base (first_side c l r) (first_tick base i c l r f cs) cs) ps vs)
    ≡ zip_with (below base (join i c l r) f cs) ps vs
sides_below base i c l r f cs ys cs₁ o e ps vs =
    let x = first_tick base i c l r f cs in
    let S = second_side c (shown base l) (shown base r) in
    let F = first_side c (shown base l) (shown base r) in
    ap₂ (λ (G H : Tick → List ℕ → Probe → ℕ → ℕ). zip_with (G (second_tick c l r f ys) cs₁) ps (zip_with (H x cs) ps vs)) (sym (side_second (shown base) c l r)) (sym (side_first (shown base) c l r))
    ∙ zip_zip (F x cs) (S (second_tick c l r f ys) cs₁) ps vs
    ∙ ap (λ (a : Stepped). zip_with (λ p v. S (second_tick c l r f a.outputs) a.cells p (F x cs p v)) ps vs)
    (sym (ap (λ (G : Tick → List ℕ → Stepped). G x cs) (side_first (step base) c l r) ∙ e))

-- then the node's own outputs
abbrev root : Tree → ℕ
root (leaf i q) = i
root (join i c l r) = i
root (ondemand i b) = i

shown-is : (base : ℕ → ℕ) (t : Tree) (f : Tick) (cs : List ℕ) (p : Probe) (v : ℕ) → noted (root t) (step base t f cs).outputs p (below base t f cs p v) ≡ shown base t f cs p v
unfolding shown
shown-is base (leaf i q) f cs p v = refl
shown-is base (join i c l r) f cs p v = refl
shown-is base (ondemand i b) f cs p v = refl

-- the tree of node i has it as its root
rooted : {table : List ℕ} → Promising table → (i : ℕ) → i < nodes table → root (tree table i) ≡ i
rooted {table} promise i h = go (leb (kind_at table i) 6) (leb (kind_at table i) 11) refl refl
  where
    n : Node table i
    n = promise.node i h

    go : (a b : Bool) → leb (kind_at table i) 6 ≡ a → leb (kind_at table i) 11 ≡ b → root (tree table i) ≡ i
    go true b p q = ap root (n.is_leaf (leb-true (kind_at table i) 6 p))
    go false true p q = ap root (n.is_join (leb-false (kind_at table i) 6 p) (leb-true (kind_at table i) 11 q))
    go false false p q = ap root (n.is_ondemand (leb-false (kind_at table i) 11 q))

module _ {table xs : List ℕ} {k : ℕ} (promise : Promising table) (w : Named table xs k) where
  -- the probes as their notes ask
  pub probing : Probing xs k
  probing =
      let at = each_at (Names table) xs k w.two w.each in
      record {
        two = w.two;
        few = w.few;
        nodes = λ i h. omega (arith, (at i h).node, promise.few);
        outputs = λ i h. omega (arith, (at i h).output, (promise.node _ (at i h).node).outputs);
      }

  -- of the array of 32 a probe shows an output of the node
  pub notes_outputs : (i : ℕ) (ys vs : List ℕ) → zip_with (noted i ys) (probes_of xs) vs ≡ zip_with (noted i (outs_of table i ys)) (probes_of xs) vs
  notes_outputs i ys vs = zip_same (noted i ys) (noted i (outs_of table i ys)) (probes_of xs) vs (go (probes_of xs) w.each)
    where
      one : (p : Probe) → Names table p → (b : Bool) → eqb i p.node ≡ b → (v : ℕ) → pick b (get_or ys p.output 0) v ≡ pick b (get_or (outs_of table i ys) p.output 0) v
      one p n true e v =
          let z : p.node ≡ i = sym (eqb-true i p.node e) in
          sym (get_or-take (outs (tree table i)) ys p.output 0 (subst (λ (j : ℕ). p.output < outs (tree table j)) z n.output))
      one p n false e v = refl

      go : (ps : List Probe) → Each (Names table) ps → Each (λ p. (v : ℕ) → noted i ys p v ≡ noted i (outs_of table i ys) p v) ps
      go [] e = tt
      go (p ∷ ps) (n, e) = ((λ v. one p n (eqb i p.node) refl v), go ps e)

pub watched-kept : {table marks : List ℕ} {k k' : ℕ} → Watched table k marks → k' ≡ k → Watched table k' marks
watched-kept {table} {marks} w e = subst (λ (n : ℕ). Watched table n marks) (sym e) w

pub watching-kept : {table xs marks : List ℕ} {k k' : ℕ} → Watching table xs k marks → k' ≡ k → Watching table xs k' marks
watching-kept {table} {xs} {marks} w e = subst (λ (n : ℕ). Watching table xs n marks) (sym e) w

-- what a note of node i asks
pub noting : {table marks : List ℕ} {k i : ℕ} → Promising table → Watched table k marks → i < nodes table → MarksOf k marks × (i < 512)
noting promise w h =
    (record { numbers = w.numbers; probing = probing promise w.watching.named; marked = w.watching.marked }, omega (arith, promise.few))

-- the tick of node i
abbrev given : (table controls : List ℕ) → ℕ → List ℕ → Tick
given table controls i ins = tick (ins_of table i ins) controls

-- the body of an ondemand, where it is worked
body_below : {table : List ℕ} {i : ℕ} → Promising table → Demands table i → (controls ins cs : List ℕ) (ps : List Probe) (vs : List ℕ)
    → zip_with (below (base table) (tree table i) (given table controls i ins) cs) ps vs
    ≡ zip_with (λ p v. pick (demand (get_or ins 0 0)) (shown (base table) (left_tree table i) (tick (tail_of (ins_of table i ins)) controls) cs p v) v) ps vs
body_below {table} {i} promise d controls ins cs ps vs =
    ap (λ (T : Tree). zip_with (below (base table) T (given table controls i ins) cs) ps vs) (demand-is promise d)
    ∙ ap (λ o. zip_with (λ p v. pick o (shown (base table) (left_tree table i) (tick (tail_of (ins_of table i ins)) controls) cs p v) v) ps vs) (ap demand (clock_is promise d ins))

-- what a note of marks says of the probes xs
abbrev Notes : (marks : List ℕ) → ℕ → (ys vs vs' : List ℕ) → Type 0
Notes marks i ys vs vs' = (xs : List ℕ) → Probing xs (length vs) → Marked xs (length vs) marks → vs' ≡ zip_with (noted i ys) (probes_of xs) vs

module _ {table controls xs ins cs marks : List ℕ} {k i : ℕ} (promise : Promising table) (w : Watching table xs k marks) where
  -- below the node, and then its own outputs
  pub noted_showed : {ys cs' vs vs₁ vs₂ : List ℕ} {told told' : Bool} → i < nodes table → length vs₁ ≡ k → Ticked table controls i ins cs ys cs' told told' → ShowedBelow table controls xs i ins cs vs vs₁ → Notes marks i ys vs₁ vs₂
      → Showed table controls xs i ins cs vs vs₂
  noted_showed {ys} {cs'} {vs} {vs₁} {vs₂} inside l t m notes =
      let T = tree table i in
      let f = given table controls i ins in
      let out = (step (base table) T f cs).outputs in
      let w₁ : Watching table xs (length vs₁) marks = watching-kept w l in
      record {
        is =
            notes xs (probing promise w₁.named) w₁.marked ∙ notes_outputs promise w.named i ys vs₁
            ∙ ap₂ (λ (s : Stepped) (us : List ℕ). zip_with (noted i s.outputs) (probes_of xs) us) t.is m.is
            ∙ zip_zip (below (base table) T f cs) (noted i out) (probes_of xs) vs
            ∙ zip_all (λ p v. noted i out p (below (base table) T f cs p v)) (shown (base table) T f cs)
            (λ p v. ap (λ (j : ℕ). noted j out p (below (base table) T f cs p v)) (sym (rooted promise i inside)) ∙ shown-is (base table) T f cs p v) (probes_of xs) vs;
      }

  -- nothing is below a primitive
  pub leaf-below : {vs : List ℕ} → length vs ≡ k → i < nodes table → kind_at table i ≤ 6 → ShowedBelow table controls xs i ins cs vs vs
  leaf-below {vs} l inside h =
      record {
        is = sym
            (ap (λ (T : Tree). zip_with (below (base table) T (given table controls i ins) cs) (probes_of xs) vs) ((promise.node i inside).is_leaf h) ∙ zip_kept xs vs (omega (arith, w.named.two)));
      }

  module _ (d : Demands table i) where
    pub below_rest : {vs : List ℕ} → length vs ≡ k → demand (get_or ins 0 0) ≡ false → ShowedBelow table controls xs i ins cs vs vs
    below_rest {vs} l n =
        record {
          is = sym
              (body_below promise d controls ins cs (probes_of xs) vs ∙ ap (λ o. zip_with (λ p v. pick o (shown (base table) (left_tree table i) (tick (tail_of (ins_of table i ins)) controls) cs p v) v) (probes_of xs) vs) n
              ∙ zip_kept xs vs (omega (arith, w.named.two)));
        }

    pub below-demand : {b : ℕ} {zs vs vs' : List ℕ} → demand (get_or ins 0 0) ≡ true → b ≡ first_at table i → take (32 - 1) zs ≡ drop 1 ins → Showed table controls xs b zs cs vs vs'
        → ShowedBelow table controls xs i ins cs vs vs'
    below-demand {b} {zs} {vs} y eb ez m =
        let few : ins_t (left_tree table i) ≤ 31 = omega (arith, ins-more promise d, (promise.node i d.inside).inputs) in
        let e : tail_of (ins_of table i ins) ≡ take (ins_t (left_tree table i)) zs =
        rest-is promise d ins ∙ ap (take (ins_t (left_tree table i))) (sym ez) ∙ take-take (ins_t (left_tree table i)) 31 zs few in
        record {
          is =
              m.is ∙ ap (λ j. zip_with (shown (base table) (tree table j) (tick (ins_of table j zs) controls) cs) (probes_of xs) vs) eb
              ∙ ap (λ l. zip_with (shown (base table) (left_tree table i) (tick l controls) cs) (probes_of xs) vs) (sym e)
              ∙ ap (λ o. zip_with (λ p v. pick o (shown (base table) (left_tree table i) (tick (tail_of (ins_of table i ins)) controls) cs p v) v) (probes_of xs) vs) (sym y)
              ∙ sym (body_below promise d controls ins cs (probes_of xs) vs);
        }

  pub join-below : {f₁ f₂ : ℕ} {zs ys cs₁ ws vs vs₁ vs₂ : List ℕ} {told told₁ : Bool} → Joins table i → f₁ ≡ first_child table i → f₂ ≡ second_child table i
      → FirstGiven table i ins cs zs → Ticked table controls f₁ zs cs ys cs₁ told told₁ → SecondGiven table i ins ys ws
      → Showed table controls xs f₁ zs cs vs vs₁ → Showed table controls xs f₂ ws cs₁ vs₁ vs₂ → ShowedBelow table controls xs i ins cs vs vs₂
  join-below {f₁} {f₂} {zs} {ys} {cs₁} {ws} {vs} {vs₁} {vs₂} {told} {told₁} j ef es first a second ma mb =
      let c = joining table i in
      let l = left_tree table i in
      let r = right_tree table i in
      let B = base table in
      let f = given table controls i ins in
      let ys' = outs_of table (first_child table i) ys in
      let e₁ : vs₁ ≡ zip_with (shown B (first_side c l r) (first_tick B i c l r f cs) cs) (probes_of xs) vs =
      subst (λ (n : ℕ). vs₁ ≡ zip_with (shown B (tree table n) (tick (ins_of table n zs) controls) cs) (probes_of xs) vs) ef ma.is
      ∙ ap₂ (λ (T : Tree) (u : Beam). zip_with (shown B T (tick u controls) cs) (probes_of xs) vs) (first-tree table i j) first.is in
      let e₂ : vs₂ ≡ zip_with (shown B (second_side c l r) (second_tick c l r f ys') cs₁) (probes_of xs) vs₁ =
      subst (λ (n : ℕ). vs₂ ≡ zip_with (shown B (tree table n) (tick (ins_of table n ws) controls) cs₁) (probes_of xs) vs₁) es mb.is
      ∙ ap₂ (λ (T : Tree) (u : Beam). zip_with (shown B T (tick u controls) cs₁) (probes_of xs) vs₁) (second-tree table i j) second.is in
      let a' : Ticked table controls (first_child table i) zs cs ys cs₁ told told₁ = subst (λ (n : ℕ). Ticked table controls n zs cs ys cs₁ told told₁) ef a in
      let ea : step B (first_side c l r) (first_tick B i c l r f cs) cs ≡ stepped ys' cs₁ a'.clips =
      ap₂ (λ (T : Tree) (u : Beam). step B T (tick u controls) cs) (sym (first-tree table i j)) (sym first.is) ∙ sym a'.is in
      record {
        is =
            e₂ ∙ ap (zip_with (shown B (second_side c l r) (second_tick c l r f ys') cs₁) (probes_of xs)) e₁
            ∙ sides_below B i c l r f cs ys' cs₁ a'.clips ea (probes_of xs) vs
            ∙ ap (λ (T : Tree). zip_with (below B T f cs) (probes_of xs) vs) (sym ((promise.node i j.inside).is_join j.least j.most));
      }
