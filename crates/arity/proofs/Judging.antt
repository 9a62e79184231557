-- One node: the tests on the marks and the rows decide its refusal, and the rows give its counts.
use Prim.Native.Nat.{ℕ, ◌≤◌, ◌<◌}
use mathlib.Core.Path.{◌≡◌, refl, sym, ap, ap₂, ◌∙◌}
use mathlib.Core.Bool.{Bool, true, false, not, ◌&&◌}
use mathlib.Core.List.{List}
use native.Mathlib.Omega.{arith}
use native.Mathlib.Decide.{dec_le, dec_lt}
use lib.Dec.{eqb, leb, ltb}
use borrow.Author.Tests.{eqb-true, leb-true, le-leb, lt-leb, le-ltb}
use Rattle.word.specs.Choice.{pick}
use Rattle.word.specs.Operation.{operands}
use Rattle.word.proofs.OperandCounts.{operands-most}
use Rattle.refusal.specs.Answer.{refused_at}
use Rattle.arity.specs.Tree.{Tree, Primitive, ins, outs}
use Rattle.arity.specs.Tree.Tree.{leaf}
use Rattle.arity.specs.Tree.Primitive.{number, control, operation, delay, cable, cut}
use Rattle.arity.specs.Table.{kind_at, first_at, second_at, tree, primitive_of}
use Rattle.arity.specs.Check.{known_kind, first_in_range, second_in_range, free, children_free, rule_fits, feeds_back, narrow, refusal_at, first_cell}
use Rattle.arity.specs.Formed.{Children}
use Rattle.arity.specs.Survey.{row_of, row_at}
use Rattle.arity.specs.Steps.{counts_of, rule_of, feedback_of, over, Joins, Modest, Joinable, State, free_in, children_in, Branching, Refuses}
use Rattle.arity.specs.Kinds.{number_of}
use Rattle.arity.specs.declared.kinds.Kind.{Kind}
use Rattle.arity.specs.declared.kinds.Kind.TheVariants.{Number, Control, Operation, Delay, Cable, Cut, Sequence, Parallel, Split, Merge, Recursion, Ondemand}
use Rattle.arity.specs.declared.counts.Counts.{Counts}
use Rattle.arity.specs.declared.rows.Row.{Row}
use Rattle.arity.proofs.Tests.{and_right}
use Rattle.arity.proofs.ByKind.{rule-other}
use Rattle.arity.proofs.Feedback.{feedback-other}
use Rattle.arity.proofs.Taken.{children_of}
use Rattle.arity.proofs.Trees.{View}
use Rattle.arity.proofs.Trees.View.{alone, two, one}
use Rattle.arity.proofs.Right.{rights, view_at}
use Rattle.arity.proofs.Bounds.{need-most}
use Rattle.arity.proofs.Joint.{leaf_any}

-- the rows downwards: the tests decide the refusal
refusal : (t : List ℕ) (i : ℕ) (a b c d f e : Bool)
    → known_kind (kind_at t i) ≡ a
    → (first_in_range (kind_at t i) (first_at t i) && second_in_range (kind_at t i) (second_at t i)) ≡ b
    → children_free t i ≡ c
    → rule_fits t i ≡ d
    → feeds_back t i ≡ f
    → narrow (tree t i) ≡ e
    → refusal_at t i ≡ pick (not a) 4 (pick (not b) 5 (pick (not c) 6 (pick (not d) 7 (pick (not f) 16 (pick (not e) 8 0)))))
unfolding refusal_at
refusal t i a b c d f e p q r s v u = rw (p, q, r, s, v, u)

refuses : (t : List ℕ) (i r : ℕ) → refusal_at t i ≡ r → (r ≡ 0 → ⊥) → Refuses t i (refused_at r i)
refuses t i r e n = (ap (λ (x : ℕ). refused_at x i) (sym e), λ z. n (sym e ∙ z))

free_law : (t s : List ℕ) (m : List Bool) (i c : ℕ) → State t s m i → i ≤ 512 → free_in m i c ≡ free t i c
free_law t s m i c w h = go (dec_lt c i)
  where
    go : Dec (c < i) → free_in m i c ≡ free t i c
    go (yes l) = ap (λ (b : Bool). ltb c i && b) (ap not (w.marked c (omega arith)))
    go (no l) = rw (le-ltb c i (omega arith))

turn : (x y z : Bool) → (z && (x && y)) ≡ (x && (y && z))
turn true true true = refl
turn true true false = refl
turn true false true = refl
turn true false false = refl
turn false true true = refl
turn false true false = refl
turn false false true = refl
turn false false false = refl

children_law : (t s : List ℕ) (m : List Bool) (i : ℕ) → State t s m i → i ≤ 512 → 7 ≤ kind_at t i → children_in (kind_at t i) m i (first_at t i) (second_at t i) ≡ children_free t i
unfolding children_free
children_law t s m i w h k = go (dec_le (kind_at t i) 11)
  where
    a : free_in m i (first_at t i) ≡ free t i (first_at t i)
    a = free_law t s m i (first_at t i) w h

    b : free_in m i (second_at t i) ≡ free t i (second_at t i)
    b = free_law t s m i (second_at t i) w h

    go : Dec (kind_at t i ≤ 11) → children_in (kind_at t i) m i (first_at t i) (second_at t i) ≡ children_free t i
    go (yes l) =
        rw (lt-leb (kind_at t i) 6 k, le-leb (kind_at t i) 11 l)
        (ap₂ (λ (x y : Bool). not (eqb (first_at t i) (second_at t i)) && (x && y)) a b ∙ turn (free t i (first_at t i)) (free t i (second_at t i)) (not (eqb (first_at t i) (second_at t i))))
    go (no l) = rw (lt-leb (kind_at t i) 6 k, lt-leb (kind_at t i) 11 (omega arith)) a

-- few inputs and outputs, or not
narrow_by : (x : Tree) → ins x ≤ 32 → outs x ≤ 32 → narrow x ≡ true
narrow_by x a b = rw (le-leb (ins x) 32 a, le-leb (outs x) 32 b)

wide_ins : (x : Tree) → 32 < ins x → narrow x ≡ false
wide_ins x h = rw (lt-leb (ins x) 32 h)

wide_outs : (x : Tree) → ins x ≤ 32 → 32 < outs x → narrow x ≡ false
wide_outs x h g = rw (le-leb (ins x) 32 h, lt-leb (outs x) 32 g)

-- the three numbers of node i, as the code has read them
pub record Read (t : List ℕ) (i k a b : ℕ) : Type 0 where
  pub kind : k ≡ kind_at t i
  pub first : a ≡ first_at t i
  pub second : b ≡ second_at t i

-- a node with children
module _ (t s : List ℕ) (m : List Bool) (i : ℕ) (w : State t s m i) (u : Branching t i) where
  known : known_kind (kind_at t i) ≡ true
  known = rw (le-leb 1 (kind_at t i) (omega (arith, u.least)), le-leb (kind_at t i) 12 u.most)

  fields : (first_in_range (kind_at t i) (first_at t i) && second_in_range (kind_at t i) (second_at t i)) ≡ true
  fields = rw (u.first, u.second)

  inside : i ≤ 512
  inside = omega (arith, u.inside, w.most)

  child_refused : children_in (kind_at t i) m i (first_at t i) (second_at t i) ≡ false → Refuses t i (refused_at 6 i)
  child_refused e =
      refuses t i 6
      (refusal t i true true false _ _ _ known fields (sym (children_law t s m i w inside u.least) ∙ e) refl refl refl) (λ z. omega arith)

  module _ (e : children_in (kind_at t i) m i (first_at t i) (second_at t i) ≡ true) where
    all-free : children_free t i ≡ true
    all-free = sym (children_law t s m i w inside u.least) ∙ e

    children : Children t i
    children = children_of t i all-free

    first-lower : first_at t i < i
    first-lower = (children.first u.least).lower

    second-lower : second_at t i < i
    second-lower = go (dec_le (kind_at t i) 11)
      where
        go : Dec (kind_at t i ≤ 11) → second_at t i < i
        go (yes h) = (children.second u.least h).lower
        go (no h) =
            let f : eqb (second_at t i) 0 ≡ true = rw (le-leb 7 (kind_at t i) u.least, lt-leb (kind_at t i) 11 (omega arith)) at u.second in
            omega (arith, eqb-true (second_at t i) 0 f, first-lower)

    left : row_at s (first_at t i) ≡ row_of t (first_at t i)
    left = w.rows (first_at t i) first-lower

    right : row_at s (second_at t i) ≡ row_of t (second_at t i)
    right = w.rows (second_at t i) second-lower

    modest : (j : ℕ) → j < i → Modest (row_of t j)
    modest j h =
        let g = rights t i w.right j h in
        record { inputs = g.inputs; outputs = g.outputs; instructions = omega (arith, need-most t i w.right j h, inside) }

    -- from the rows l and r of the children
    module _ (l r : Row) (el : l ≡ row_of t (first_at t i)) (er : r ≡ row_of t (second_at t i)) where
      rule_law : rule_of (kind_at t i) l r ≡ rule_fits t i
      unfolding rule_fits
      rule_law = rw (el, er)

      rule-refused : rule_of (kind_at t i) l r ≡ false → Refuses t i (refused_at 7 i)
      rule-refused f =
          refuses t i 7 (refusal t i true true true false _ _ known fields all-free (sym rule_law ∙ f) refl refl) (λ z. omega arith)

      joinable : rule_of (kind_at t i) l r ≡ true → Joinable (kind_at t i) l r
      joinable f =
          record {
            least = u.least;
            most = u.most;
            left = rw el (modest (first_at t i) first-lower);
            right = rw er (modest (second_at t i) second-lower);
            fits = f;
          }

      counted : (n : Counts) → Joins (kind_at t i) l r n → n ≡ counts_of (tree t i)
      counted n f = f i (first_cell t (first_at t i)) (first_cell t (second_at t i)) (tree t (first_at t i)) (tree t (second_at t i)) el er ∙ ap counts_of (go (view_at t i w.right children))
        where
          go : View t i → over (kind_at t i) i (tree t (first_at t i)) (tree t (second_at t i)) ≡ tree t i
          go (alone a e) = absurd (omega (arith, u.least))
          go (two a b e) = rw (le-leb (kind_at t i) 11 b) (sym e)
          go (one a e) = rw (lt-leb (kind_at t i) 11 a) (sym e)

      feedback_law : feedback_of (kind_at t i) r ≡ feeds_back t i
      unfolding feeds_back
      feedback_law = rw er

      feedback-refused : rule_of (kind_at t i) l r ≡ true → feedback_of (kind_at t i) r ≡ false → Refuses t i (refused_at 16 i)
      feedback-refused f g =
          refuses t i 16 (refusal t i true true true true false _ known fields all-free (sym rule_law ∙ f) (sym feedback_law ∙ g) refl) (λ z. omega arith)

      width-refused : rule_of (kind_at t i) l r ≡ true → feedback_of (kind_at t i) r ≡ true → narrow (tree t i) ≡ false → Refuses t i (refused_at 8 i)
      width-refused f g h =
          refuses t i 8 (refusal t i true true true true true false known fields all-free (sym rule_law ∙ f) (sym feedback_law ∙ g) h) (λ z. omega arith)

      accepted : rule_of (kind_at t i) l r ≡ true → feedback_of (kind_at t i) r ≡ true → narrow (tree t i) ≡ true → refusal_at t i ≡ 0
      accepted f g h = refusal t i true true true true true true known fields all-free (sym rule_law ∙ f) (sym feedback_law ∙ g) h

-- the same, as the code has read the node: x says whether its children are free, y whether its rule fits, o whether it feeds back
module _ {t s : List ℕ} {m : List Bool} {i k a b : ℕ} (w : State t s m i) (u : Branching t i) (v : Read t i k a b) {x : Bool} (ex : x ≡ children_in k m i a b) where
  free-at : (z : Bool) → x ≡ z → children_in (kind_at t i) m i (first_at t i) (second_at t i) ≡ z
  free-at z e = rw (v.kind, v.first, v.second) at (sym ex ∙ e)

  pub seen_child : x ≡ false → Refuses t i (refused_at 6 i)
  seen_child e = child_refused t s m i w u (free-at false e)

  module _ (e : x ≡ true) where
    all : children_in (kind_at t i) m i (first_at t i) (second_at t i) ≡ true
    all = free-at true e

    module _ {l r : Row} (el : l ≡ row_at s a) (er : r ≡ row_at s b) {y : Bool} (ey : y ≡ rule_of k l r) where
      row_l : l ≡ row_of t (first_at t i)
      row_l = el ∙ ap (row_at s) v.first ∙ left t s m i w u all

      row_r : r ≡ row_of t (second_at t i)
      row_r = er ∙ ap (row_at s) v.second ∙ right t s m i w u all

      rule-at : (z : Bool) → y ≡ z → rule_of (kind_at t i) l r ≡ z
      rule-at z f = rw v.kind at (sym ey ∙ f)

      pub seen_rule : y ≡ false → Refuses t i (refused_at 7 i)
      seen_rule f = rule-refused t s m i w u all l r row_l row_r (rule-at false f)

      module _ (f : y ≡ true) where
        fits : rule_of (kind_at t i) l r ≡ true
        fits = rule-at true f

        pub seen_joinable : Joinable k l r
        seen_joinable = rw v.kind (joinable t s m i w u all l r row_l row_r fits)

        module _ {o : Bool} (eo : o ≡ feedback_of k r) where
          feedback-at : (z : Bool) → o ≡ z → feedback_of (kind_at t i) r ≡ z
          feedback-at z g = rw v.kind at (sym eo ∙ g)

          pub seen_feedback : o ≡ false → Refuses t i (refused_at 16 i)
          seen_feedback g = feedback-refused t s m i w u all l r row_l row_r fits (feedback-at false g)

          module _ (g : o ≡ true) {n : Counts} (en : Joins k l r n) where
            feeds : feedback_of (kind_at t i) r ≡ true
            feeds = feedback-at true g

            counts-at : n ≡ counts_of (tree t i)
            counts-at = counted t s m i w u all l r row_l row_r n (rw v.kind at en)

            pub seen_ins : 32 < n.inputs → Refuses t i (refused_at 8 i)
            seen_ins h = width-refused t s m i w u all l r row_l row_r fits feeds (wide_ins (tree t i) (rw counts-at at h))

            module _ (h : n.inputs ≤ 32) where
              pub seen_outs : 32 < n.outputs → Refuses t i (refused_at 8 i)
              seen_outs j = width-refused t s m i w u all l r row_l row_r fits feeds (wide_outs (tree t i) (rw counts-at at h) (rw counts-at at j))

              pub seen_right : n.outputs ≤ 32 → (refusal_at t i ≡ 0) × (n ≡ counts_of (tree t i))
              seen_right j =
                  (accepted t s m i w u all l r row_l row_r fits feeds (narrow_by (tree t i) (rw counts-at at h) (rw counts-at at j)), counts-at)

-- a node without children
no_children : (t : List ℕ) (i : ℕ) → kind_at t i ≤ 6 → children_free t i ≡ true
unfolding children_free
no_children t i h = rw (le-leb (kind_at t i) 6 h)

no_rule : (t : List ℕ) (i : ℕ) → kind_at t i ≤ 6 → rule_fits t i ≡ true
unfolding rule_fits
no_rule t i h = rule-other (kind_at t i) (tree t (first_at t i)) (tree t (second_at t i)) (λ l m. omega arith)

no_feedback : (t : List ℕ) (i : ℕ) → kind_at t i ≤ 6 → feeds_back t i ≡ true
unfolding feeds_back
no_feedback t i h = feedback-other (kind_at t i) (tree t (second_at t i)) (λ e. omega arith)

leaf-narrow : (i : ℕ) (p : Primitive) → narrow (leaf i p) ≡ true
unfolding ins outs
leaf-narrow i (number v) = refl
leaf-narrow i (control s) = refl
leaf-narrow i (operation o) = rw (le-leb (operands o) 32 (omega (arith, operands-most o)))
leaf-narrow i (delay d) = refl
leaf-narrow i cable = refl
leaf-narrow i cut = refl

pub named : (k : Kind) → known_kind (number_of k) ≡ true
named Number = refl
named Control = refl
named Operation = refl
named Delay = refl
named Cable = refl
named Cut = refl
named Sequence = refl
named Parallel = refl
named Split = refl
named Merge = refl
named Recursion = refl
named Ondemand = refl

-- refusal 4
pub unknown : (t : List ℕ) (i : ℕ) {k : ℕ} → k ≡ kind_at t i → known_kind k ≡ false → Refuses t i (refused_at 4 i)
unknown t i k e = refuses t i 4 (refusal t i false _ _ _ _ _ (rw k at e) refl refl refl refl refl) (λ z. omega arith)

-- refusal 5, and a node that passes without children
module _ {t : List ℕ} {i k a b : ℕ} (v : Read t i k a b) where
  -- x says whether the first field is in range, y the second
  module _ (known : known_kind k ≡ true) {x : Bool} (ex : x ≡ first_in_range k a) where
    kind-known : known_kind (kind_at t i) ≡ true
    kind-known = rw v.kind at known

    most : k ≤ 12
    most = leb-true k 12 (and_right (leb 1 k) (leb k 12) known)

    first-at : (z : Bool) → x ≡ z → first_in_range (kind_at t i) (first_at t i) ≡ z
    first-at z e = rw (v.kind, v.first) at (sym ex ∙ e)

    wrong : (first_in_range (kind_at t i) (first_at t i) && second_in_range (kind_at t i) (second_at t i)) ≡ false → Refuses t i (refused_at 5 i)
    wrong e = refuses t i 5 (refusal t i true false _ _ _ _ kind-known e refl refl refl refl) (λ z. omega arith)

    pub first_wrong : x ≡ false → Refuses t i (refused_at 5 i)
    first_wrong e = wrong (rw (first-at false e))

    module _ (e : x ≡ true) where
      first-right : first_in_range (kind_at t i) (first_at t i) ≡ true
      first-right = first-at true e

      module _ {y : Bool} (ey : y ≡ second_in_range k b) where
        second-at : (z : Bool) → y ≡ z → second_in_range (kind_at t i) (second_at t i) ≡ z
        second-at z f = rw (v.kind, v.second) at (sym ey ∙ f)

        pub second_wrong : y ≡ false → Refuses t i (refused_at 5 i)
        second_wrong f = wrong (rw (first-right, second-at false f))

        module _ (f : y ≡ true) where
          second-right : second_in_range (kind_at t i) (second_at t i) ≡ true
          second-right = second-at true f

          pub leaf-right : ((j : ℕ) → j < i → refusal_at t j ≡ 0) → k ≤ 6 → {n : Counts} → n ≡ counts_of (leaf 0 (primitive_of k a))
              → (refusal_at t i ≡ 0) × (n ≡ counts_of (tree t i))
          leaf-right w l {n} q = go (view_at t i w (children_of t i (no_children t i h)))
            where
              h : kind_at t i ≤ 6
              h = omega (arith, v.kind)

              go : View t i → (refusal_at t i ≡ 0) × (n ≡ counts_of (tree t i))
              go (two c d z) = absurd (omega arith)
              go (one c z) = absurd (omega arith)
              go (alone c z) = (
                refusal t i true true true true true true kind-known (rw (first-right, second-right)) (no_children t i h) (no_rule t i h) (no_feedback t i h)
                    (ap narrow z ∙ leaf-narrow i (primitive_of (kind_at t i) (first_at t i))),
                q ∙ rw (v.kind, v.first) (leaf_any i (primitive_of (kind_at t i) (first_at t i))) ∙ ap counts_of (sym z),
              )
