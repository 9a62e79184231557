-- A table of the stated form is accepted exactly where the published rules count inputs and outputs of each of its nodes, none above 32, and each
-- recursion feeds something back.
use Prim.Native.Nat.{ℕ, suc, ◌≤◌, ◌<◌}
use mathlib.Core.Path.{◌≡◌, refl, sym, ◌∙◌}
use mathlib.Core.Bool.{Bool, true, false, false≢true}
use mathlib.Core.List.{List}
use native.Mathlib.Omega.{arith}
use native.Mathlib.Decide.{dec_le, dec_lt, ℕ_discrete}
use lib.Dec.{leb, eqb}
use borrow.Author.Tests.{leb-true, ltb-true, eqb-true, le-leb, le-ltb, lt-ltb, eq-eqb, ne_eqb}
use Rattle.word.specs.Choice.{pick}
use Rattle.word.specs.Operation.{operands}
use Rattle.refusal.specs.Answer.{refused_at}
use Rattle.arity.specs.Tree.{ins, outs}
use Rattle.arity.specs.Tree.Tree.{join}
use Rattle.arity.specs.Table.{kind_at, first_at, second_at, nodes, tree, composition_of}
use Rattle.arity.specs.WellFormed.{Ruled}
use Rattle.arity.specs.Check.{two_children, first_in_range, second_in_range, rule_fits, feeds_back, taken, refusal_at, loose, report, uneven, checked}
use Rattle.arity.specs.Formed.{Child, Children, Fields, Formed, Fitting, Attached, Begun}
use Rattle.arity.specs.Acceptance.{Acceptance, Accepted, LastDecides}
use Rattle.arity.proofs.Exact.{ruled}
use Rattle.arity.proofs.Tests.{and_left, and_right, known-false}
use Rattle.arity.proofs.ByKind.{Alone, alone_of, two_of, rule_of_lem, rule-other}
use Rattle.arity.proofs.ByKind.Alone.{k1, k2, k3, k4, k5, k6}
use Rattle.arity.proofs.Feedback.{feedback-other, feedback_of_lem}
use Rattle.arity.proofs.Taken.{taken_child, child_taken, of_children}
use Rattle.arity.proofs.Trees.{View, view}
use Rattle.arity.proofs.Trees.View.{alone, two, one}
use Rattle.arity.proofs.Right.{rights, kids}
use Rattle.arity.proofs.Fitting.{fitting}
use Rattle.arity.proofs.Loose.{none-loose}
use Rattle.arity.proofs.Walk.{Passed, has_passed, even, stops, passes}

-- the fields in range
first_in_range_lem : (k a b : ℕ) → 1 ≤ k → Fields k a b → first_in_range k a ≡ true
first_in_range_lem k a b l f = go (dec_le k 6)
  where
    small : (k : ℕ) → Alone k → Fields k a b → first_in_range k a ≡ true
    small k k1 f = refl
    small k k2 f = le-leb a 15 (f.control refl)
    small k k3 f = lt-ltb 0 (operands a) (f.operation refl)
    small k k4 f = le-leb a 4095 (f.delay refl)
    small k k5 f = eq-eqb a 0 (f.cable refl)
    small k k6 f = eq-eqb a 0 (f.cut refl)

    go : Dec (k ≤ 6) → first_in_range k a ≡ true
    go (yes h) = small k (alone_of k l h) f
    go (no h) =
        rw (
          ne_eqb k 2 (λ e. omega arith),
          ne_eqb k 3 (λ e. omega arith),
          ne_eqb k 4 (λ e. omega arith),
          ne_eqb k 5 (λ e. omega arith),
          ne_eqb k 6 (λ e. omega arith),
        )

second_in_range_lem : (k a b : ℕ) → Fields k a b → second_in_range k b ≡ true
second_in_range_lem k a b f = go (two_children k) refl
  where
    go : (x : Bool) → two_children k ≡ x → second_in_range k b ≡ true
    go true e = rw e
    go false e = rw e (eq-eqb b 0 (f.unused (λ l m. false≢true (sym e ∙ rw (le-leb 7 k l, le-leb k 11 m)))))

fields_of : (k a b : ℕ) → first_in_range k a ≡ true → second_in_range k b ≡ true → Fields k a b
fields_of k a b g h =
    record {
      control = λ z. leb-true a 15 (first 2 z);
      operation = λ z. ltb-true 0 (operands a) (first 3 z);
      delay = λ z. leb-true a 4095 (first 4 z);
      cable = λ z. eqb-true a 0 (first 5 z);
      cut = λ z. eqb-true a 0 (first 6 z);
      unused = λ n. eqb-true b 0 (rw (single n) at h);
    }
  where
    first : (j : ℕ) → k ≡ j → first_in_range j a ≡ true
    first j z = rw z at g

    single : (7 ≤ k → k ≤ 11 → ⊥) → two_children k ≡ false
    single n =
        known-false (two_children k)
        (λ q. n (leb-true _ _ (and_left (leb 7 k) (leb k 11) q)) (leb-true _ _ (and_right (leb 7 k) (leb k 11) q)))

-- the first n nodes of a table, of the stated form, fit: none is refused
module _ (t : List ℕ) (n : ℕ) (b : Begun t n) where
  rule-fits : (i : ℕ) → i < n → rule_fits t i ≡ true
  unfolding rule_fits Ruled
  rule-fits i h = go (view t n b.children i h)
    where
      go : View t i → rule_fits t i ≡ true
      go (alone l e) = rule-other (kind_at t i) (tree t (first_at t i)) (tree t (second_at t i)) (λ x y. omega arith)
      go (two l m e) =
          let u : Ruled (tree t i) = (ruled (b.fitting i h).0.2).0 in
          let v : Ruled (join i (composition_of (kind_at t i)) (tree t (first_at t i)) (tree t (second_at t i))) = rw e at u in
          rule_of_lem (kind_at t i) _ _ (two_of (kind_at t i) l m) v.2
      go (one l e) = rule-other (kind_at t i) (tree t (first_at t i)) (tree t (second_at t i)) (λ x y. omega arith)

  feeds_back_lem : (i : ℕ) → i < n → feeds_back t i ≡ true
  unfolding feeds_back
  feeds_back_lem i h = go (view t n b.children i h)
    where
      go : View t i → feeds_back t i ≡ true
      go (alone l e) = feedback-other (kind_at t i) (tree t (second_at t i)) (λ k. omega arith)
      go (two l m e) =
          let lower = ((b.children i h).second l m).lower in
          feedback_of_lem (kind_at t i) (tree t (second_at t i)) (b.fitting (second_at t i) (omega arith)).0.2
          (λ k. (b.fitting i h).1 i (tree t (first_at t i)) (tree t (second_at t i)) (rw k at e))
      go (one l e) = feedback-other (kind_at t i) (tree t (second_at t i)) (λ k. omega arith)

  not-refused : (i : ℕ) → i < n → refusal_at t i ≡ 0
  unfolding refusal_at
  not-refused i h =
      let r = ruled (b.fitting i h).0.2 in
      rw (
        le-leb 1 (kind_at t i) (b.kinds i h).0,
        le-leb (kind_at t i) 12 (b.kinds i h).1,
        first_in_range_lem (kind_at t i) (first_at t i) (second_at t i) (b.kinds i h).0 (b.fields i h),
        second_in_range_lem (kind_at t i) (first_at t i) (second_at t i) (b.fields i h),
        of_children t i (b.children i h),
        rule-fits i h,
        feeds_back_lem i h,
        le-leb (ins (tree t i)) 32 (rw r.1 at (b.fitting i h).0.3),
        le-leb (outs (tree t i)) 32 (rw r.2 at (b.fitting i h).0.4),
      )

-- a table in which each node but the last is a child: none is loose, so where no node is refused, the check reports its counts
module _ (t : List ℕ) (w : Attached t) where
  not-loose : (p : ℕ) → loose t p ≡ false
  not-loose p = go (dec_lt (suc p) (nodes t))
    where
      go : Dec (suc p < nodes t) → loose t p ≡ false
      go (yes h) = let a = w p h in rw (lt-ltb (suc p) (nodes t) h, child_taken t (nodes t) a.0 p a.1 a.2)
      go (no h) = rw (le-ltb (suc p) (nodes t) (omega arith))

  complete : uneven t ≡ false → nodes t ≤ 512 → ((i : ℕ) → i < nodes t → refusal_at t i ≡ 0) → checked t ≡ report t
  complete e m f = passes t e m f ∙ rw (none-loose t not-loose, le-ltb (nodes t) (nodes t) (omega arith))

-- where all nodes but the last fit, the last decides
pub last_decides : LastDecides
last_decides t n long few b w = go (ℕ_discrete (refusal_at t n) 0)
  where
    thirds : uneven t ≡ false
    thirds = even t (λ e. omega arith) (omega arith)

    all : refusal_at t n ≡ 0 → (i : ℕ) → i < nodes t → Dec (i < n) → refusal_at t i ≡ 0
    all z i h (yes l) = not-refused t n b i l
    all z i h (no l) = let q : i ≡ n = omega arith in rw q z

    go : Dec (refusal_at t n ≡ 0) → checked t ≡ pick (eqb (refusal_at t n) 0) (report t) (refused_at (refusal_at t n) n)
    go (yes z) = complete t (w z) thirds (omega arith) (λ i h. all z i h (dec_lt i n)) ∙ rw (eq-eqb (refusal_at t n) 0 z)
    go (no z) = stops t thirds (omega arith) n (omega arith) (not-refused t n b) z ∙ rw (ne_eqb (refusal_at t n) 0 z)

-- an accepted table is of the form
module _ (t : List ℕ) (x : Passed t) where
  kids_of : (i : ℕ) → i < nodes t → Children t i
  kids_of = kids t (nodes t) x.right

  attached : (j : ℕ) → suc j < nodes t → (y : Bool) → taken t (nodes t) j ≡ y → (q : ℕ) × (q < nodes t) × Child t q j
  attached j h true z = taken_child t (nodes t) j z
  attached j h false z = absurd (false≢true (sym (x.tight j) ∙ rw (lt-ltb (suc j) (nodes t) h, z)))

  pub formed : Formed t
  formed =
      record {
        whole = x.whole;
        least = x.least;
        most = x.most;
        kinds = λ i h. ((rights t (nodes t) x.right i h).least, (rights t (nodes t) x.right i h).most);
        fields = λ i h. fields_of _ _ _ (rights t (nodes t) x.right i h).first (rights t (nodes t) x.right i h).second;
        children = kids_of;
        attached = λ j h. attached j h (taken t (nodes t) j) refl;
      }

-- exactly the tables of the stated form are accepted whose nodes fit
begun : (t : List ℕ) → Formed t → Fitting t → Begun t (nodes t)
begun t f w = record { kinds = f.kinds; fields = f.fields; children = f.children; fitting = w }

accepts : (t : List ℕ) → Formed t → Fitting t → checked t ≡ report t
accepts t f w =
    let l = f.least in
    let q = f.whole in
    complete t f.attached (even t (λ e. omega arith) (omega arith)) f.most (not-refused t (nodes t) (begun t f w))

pub accepted : Accepted
accepted t = (
  λ (ks, e). let x = (has_passed t ks e).0 in (formed t x, fitting t (nodes t) x.right),
  λ (f, w). (_, accepts t f w),
)

-- so a table of the form is accepted exactly where each of its nodes does
pub acceptance : Acceptance
acceptance t f = (λ h. ((accepted t).0 h).1, λ w. (accepted t).1 (f, w))
