-- Refusal 6: what the tests say of a node's children.
use Prim.Native.Nat.{ℕ, zero, suc, ◌≤◌, ◌<◌}
use mathlib.Core.Path.{◌≡◌, sym, ap, ◌∙◌}
use mathlib.Core.Logic.{◌⊎◌, inl, inr}
use mathlib.Core.Bool.{Bool, true, not, ◌&&◌, ◌||◌, false≢true}
use mathlib.Core.List.{List}
use native.Mathlib.Omega.{arith}
use native.Mathlib.Decide.{dec_le, ℕ_discrete}
use lib.Dec.{eqb, leb, ltb}
use borrow.Author.Tests.{ltb-true, leb-true, eqb-false, eqb-true, not-true, le-leb, lt-leb, lt-ltb, eq-eqb, ne_eqb}
use Rattle.arity.specs.Table.{kind_at, first_at, second_at}
use Rattle.arity.specs.Check.{two_children, names, taken, free, children_free}
use Rattle.arity.specs.Formed.{Child, Free, Children}
use Rattle.arity.proofs.Tests.{and_left, and_right, and_both, or_cases, or_left, or_right, known-false}

abbrev left_test : List ℕ → ℕ → ℕ → Bool
left_test t j c = leb 7 (kind_at t j) && eqb (first_at t j) c

abbrev right_test : List ℕ → ℕ → ℕ → Bool
right_test t j c = two_children (kind_at t j) && eqb (second_at t j) c

names_child : (t : List ℕ) (j c : ℕ) → names t j c ≡ true → Child t j c
names_child t j c e = go (or_cases (left_test t j c) (right_test t j c) e)
  where
    go : (left_test t j c ≡ true) ⊎ (right_test t j c ≡ true) → Child t j c
    go (inl h) =
        inl (leb-true _ _ (and_left (leb 7 (kind_at t j)) (eqb (first_at t j) c) h), eqb-true _ _ (and_right (leb 7 (kind_at t j)) (eqb (first_at t j) c) h))
    go (inr h) =
        let g = and_left (two_children (kind_at t j)) (eqb (second_at t j) c) h in
        inr (
          leb-true _ _ (and_left (leb 7 (kind_at t j)) (leb (kind_at t j) 11) g),
          leb-true _ _ (and_right (leb 7 (kind_at t j)) (leb (kind_at t j) 11) g),
          eqb-true _ _ (and_right (two_children (kind_at t j)) (eqb (second_at t j) c) h),
        )

child_names : (t : List ℕ) (j c : ℕ) → Child t j c → names t j c ≡ true
child_names t j c (inl h) = or_left (left_test t j c) (right_test t j c) (rw (le-leb 7 (kind_at t j) h.0, eq-eqb (first_at t j) c h.1))
child_names t j c (inr h) =
    or_right (left_test t j c) (right_test t j c)
    (rw (le-leb 7 (kind_at t j) h.0, le-leb (kind_at t j) 11 h.1, eq-eqb (second_at t j) c h.2))

-- taken: by a node below
pub taken_child : (t : List ℕ) (i c : ℕ) → taken t i c ≡ true → (j : ℕ) × (j < i) × Child t j c
unfolding taken
taken_child t zero c e = absurd (false≢true e)
taken_child t (suc i) c e = go (or_cases (names t i c) (taken t i c) e) (taken_child t i c)
  where
    go : (names t i c ≡ true) ⊎ (taken t i c ≡ true) → (taken t i c ≡ true → (j : ℕ) × (j < i) × Child t j c) → (j : ℕ) × (j < suc i) × Child t j c
    go (inl h) f = (i, omega arith, names_child t i c h)
    go (inr h) f = let w = f h in (w.0, omega arith, w.2)

pub child_taken : (t : List ℕ) (i j c : ℕ) → j < i → Child t j c → taken t i c ≡ true
unfolding taken
child_taken t zero j c h k = absurd (omega arith)
child_taken t (suc i) j c h k = go (ℕ_discrete j i) (child_taken t i j c)
  where
    go : Dec (j ≡ i) → (j < i → Child t j c → taken t i c ≡ true) → (names t i c || taken t i c) ≡ true
    go (yes e) f = or_left (names t i c) (taken t i c) (child_names t i c (rw e at k))
    go (no n) f = or_right (names t i c) (taken t i c) (f (omega arith) k)

-- free: lower, and new
is_free : (t : List ℕ) (i c : ℕ) → free t i c ≡ true → Free t i c
is_free t i c e =
    record {
      lower = ltb-true c i (and_left (ltb c i) (not (taken t i c)) e);
      new = λ j h k. false≢true (sym (not-true (taken t i c) (and_right (ltb c i) (not (taken t i c)) e)) ∙ child_taken t i j c h k);
    }

free-is : (t : List ℕ) (i c : ℕ) → Free t i c → free t i c ≡ true
free-is t i c f =
    rw (lt-ltb c i f.lower, known-false (taken t i c) (λ e. let w = taken_child t i c e in f.new w.0 w.1 w.2))

pub children_of : (t : List ℕ) (i : ℕ) → children_free t i ≡ true → Children t i
unfolding children_free
children_of t i e = record {
  first = λ g. go_first g (dec_le (kind_at t i) 11);
  second = λ g h. is_free t i (second_at t i) (and_left b c (and_right a (b && c) (two g h)));
  apart = λ g h. eqb-false _ _ (not-true _ (and_right b c (and_right a (b && c) (two g h))));
}
  where
    a : Bool
    a = free t i (first_at t i)

    b : Bool
    b = free t i (second_at t i)

    c : Bool
    c = not (eqb (first_at t i) (second_at t i))

    two : 7 ≤ kind_at t i → kind_at t i ≤ 11 → (a && (b && c)) ≡ true
    two g h = rw (lt-leb (kind_at t i) 6 g, le-leb (kind_at t i) 11 h) at e

    go_first : 7 ≤ kind_at t i → Dec (kind_at t i ≤ 11) → Free t i (first_at t i)
    go_first g (yes h) = is_free t i (first_at t i) (and_left a (b && c) (two g h))
    go_first g (no h) = is_free t i (first_at t i) (rw (lt-leb (kind_at t i) 6 g, lt-leb (kind_at t i) 11 (omega arith)) at e)

pub of_children : (t : List ℕ) (i : ℕ) → Children t i → children_free t i ≡ true
unfolding children_free
of_children t i c = go (dec_le (kind_at t i) 6) (dec_le (kind_at t i) 11)
  where
    go : Dec (kind_at t i ≤ 6) → Dec (kind_at t i ≤ 11) → children_free t i ≡ true
    go (yes a) b = rw (le-leb (kind_at t i) 6 a)
    go (no a) (yes b) =
        rw (lt-leb (kind_at t i) 6 (omega arith), le-leb (kind_at t i) 11 b)
        (and_both (free t i (first_at t i)) _ (free-is t i _ (c.first (omega arith)))
        (and_both (free t i (second_at t i)) _ (free-is t i _ (c.second (omega arith) b)) (ap not (ne_eqb _ _ (c.apart (omega arith) b)))))
    go (no a) (no b) =
        rw (lt-leb (kind_at t i) 6 (omega arith), lt-leb (kind_at t i) 11 (omega arith)) (free-is t i _ (c.first (omega arith)))
