-- How large the counts of a table's nodes are: a tree has no more nodes than there are numbers, and no node adds much.
use Prim.Native.Nat.{ℕ, zero, suc, ◌+◌, ◌*◌, ◌≤◌, ◌<◌}
use mathlib.Core.Path.{◌≡◌, refl, sym}
use mathlib.Core.Logic.{inl, inr}
use mathlib.Core.Bool.{Bool, true, false}
use mathlib.Core.List.{List}
use native.Mathlib.Omega.{arith}
use native.Mathlib.Decide.{ℕ_discrete}
use lib.Dec.{eqb}
use borrow.Author.Tests.{leb-true, eqb-true, eq-eqb, ne_eqb}
use Rattle.word.specs.Choice.{pick, bit}
use Rattle.arity.specs.Tree.{Tree, Primitive, ins, outs, size, need}
use Rattle.arity.specs.Tree.Tree.{leaf, join, ondemand}
use Rattle.arity.specs.Tree.Primitive.{number, control, operation, delay, cable, cut}
use Rattle.arity.specs.Table.{kind_at, first_at, second_at, tree, primitive_of, composition_of}
use Rattle.arity.specs.Nodes.{Numbered, Distinct, has, sum_to}
use Rattle.arity.specs.Check.{first_in_range, refusal_at, cells_of, first_cell}
use Rattle.arity.specs.Formed.{Child}
use Rattle.arity.proofs.Paths.{number-has}
use Rattle.arity.proofs.ByKind.{Alone, alone_of, Two, two_of}
use Rattle.arity.proofs.ByKind.Alone.{k1, k2, k3, k4, k5, k6}
use Rattle.arity.proofs.ByKind.Two.{k7, k8, k9, k10, k11}
use Rattle.arity.proofs.Trees.{View, view}
use Rattle.arity.proofs.Trees.View.{alone, two, one}
use Rattle.arity.proofs.Right.{rights, kids}
use Rattle.arity.proofs.Once.{lower, nodewise, below, distinct}

-- sums
pub sum_bound : (f : ℕ → ℕ) (b n : ℕ) → ((j : ℕ) → j < n → f j ≤ b) → sum_to f n ≤ n * b
unfolding sum_to
sum_bound f b zero h = omega arith
sum_bound f b (suc n) h = let l = sum_bound f b n (λ j k. h j (omega arith)) in omega (arith, h n (omega arith))

sum-none : (i n : ℕ) → n ≤ i → sum_to (λ j. bit (eqb i j)) n ≡ 0
unfolding sum_to
sum-none i zero h = refl
sum-none i (suc n) h = rw (ne_eqb i n (λ e. omega arith)) (omega (arith, sum-none i n (omega arith)))

sum_one : (i n : ℕ) → i < n → sum_to (λ j. bit (eqb i j)) n ≡ 1
unfolding sum_to
sum_one i zero h = absurd (omega arith)
sum_one i (suc n) h = go (ℕ_discrete i n) (sum_one i n)
  where
    go : Dec (i ≡ n) → (i < n → sum_to (λ j. bit (eqb i j)) n ≡ 1) → sum_to (λ j. bit (eqb i j)) n + bit (eqb i n) ≡ 1
    go (yes e) ih = rw (eq-eqb i n e) (omega (arith, sum-none i n (omega arith)))
    go (no e) ih = rw (ne_eqb i n e) (omega (arith, ih (omega arith)))

either : (a b : Bool) → (a ≡ true → b ≡ true → ⊥) → bit (pick a true b) ≡ bit a + bit b
either true true h = absurd (h refl refl)
either true false h = refl
either false true h = refl
either false false h = refl

sum_either : (a b : ℕ → Bool) (n : ℕ) → ((j : ℕ) → a j ≡ true → b j ≡ true → ⊥)
    → sum_to (λ j. bit (pick (a j) true (b j))) n ≡ sum_to (λ j. bit (a j)) n + sum_to (λ j. bit (b j)) n
unfolding sum_to
sum_either a b zero h = refl
sum_either a b (suc n) h = omega (arith, sum_either a b n h, either (a n) (b n) (h n))

-- how many nodes a tree has
unfoldable pub count : Tree → ℕ
count (leaf i p) = 1
count (join i c l r) = suc (count l + count r)
count (ondemand i b) = suc (count b)

-- no more than there are numbers
counted : (n : ℕ) (x : Tree) → Distinct x → ((j : ℕ) → Numbered x j → j < n) → count x ≡ sum_to (λ j. bit (has x j)) n
unfolding Distinct Numbered has count
counted n (leaf i p) d h = sym (sum_one i n (h i refl))
counted n (join i c l r) d h =
    let a = counted n l d.0 (λ j m. h j (inr (inl m))) in
    let b = counted n r d.1 (λ j m. h j (inr (inr m))) in
    let u = sum_either (has l) (has r) n (λ j p q. d.4 j (number-has l j p) (number-has r j q)) in
    let v = sum_either (λ (j : ℕ). eqb i j) (λ (j : ℕ). pick (has l j) true (has r j)) n (λ j p q. off j p (has l j) refl q) in
    omega (arith, sum_one i n (h i (inl refl)))
  where
    off : (j : ℕ) → eqb i j ≡ true → (b : Bool) → has l j ≡ b → pick b true (has r j) ≡ true → ⊥
    off j e true p q = d.2 (rw (eqb-true i j e) (number-has l j p))
    off j e false p q = d.3 (rw (eqb-true i j e) (number-has r j q))
counted n (ondemand i b) d h =
    let a = counted n b d.0 (λ j m. h j (inr m)) in
    let v = sum_either (λ (j : ℕ). eqb i j) (has b) n (λ j p q. d.1 (rw (eqb-true i j p) (number-has b j q))) in
    omega (arith, sum_one i n (h i (inl refl)))

count_most : (n : ℕ) (x : Tree) → Distinct x → ((j : ℕ) → Numbered x j → j < n) → count x ≤ n
count_most n x d h = omega (arith, counted n x d h, sum_bound (λ j. bit (has x j)) 1 n (λ j k. small (has x j)))
  where
    small : (b : Bool) → bit b ≤ 1
    small true = omega arith
    small false = omega arith

-- what a node adds, by kind
leaf-need : (i : ℕ) (p : Primitive) → need (leaf i p) ≤ 65
unfolding need
leaf-need i (number v) = omega arith
leaf-need i (control s) = omega arith
leaf-need i (operation o) = omega arith
leaf-need i (delay d) = omega arith
leaf-need i cable = omega arith
leaf-need i cut = omega arith

join-need : (i k : ℕ) (l r : Tree) → Two k → outs l ≤ 32 → ins r ≤ 32 → need (join i (composition_of k) l r) ≤ need l + need r + 65
unfolding need
join-need i k l r k7 a b = omega arith
join-need i k l r k8 a b = omega arith
join-need i k l r k9 a b = omega arith
join-need i k l r k10 a b = omega arith
join-need i k l r k11 a b = omega arith

pub leaf-size : (i k a : ℕ) → Alone k → (k ≡ 4 → a ≤ 4095) → size (leaf i (primitive_of k a)) ≤ 4096
unfolding size
leaf-size i k a k1 e = omega arith
leaf-size i k a k2 e = omega arith
leaf-size i k a k3 e = omega arith
leaf-size i k a k4 e = omega (arith, e refl)
leaf-size i k a k5 e = omega arith
leaf-size i k a k6 e = omega arith

short_delay : (k a : ℕ) → first_in_range k a ≡ true → k ≡ 4 → a ≤ 4095
short_delay k a e f = leb-true a 4095 (rw f at e)

pub join-size : (i k : ℕ) (l r : Tree) → Two k → ins r ≤ 32 → size (join i (composition_of k) l r) ≤ 4096
unfolding size
join-size i k l r k7 b = omega arith
join-size i k l r k8 b = omega arith
join-size i k l r k9 b = omega arith
join-size i k l r k10 b = omega arith
join-size i k l r k11 b = omega arith

-- n nodes of a table without refusal
module _ (t : List ℕ) (n : ℕ) (passes : (j : ℕ) → j < n → refusal_at t j ≡ 0) where
  size-most : (j : ℕ) → j < n → cells_of t j ≤ 4096
  unfolding size
  size-most j h = go (view t n (kids t n passes) j h)
    where
      go : View t j → size (tree t j) ≤ 4096
      go (alone a e) = rw e (leaf-size j (kind_at t j) (first_at t j) (alone_of _ (rights t n passes j h).least a) (short_delay _ _ (rights t n passes j h).first))
      go (two a b e) =
          let v = lower t n (kids t n passes) j (second_at t j) h (inr (a, b, refl)) in
          rw e (join-size j (kind_at t j) (tree t (first_at t j)) (tree t (second_at t j)) (two_of _ a b) (rights t n passes (second_at t j) (omega arith)).inputs)
      go (one a e) =
          let u = lower t n (kids t n passes) j (first_at t j) h (inl (omega arith, refl)) in
          rw e (omega (arith, (rights t n passes (first_at t j) (omega arith)).outputs))

  pub cells-most : first_cell t n ≤ n * 4096
  cells-most = sum_bound (cells_of t) 4096 n size-most

  light : (j : ℕ) → j < n → need (tree t j) ≤ 65 * count (tree t j)
  unfolding count need
  light = nodewise t n (kids t n passes) (λ j. need (tree t j) ≤ 65 * count (tree t j)) (λ j h kid. step j h kid (view t n (kids t n passes) j h))
    where
      step : (j : ℕ) → j < n → ((c : ℕ) → Child t j c → need (tree t c) ≤ 65 * count (tree t c)) → View t j → need (tree t j) ≤ 65 * count (tree t j)
      step j h kid (alone a e) = rw e (leaf-need j (primitive_of (kind_at t j) (first_at t j)))
      step j h kid (two a b e) =
          let u = lower t n (kids t n passes) j (first_at t j) h (inl (a, refl)) in
          let v = lower t n (kids t n passes) j (second_at t j) h (inr (a, b, refl)) in
          let p = (rights t n passes (first_at t j) (omega arith)).outputs in
          let q = (rights t n passes (second_at t j) (omega arith)).inputs in
          rw e
          (omega (arith, join-need j (kind_at t j) (tree t (first_at t j)) (tree t (second_at t j)) (two_of _ a b) p q, kid _ (inl (a, refl)), kid _ (inr (a, b, refl))))
      step j h kid (one a e) =
          let k : Child t j (first_at t j) = inl (omega arith, refl) in
          let u = lower t n (kids t n passes) j (first_at t j) h k in
          let p = (rights t n passes (first_at t j) (omega arith)).outputs in
          rw e (omega (arith, kid _ k))

  pub need-most : (j : ℕ) → j < n → need (tree t j) ≤ 65 * n
  need-most j h =
      omega (arith, light j h, count_most n (tree t j) (distinct t n (kids t n passes) j h) (λ k m. omega (arith, below t n (kids t n passes) j h k m)))
