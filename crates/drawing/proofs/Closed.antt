-- Two tables and one node more: the fields of each node.
use Prim.Native.Nat.{ℕ, zero, suc, ◌+◌, ◌-◌, ◌*◌, ◌≤◌, ◌<◌}
use mathlib.Core.Path.{◌≡◌, refl, sym, ap, ap₂, ◌∙◌, subst}
use mathlib.Core.Bool.{Bool, true, false}
use mathlib.Core.List.{List, [], ◌∷◌}
use native.Mathlib.Omega.{arith}
use native.Mathlib.Decide.{dec_lt, dec_le}
use lib.Dec.{leb}
use lib.ListN.{length, get_or, length-append, get_or-append}
use lib.Seq.{get_or-append-add}
use borrow.Author.Tests.{le-leb, lt-leb}
use Rattle.word.specs.Choice.{pick}
use Rattle.arity.specs.Table.{kind_at, first_at, second_at, nodes}
use Rattle.arity.specs.Check.{two_children}
use Rattle.drawing.specs.Numbering.{moved, closed}
use Rattle.drawing.proofs.Placed.{Rows, Placed}

-- a moved table
pub moved_length : (n : ℕ) (u : List ℕ) → length (moved n u) ≡ length u
unfolding moved
moved_length n [] = refl
moved_length n (k ∷ []) = refl
moved_length n (k ∷ a ∷ []) = refl
moved_length n (k ∷ a ∷ b ∷ u) = ap (λ (x : ℕ). suc (suc (suc x))) (moved_length n u)

three : (j x : ℕ) → 3 * suc j + x ≡ suc (suc (suc (3 * j + x)))
three j x = omega arith

moved-kind : (n : ℕ) (u : List ℕ) (j : ℕ) → 3 * j + 3 ≤ length u → kind_at (moved n u) j ≡ kind_at u j
unfolding moved
moved-kind n [] j h = absurd (omega arith)
moved-kind n (k ∷ []) j h = absurd (omega arith)
moved-kind n (k ∷ a ∷ []) j h = absurd (omega arith)
moved-kind n (k ∷ a ∷ b ∷ u) zero h = refl
moved-kind n (k ∷ a ∷ b ∷ u) (suc j) h = rw (three j 0) (moved-kind n u j (omega arith))

moved-first : (n : ℕ) (u : List ℕ) (j : ℕ) → 3 * j + 3 ≤ length u → first_at (moved n u) j ≡ pick (leb 7 (kind_at u j)) (n + first_at u j) (first_at u j)
unfolding moved
moved-first n [] j h = absurd (omega arith)
moved-first n (k ∷ []) j h = absurd (omega arith)
moved-first n (k ∷ a ∷ []) j h = absurd (omega arith)
moved-first n (k ∷ a ∷ b ∷ u) zero h = refl
moved-first n (k ∷ a ∷ b ∷ u) (suc j) h = rw (three j 0, three j 1) (moved-first n u j (omega arith))

moved-second : (n : ℕ) (u : List ℕ) (j : ℕ) → 3 * j + 3 ≤ length u → second_at (moved n u) j ≡ pick (two_children (kind_at u j)) (n + second_at u j) (second_at u j)
unfolding moved
moved-second n [] j h = absurd (omega arith)
moved-second n (k ∷ []) j h = absurd (omega arith)
moved-second n (k ∷ a ∷ []) j h = absurd (omega arith)
moved-second n (k ∷ a ∷ b ∷ u) zero h = refl
moved-second n (k ∷ a ∷ b ∷ u) (suc j) h = rw (three j 0, three j 2) (moved-second n u j (omega arith))

-- moved on by nothing
pub moved_none : (u : List ℕ) → moved 0 u ≡ u
unfolding moved
moved_none [] = refl
moved_none (k ∷ []) = refl
moved_none (k ∷ x ∷ []) = refl
moved_none (k ∷ x ∷ y ∷ u) = rw (moved_none u) (ap₂ (λ (p q : ℕ). k ∷ p ∷ q ∷ u) (still (leb 7 k) x) (still (two_children k) y))
  where
    still : (d : Bool) (z : ℕ) → pick d (0 + z) z ≡ z
    still true z = omega arith
    still false z = refl

pub two-children : (k : ℕ) → 7 ≤ k → k ≤ 11 → two_children k ≡ true
two-children k l m = rw (le-leb 7 k l, le-leb k 11 m)

pub not-two : (k : ℕ) → (7 ≤ k → k ≤ 11 → ⊥) → two_children k ≡ false
not-two k n = go (dec_le 7 k) (dec_le k 11)
  where
    go : Dec (7 ≤ k) → Dec (k ≤ 11) → two_children k ≡ false
    go (yes a) (yes b) = absurd (n a b)
    go (yes a) (no b) = rw (le-leb 7 k a, lt-leb k 11 (omega arith))
    go (no a) b = rw (lt-leb 7 k (omega arith))

module _ (t u : List ℕ) (k f s : ℕ) (a : Rows t) (b : Rows u) where
  pub closed-length : length (closed t u k f s) ≡ 3 * (nodes t + nodes u) + 3
  unfolding closed
  closed-length = simp (length-append, moved_length) (omega (arith, a.whole, b.whole))

  pub closed-nodes : nodes (closed t u k f s) ≡ nodes t + nodes u + 1
  closed-nodes = omega (arith, closed-length)

  -- a number of the first, of the second, of the last node
  first-at : (i x : ℕ) → i < nodes t → x < 3 → get_or (closed t u k f s) (3 * i + x) 0 ≡ get_or t (3 * i + x) 0
  unfolding closed
  first-at i x h l = get_or-append t _ 0 (3 * i + x) (omega (arith, a.whole))

  second-at : (j x : ℕ) → j < nodes u → x < 3 → get_or (closed t u k f s) (3 * (nodes t + j) + x) 0 ≡ get_or (moved (nodes t) u) (3 * j + x) 0
  unfolding closed
  second-at j x h l =
      let z : 3 * (nodes t + j) + x ≡ length t + (3 * j + x) = omega (arith, a.whole) in
      ap (λ (y : ℕ). get_or (closed t u k f s) y 0) z
      ∙ get_or-append-add t _ (3 * j + x) 0
      ∙ get_or-append (moved (nodes t) u) _ 0 (3 * j + x) (omega (arith, b.whole, moved_length (nodes t) u))

  last-at : (x : ℕ) → get_or (closed t u k f s) (3 * (nodes t + nodes u) + x) 0 ≡ get_or (k ∷ f ∷ s ∷ []) x 0
  unfolding closed
  last-at x =
      let z : 3 * (nodes t + nodes u) + x ≡ length t + (length (moved (nodes t) u) + x) = omega (arith, a.whole, b.whole, moved_length (nodes t) u) in
      ap (λ (y : ℕ). get_or (closed t u k f s) y 0) z
      ∙ get_or-append-add t _ (length (moved (nodes t) u) + x) 0
      ∙ get_or-append-add (moved (nodes t) u) _ x 0

  pub last-kind : kind_at (closed t u k f s) (nodes t + nodes u) ≡ k
  last-kind = last-at 0

  pub last-first : first_at (closed t u k f s) (nodes t + nodes u) ≡ f
  last-first = last-at 1

  pub last-second : second_at (closed t u k f s) (nodes t + nodes u) ≡ s
  last-second = last-at 2

  pub first_placed : Placed 0 t (closed t u k f s)
  first_placed =
      record {
        kind = λ i h. at i 0 h (omega arith);
        value = λ i h l. at i 1 h (omega arith);
        first = λ i h l. at i 1 h (omega arith) ∙ sym (zero-add (first_at t i));
        second = λ i h l m. at i 2 h (omega arith) ∙ sym (zero-add (second_at t i));
        unused = λ i h n. at i 2 h (omega arith);
      }
    where
      zero-add : (i : ℕ) → 0 + i ≡ i
      zero-add i = omega arith

      at : (i x : ℕ) → i < nodes t → x < 3 → get_or (closed t u k f s) (3 * (0 + i) + x) 0 ≡ get_or t (3 * i + x) 0
      at i x h l = rw (zero-add i) (first-at i x h l)

  pub second_placed : Placed (nodes t) u (closed t u k f s)
  second_placed =
      record {
        kind = λ j h. second-at j 0 h (omega arith) ∙ moved-kind (nodes t) u j (inside j h);
        value = λ j h l. second-at j 1 h (omega arith) ∙ moved-first (nodes t) u j (inside j h) ∙ rw (lt-leb 7 (kind_at u j) (omega arith));
        first = λ j h l. second-at j 1 h (omega arith) ∙ moved-first (nodes t) u j (inside j h) ∙ rw (le-leb 7 (kind_at u j) l);
        second = λ j h l m. second-at j 2 h (omega arith) ∙ moved-second (nodes t) u j (inside j h) ∙ rw (two-children (kind_at u j) l m);
        unused = λ j h n. second-at j 2 h (omega arith) ∙ moved-second (nodes t) u j (inside j h) ∙ rw (not-two (kind_at u j) n);
      }
    where
      inside : (j : ℕ) → j < nodes u → 3 * j + 3 ≤ length u
      inside j h = omega (arith, b.whole)

  -- what holds of the nodes of both holds of all but the last
  pub both : (P : ℕ → Type 0) → ((i : ℕ) → i < nodes t → P (0 + i)) → ((j : ℕ) → j < nodes u → P (nodes t + j)) → (i : ℕ) → i < nodes t + nodes u → P i
  both P p q i h = go (dec_lt i (nodes t))
    where
      go : Dec (i < nodes t) → P i
      go (yes l) = let z : 0 + i ≡ i = omega arith in subst P z (p i l)
      go (no l) = let z : nodes t + (i - nodes t) ≡ i = omega arith in subst P z (q (i - nodes t) (omega arith))
