-- From one node to the next: its row is put, its children are marked, and the cells up to it are counted.
use Prim.Native.Nat.{ℕ, suc, ◌+◌, ◌*◌, ◌≤◌, ◌<◌}
use mathlib.Core.Path.{◌≡◌, refl, sym, ◌∙◌}
use mathlib.Core.Bool.{Bool, true, false, ◌&&◌, ◌||◌}
use mathlib.Core.List.{List}
use native.Mathlib.Omega.{arith}
use native.Mathlib.Decide.{dec_le, ℕ_discrete}
use lib.ListN.{length, get_or, set, length-set}
use lib.Seq.{get_or-set_same, get_or-set_other}
use lib.Dec.{eqb, leb}
use borrow.Author.Tests.{le-leb, lt-leb, eq-eqb, ne_eqb}
use Rattle.word.specs.Choice.{pick}
use Rattle.arity.specs.Tree.{size}
use Rattle.arity.specs.Table.{kind_at, first_at, second_at, nodes, tree}
use Rattle.arity.specs.Nodes.{sum_to}
use Rattle.arity.specs.Check.{taken, refusal_at, first_cell}
use Rattle.arity.specs.Survey.{row_of, row_at, put_row}
use Rattle.arity.specs.Steps.{counts_of, State, marking}
use Rattle.arity.specs.declared.counts.Counts.{Counts}
use Rattle.arity.specs.declared.rows.Row.{Row}
use Rattle.arity.proofs.Right.{right}
use Rattle.arity.proofs.Bounds.{cells-most}

-- numbers put at 4 * j and after it, read at another place and at each of their own
abbrev one : List ℕ → ℕ → ℕ → List ℕ
one s j a = set s (4 * j) a

abbrev two : List ℕ → (j a b : ℕ) → List ℕ
two s j a b = set (one s j a) (4 * j + 1) b

abbrev three : List ℕ → (j a b c : ℕ) → List ℕ
three s j a b c = set (two s j a b) (4 * j + 2) c

abbrev four : List ℕ → (j a b c d : ℕ) → List ℕ
four s j a b c d = set (three s j a b c) (4 * j + 3) d

module _ (s : List ℕ) (j a b c d : ℕ) where
  four_three : (x : ℕ) → (x ≡ 4 * j + 3 → ⊥) → get_or (four s j a b c d) x 0 ≡ get_or (three s j a b c) x 0
  four_three x n = get_or-set_other (three s j a b c) (4 * j + 3) x d 0 n

  four_two : (x : ℕ) → (x ≡ 4 * j + 3 → ⊥) → (x ≡ 4 * j + 2 → ⊥) → get_or (four s j a b c d) x 0 ≡ get_or (two s j a b) x 0
  four_two x n m = four_three x n ∙ get_or-set_other (two s j a b) (4 * j + 2) x c 0 m

  four_one : (x : ℕ) → (x ≡ 4 * j + 3 → ⊥) → (x ≡ 4 * j + 2 → ⊥) → (x ≡ 4 * j + 1 → ⊥) → get_or (four s j a b c d) x 0 ≡ get_or (one s j a) x 0
  four_one x n m l = four_two x n m ∙ get_or-set_other (one s j a) (4 * j + 1) x b 0 l

  four_none : (x k : ℕ) → (k ≡ j → ⊥) → 4 * k ≤ x → x < 4 * k + 4 → get_or (four s j a b c d) x 0 ≡ get_or s x 0
  four_none x k n g h =
      four_one x (λ e. omega (arith, n)) (λ e. omega (arith, n)) (λ e. omega (arith, n)) ∙ get_or-set_other s (4 * j) x a 0 (λ e. omega (arith, n))

abbrev row : (a b c d : ℕ) → Row
row a b c d = record { inputs = a; outputs = b; instructions = c; cell = d }

same_row : {a b c d a' b' c' d' : ℕ} → a ≡ a' → b ≡ b' → c ≡ c' → d ≡ d' → row a b c d ≡ row a' b' c' d'
same_row p q u v = rw (p, q, u, v)

module _ (s : List ℕ) (j : ℕ) (r : Row) where
  pub put-length : length (put_row s j r) ≡ length s
  put-length = simp length-set

  abbrev after : List ℕ
  after = put_row s j r

  pub row_other : (k : ℕ) → (k ≡ j → ⊥) → row_at after k ≡ row_at s k
  row_other k ne = same_row (none (4 * k) (omega arith) (omega arith)) (none (4 * k + 1) (omega arith) (omega arith)) (none (4 * k + 2) (omega arith) (omega arith)) (none (4 * k + 3) (omega arith) (omega arith))
    where
      none : (x : ℕ) → 4 * k ≤ x → x < 4 * k + 4 → get_or (put_row s j r) x 0 ≡ get_or s x 0
      none x g h = four_none s j r.inputs r.outputs r.instructions r.cell x k ne g h

  pub row_same : 4 * j + 4 ≤ length s → row_at after j ≡ r
  row_same h =
      let w = r.inputs in
      let x = r.outputs in
      let y = r.instructions in
      let z = r.cell in
      same_row
      (four_one s j w x y z (4 * j) (λ e. omega arith) (λ e. omega arith) (λ e. omega arith) ∙ get_or-set_same s (4 * j) w 0 (omega arith))
      (four_two s j w x y z (4 * j + 1) (λ e. omega arith) (λ e. omega arith) ∙ get_or-set_same (one s j w) (4 * j + 1) x 0 (simp length-set (omega arith)))
      (four_three s j w x y z (4 * j + 2) (λ e. omega arith) ∙ get_or-set_same (two s j w x) (4 * j + 2) y 0 (simp length-set (omega arith)))
      (get_or-set_same (three s j w x y) (4 * j + 3) z 0 (simp length-set (omega arith)))

-- what holds below i and of i, holds below suc i
pub one_more : (P : ℕ → Type 0) (i : ℕ) → ((j : ℕ) → j < i → P j) → P i → (j : ℕ) → j < suc i → P j
one_more P i f p j h = go (ℕ_discrete j i)
  where
    go : Dec (j ≡ i) → P j
    go (yes e) = rw e p
    go (no e) = f j (omega arith)

-- the marks of one more node
marking-length : (k a b : ℕ) (m : List Bool) → length (marking k a b m) ≡ length m
marking-length k a b m = go (leb k 6) (leb k 11)
  where
    go : (x y : Bool) → length (pick x m (pick y (set (set m a true) b true) (set m a true))) ≡ length m
    go true y = refl
    go false true = simp length-set
    go false false = simp length-set

set-one : (m : List Bool) (a c : ℕ) → a ≡ c → a < length m → get_or (set m a true) c false ≡ true
set-one m a c e h = rw (← e) (get_or-set_same m a true false h)

marking-at : (k a b c : ℕ) (m : List Bool) (x : Bool) → (7 ≤ k → a < length m) → (7 ≤ k → k ≤ 11 → b < length m) → get_or m c false ≡ x
    → get_or (marking k a b m) c false ≡ (((leb 7 k && eqb a c) || ((leb 7 k && leb k 11) && eqb b c)) || x)
marking-at k a b c m x p q e = go (dec_le k 6) (dec_le k 11) (ℕ_discrete a c) (ℕ_discrete b c)
  where
    go : Dec (k ≤ 6) → Dec (k ≤ 11) → Dec (a ≡ c) → Dec (b ≡ c)
        → get_or (marking k a b m) c false ≡ (((leb 7 k && eqb a c) || ((leb 7 k && leb k 11) && eqb b c)) || x)
    go (yes h) y u v = rw (le-leb k 6 h, lt-leb 7 k (omega arith)) e
    go (no h) (yes g) (yes u) (yes v) =
        let l : 7 ≤ k = omega arith in
        rw (lt-leb k 6 l, le-leb k 11 g, le-leb 7 k l, eq-eqb a c u) (set-one (set m a true) b c v (simp length-set (q l g)))
    go (no h) (yes g) (yes u) (no v) =
        let l : 7 ≤ k = omega arith in
        rw (lt-leb k 6 l, le-leb k 11 g, le-leb 7 k l, eq-eqb a c u) (get_or-set_other (set m a true) b c true false (λ w. v (sym w)) ∙ set-one m a c u (p l))
    go (no h) (yes g) (no u) (yes v) =
        let l : 7 ≤ k = omega arith in
        rw (lt-leb k 6 l, le-leb k 11 g, le-leb 7 k l, ne_eqb a c u, eq-eqb b c v) (set-one (set m a true) b c v (simp length-set (q l g)))
    go (no h) (yes g) (no u) (no v) =
        let l : 7 ≤ k = omega arith in
        rw (lt-leb k 6 l, le-leb k 11 g, le-leb 7 k l, ne_eqb a c u, ne_eqb b c v)
        (get_or-set_other (set m a true) b c true false (λ w. v (sym w)) ∙ get_or-set_other m a c true false (λ w. u (sym w)) ∙ e)
    go (no h) (no g) (yes u) v =
        let l : 7 ≤ k = omega arith in
        rw (lt-leb k 6 l, lt-leb k 11 (omega arith), le-leb 7 k l, eq-eqb a c u) (set-one m a c u (p l))
    go (no h) (no g) (no u) v =
        let l : 7 ≤ k = omega arith in
        rw (lt-leb k 6 l, lt-leb k 11 (omega arith), le-leb 7 k l, ne_eqb a c u) (get_or-set_other m a c true false (λ w. u (sym w)) ∙ e)

-- a node that is not refused
module _ {t s : List ℕ} {m : List Bool} {i : ℕ} (w : State t s m i) (h : i < nodes t) (e : refusal_at t i ≡ 0) where
  -- its children can be marked
  first-inside : 7 ≤ kind_at t i → first_at t i < 512
  first-inside l = omega (arith, ((right t i e).children.first l).lower, w.most)

  second-inside : 7 ≤ kind_at t i → kind_at t i ≤ 11 → second_at t i < 512
  second-inside l k = omega (arith, ((right t i e).children.second l k).lower, w.most)

  pub markable : {k a b : ℕ} → k ≡ kind_at t i → a ≡ first_at t i → b ≡ second_at t i → (7 ≤ k → a < 512) × (7 ≤ k → k ≤ 11 → b < 512)
  markable ek ea eb = (λ l. omega (arith, first-inside (rw ek at l)), λ l k. omega (arith, second-inside (rw ek at l) (rw ek at k)))

  -- and its cells counted
  cells-next : first_cell t (suc i) ≡ first_cell t i + size (tree t i)
  unfolding sum_to
  cells-next = refl

  pub cells_fit : {o : ℕ} {n : Counts} → o ≡ first_cell t i → n ≡ counts_of (tree t i) → o + n.cells ≤ 2097152
  cells_fit eo en =
      rw (eo, en) (omega (arith, cells-next, cells-most t (suc i) (one_more (λ j. refusal_at t j ≡ 0) i w.right e), w.most))

  state_next : State t (put_row s i (row_of t i)) (marking (kind_at t i) (first_at t i) (second_at t i) m) (suc i)
  unfolding taken
  state_next =
      record {
        most = w.most;
        room = put-length s i (row_of t i) ∙ w.room;
        long = marking-length (kind_at t i) (first_at t i) (second_at t i) m ∙ w.long;
        right = one_more (λ j. refusal_at t j ≡ 0) i w.right e;
        rows = one_more (λ j. row_at (put_row s i (row_of t i)) j ≡ row_of t j) i (λ j k. row_other s i (row_of t i) j (λ z. omega arith) ∙ w.rows j k) (row_same s i (row_of t i) (omega (arith, w.most, w.room)));
        marked = λ c k. marking-at (kind_at t i) (first_at t i) (second_at t i) c m (taken t i c) first second (w.marked c k);
      }
    where
      first : 7 ≤ kind_at t i → first_at t i < length m
      first l = omega (arith, first-inside l, w.long)

      second : 7 ≤ kind_at t i → kind_at t i ≤ 11 → second_at t i < length m
      second l k = omega (arith, second-inside l k, w.long)

  -- as the code does it: with the counts n, the first cell o, and the three fields as read
  pub next : (o : ℕ) (n : Counts) (k a b : ℕ) (s' : List ℕ) (m' : List Bool) → o ≡ first_cell t i → n ≡ counts_of (tree t i)
      → k ≡ kind_at t i → a ≡ first_at t i → b ≡ second_at t i → s' ≡ put_row s i (row n.inputs n.outputs n.instructions o) → m' ≡ marking k a b m
      → State t s' m' (suc i) × (o + n.cells ≡ first_cell t (suc i)) × (s' ≡ put_row s i (row_of t i))
  next o n k a b s' m' eo en ek ea eb es em =
      let q : s' ≡ put_row s i (row_of t i) = es ∙ rw (en, eo) in
      (rw (q, em, ek, ea, eb) state_next, rw (eo, en) (sym cells-next), q)
