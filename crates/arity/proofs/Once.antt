-- Where children are lower and taken once, each node of a table is in the tree of the last once.
use Prim.Native.Nat.{ℕ, zero, suc, ◌+◌, ◌≤◌, ◌<◌}
use mathlib.Core.Path.{◌≡◌, refl, sym, ap}
use mathlib.Core.Logic.{◌⊎◌, inl, inr}
use mathlib.Core.List.{List}
use native.Mathlib.Omega.{arith}
use native.Mathlib.Decide.{dec_lt}
use Rattle.arity.specs.Tree.{Tree, size}
use Rattle.arity.specs.Table.{kind_at, first_at, second_at, tree}
use Rattle.arity.specs.Nodes.{Numbered, Distinct, Sized}
use Rattle.arity.specs.Check.{cells_of}
use Rattle.arity.specs.Formed.{Child, Children}
use Rattle.arity.proofs.Trees.{View, view, strong}
use Rattle.arity.proofs.Trees.View.{alone, two, one}

-- j has its parent in the tree of i
abbrev Parent : List ℕ → ℕ → ℕ → Type 0
Parent t i j = (p : ℕ) × (p ≤ i) × Child t p j × Numbered (tree t i) p

module _ (t : List ℕ) (n : ℕ) (children : (i : ℕ) → i < n → Children t i) where
  -- a child is lower, and is the child of one node only
  pub lower : (i c : ℕ) → i < n → Child t i c → c < i
  lower i c h (inl k) = let w = ((children i h).first k.0).lower in omega (arith, k.1)
  lower i c h (inr k) = let w = ((children i h).second k.0 k.1).lower in omega (arith, k.2)

  new : (i j c : ℕ) → i < n → j < i → Child t i c → Child t j c → ⊥
  new i j c h g (inl k) q = ((children i h).first k.0).new j g (rw k.1 q)
  new i j c h g (inr k) q = ((children i h).second k.0 k.1).new j g (rw k.2 q)

  unique : (i j c : ℕ) → i < n → j < n → Child t i c → Child t j c → i ≡ j
  unique i j c h g p q = go (dec_lt i j) (dec_lt j i)
    where
      go : Dec (i < j) → Dec (j < i) → i ≡ j
      go (yes a) b = absurd (new j i c g a q p)
      go (no a) (yes b) = absurd (new i j c h b p q)
      go (no a) (no b) = omega arith

  -- what holds of a node where it holds of its children, holds of all
  pub nodewise : (P : ℕ → Type 0) → ((i : ℕ) → i < n → ((c : ℕ) → Child t i c → P c) → P i) → (i : ℕ) → i < n → P i
  nodewise P f = strong (λ i. i < n → P i) (λ i ih h. f i h (λ c k. let l = lower i c h k in ih c l (omega arith)))

  -- the numbers in a node's tree: its own, and those of its children's trees
  self : (i : ℕ) → i < n → Numbered (tree t i) i
  unfolding Numbered
  self i h = go (view t n children i h)
    where
      go : View t i → Numbered (tree t i) i
      go (alone a e) = rw e refl
      go (two a b e) = rw e (inl refl)
      go (one a e) = rw e (inl refl)

  inside : (i c j : ℕ) → i < n → Child t i c → Numbered (tree t c) j → Numbered (tree t i) j
  unfolding Numbered
  inside i c j h k m = go (view t n children i h) k
    where
      go : View t i → Child t i c → Numbered (tree t i) j
      go (alone a e) (inl q) = absurd (omega (arith, q.0))
      go (alone a e) (inr q) = absurd (omega (arith, q.0))
      go (two a b e) (inl q) = rw e (inr (inl (rw q.1 m)))
      go (two a b e) (inr q) = rw e (inr (inr (rw q.2 m)))
      go (one a e) (inl q) = rw e (inr (rw q.1 m))
      go (one a e) (inr q) = absurd (omega (arith, q.1))

  -- what is in a tree is its root or in a child's tree
  cases : (i j : ℕ) → i < n → Numbered (tree t i) j → (i ≡ j) ⊎ ((c : ℕ) × Child t i c × Numbered (tree t c) j)
  unfolding Numbered
  cases i j h m = go (view t n children i h)
    where
      pass : (l r : Tree) → (Numbered l j → (c : ℕ) × Child t i c × Numbered (tree t c) j) → (Numbered r j → (c : ℕ) × Child t i c × Numbered (tree t c) j)
          → (i ≡ j) ⊎ (Numbered l j ⊎ Numbered r j) → (i ≡ j) ⊎ ((c : ℕ) × Child t i c × Numbered (tree t c) j)
      pass l r f g (inl e) = inl e
      pass l r f g (inr (inl u)) = inr (f u)
      pass l r f g (inr (inr u)) = inr (g u)

      pass_one : (i ≡ j) ⊎ Numbered (tree t (first_at t i)) j → 12 ≤ kind_at t i → (i ≡ j) ⊎ ((c : ℕ) × Child t i c × Numbered (tree t c) j)
      pass_one (inl e) a = inl e
      pass_one (inr u) a = inr (first_at t i, inl (omega arith, refl), u)

      go : View t i → (i ≡ j) ⊎ ((c : ℕ) × Child t i c × Numbered (tree t c) j)
      go (alone a e) = inl (rw e at m)
      go (two a b e) = pass (tree t (first_at t i)) (tree t (second_at t i)) (λ u. (first_at t i, inl (a, refl), u)) (λ u. (second_at t i, inr (a, b, refl), u)) (rw e at m)
      go (one a e) = pass_one (rw e at m) a

  pub below : (i : ℕ) → i < n → (j : ℕ) → Numbered (tree t i) j → j ≤ i
  below = nodewise (λ i. (j : ℕ) → Numbered (tree t i) j → j ≤ i) step
    where
      step : (i : ℕ) → i < n → ((c : ℕ) → Child t i c → (j : ℕ) → Numbered (tree t c) j → j ≤ c) → (j : ℕ) → Numbered (tree t i) j → j ≤ i
      step i h ih j m = go (cases i j h m)
        where
          go : (i ≡ j) ⊎ ((c : ℕ) × Child t i c × Numbered (tree t c) j) → j ≤ i
          go (inl e) = omega arith
          go (inr w) = omega (arith, lower i w.0 h w.1, ih w.0 w.1 j w.2)

  -- a node in a tree is the root or has its parent there
  parent : (i : ℕ) → i < n → (j : ℕ) → Numbered (tree t i) j → (i ≡ j) ⊎ Parent t i j
  parent = nodewise (λ i. (j : ℕ) → Numbered (tree t i) j → (i ≡ j) ⊎ Parent t i j) step
    where
      step : (i : ℕ) → i < n → ((c : ℕ) → Child t i c → (j : ℕ) → Numbered (tree t c) j → (c ≡ j) ⊎ Parent t c j) → (j : ℕ) → Numbered (tree t i) j → (i ≡ j) ⊎ Parent t i j
      step i h ih j m = go (cases i j h m)
        where
          up : (c : ℕ) → Child t i c → (c ≡ j) ⊎ Parent t c j → (i ≡ j) ⊎ Parent t i j
          up c k (inl e) = inr (i, omega arith, rw e at k, self i h)
          up c k (inr w) = let l = lower i c h k in inr (w.0, omega arith, w.2, inside i c w.0 h k w.3)

          go : (i ≡ j) ⊎ ((c : ℕ) × Child t i c × Numbered (tree t c) j) → (i ≡ j) ⊎ Parent t i j
          go (inl e) = inl e
          go (inr w) = up w.0 w.1 (ih w.0 w.1 j w.2)

  -- the children of a node in a tree are in it too
  down : (i : ℕ) → i < n → (p c : ℕ) → Numbered (tree t i) p → Child t p c → Numbered (tree t i) c
  down = nodewise (λ i. (p c : ℕ) → Numbered (tree t i) p → Child t p c → Numbered (tree t i) c) step
    where
      step : (i : ℕ) → i < n → ((d : ℕ) → Child t i d → (p c : ℕ) → Numbered (tree t d) p → Child t p c → Numbered (tree t d) c)
          → (p c : ℕ) → Numbered (tree t i) p → Child t p c → Numbered (tree t i) c
      step i h ih p c m k = go (cases i p h m)
        where
          go : (i ≡ p) ⊎ ((d : ℕ) × Child t i d × Numbered (tree t d) p) → Numbered (tree t i) c
          go (inl e) =
              let q : Child t i c = rw e k in
              let l = lower i c h q in
              inside i c c h q (self c (omega arith))
          go (inr w) = inside i w.0 c h w.1 (ih w.0 w.1 p c w.2 k)

  -- of two trees with a node in common one has the other's root
  chain : (fuel a b j : ℕ) → n ≤ j + fuel → a < n → b < n → Numbered (tree t a) j → Numbered (tree t b) j → Numbered (tree t b) a ⊎ Numbered (tree t a) b
  chain zero a b j f h g p q = absurd (omega (arith, below a h j p))
  chain (suc fuel) a b j f h g p q = go (parent a h j p) (parent b g j q) (chain fuel a b)
    where
      go : (a ≡ j) ⊎ Parent t a j → (b ≡ j) ⊎ Parent t b j
          → ((i : ℕ) → n ≤ i + fuel → a < n → b < n → Numbered (tree t a) i → Numbered (tree t b) i → Numbered (tree t b) a ⊎ Numbered (tree t a) b)
          → Numbered (tree t b) a ⊎ Numbered (tree t a) b
      go (inl e) v ih = inl (rw e q)
      go (inr u) (inl e) ih = inr (rw e p)
      go (inr u) (inr v) ih =
          let x : u.0 < n = omega (arith, u.1) in
          let y : v.0 < n = omega (arith, v.1) in
          let l = lower u.0 j x u.2 in
          let e : v.0 ≡ u.0 = unique v.0 u.0 j y x v.2 u.2 in
          ih u.0 (omega arith) h g u.3 (rw e at v.3)

  -- the trees of a node's two children have no node in common
  siblings : (i a b : ℕ) → i < n → Child t i a → Child t i b → (a ≡ b → ⊥) → (j : ℕ) → Numbered (tree t a) j → Numbered (tree t b) j → ⊥
  siblings i a b h p q ne j u v = go (chain n a b j (omega arith) (omega (arith, lower i a h p)) (omega (arith, lower i b h q)) u v)
    where
      no_way : (x y : ℕ) → Child t i x → Child t i y → (x ≡ y → ⊥) → (y ≡ x) ⊎ Parent t y x → ⊥
      no_way x y c d f (inl e) = f (sym e)
      no_way x y c d f (inr w) =
          let l = lower i y h d in
          let e : w.0 ≡ i = unique w.0 i x (omega (arith, w.1)) h w.2 c in
          omega (arith, w.1)

      go : Numbered (tree t b) a ⊎ Numbered (tree t a) b → ⊥
      go (inl m) = no_way a b p q ne (parent b (omega (arith, lower i b h q)) a m)
      go (inr m) = no_way b a q p (λ e. ne (sym e)) (parent a (omega (arith, lower i a h p)) b m)

  pub distinct : (i : ℕ) → i < n → Distinct (tree t i)
  unfolding Distinct
  distinct = nodewise (λ i. Distinct (tree t i)) (λ i h kid. step i h kid (view t n children i h))
    where
      off : (i c : ℕ) → i < n → Child t i c → Numbered (tree t c) i → ⊥
      off i c h k m = let l = lower i c h k in omega (arith, below c (omega arith) i m)

      step : (i : ℕ) → i < n → ((c : ℕ) → Child t i c → Distinct (tree t c)) → View t i → Distinct (tree t i)
      step i h kid (alone a e) = rw e tt
      step i h kid (two a b e) =
          let p : Child t i (first_at t i) = inl (a, refl) in
          let q : Child t i (second_at t i) = inr (a, b, refl) in
          rw e (kid _ p, kid _ q, off i _ h p, off i _ h q, siblings i _ _ h p q ((children i h).apart a b))
      step i h kid (one a e) =
          let p : Child t i (first_at t i) = inl (omega arith, refl) in
          rw e (kid _ p, off i _ h p)

  -- each node of the tree has the cells that the table says
  pub sized : (i : ℕ) → i < n → Sized (cells_of t) (tree t i)
  unfolding Sized
  sized = nodewise (λ i. Sized (cells_of t) (tree t i)) (λ i h kid. step i kid (view t n children i h))
    where
      step : (i : ℕ) → ((c : ℕ) → Child t i c → Sized (cells_of t) (tree t c)) → View t i → Sized (cells_of t) (tree t i)
      step i kid (alone a e) = rw e (ap size (sym e))
      step i kid (two a b e) = rw e (ap size (sym e), kid _ (inl (a, refl)), kid _ (inr (a, b, refl)))
      step i kid (one a e) = rw e (ap size (sym e), kid _ (inl (omega arith, refl)))

  -- where no node but the last is loose, the last one's tree has all
  pub everywhere : (m : ℕ) → n ≡ suc m → ((j : ℕ) → j < m → (p : ℕ) × (p < n) × Child t p j) → (j : ℕ) → j < n → Numbered (tree t m) j
  everywhere m e up j h = climb n j (omega arith) h
    where
      climb : (fuel k : ℕ) → n ≤ k + fuel → k < n → Numbered (tree t m) k
      climb zero k f g = absurd (omega arith)
      climb (suc fuel) k f g = go (dec_lt k m) (climb fuel)
        where
          go : Dec (k < m) → ((i : ℕ) → n ≤ i + fuel → i < n → Numbered (tree t m) i) → Numbered (tree t m) k
          go (yes l) ih =
              let w = up k l in
              let d = lower w.0 k w.1 w.2 in
              down m (omega arith) w.0 k (ih w.0 (omega arith) w.1) w.2
          go (no l) ih =
              let q : k ≡ m = omega arith in
              rw q (self m (omega arith))
