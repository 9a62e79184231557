-- Two tables and a node over their last ones are a table of the stated form, and what it draws.
use Prim.Native.Nat.{ℕ, suc, ◌+◌, ◌-◌, ◌≤◌, ◌<◌}
use mathlib.Core.Path.{◌≡◌, sym, ap, ap₂, ◌∙◌, subst}
use mathlib.Core.Logic.{inl, inr}
use mathlib.Core.List.{List}
use native.Mathlib.Omega.{arith}
use native.Mathlib.Decide.{dec_lt}
use Rattle.arity.specs.Tree.{Tree}
use Rattle.arity.specs.Tree.Tree.{leaf, join, ondemand}
use Rattle.arity.specs.Table.{kind_at, first_at, second_at, nodes, tree, circuit, primitive_of, composition_of}
use Rattle.arity.specs.Formed.{Child, Free, Children, Fields, Attached, Fitted}
use Rattle.arity.proofs.Trees.{view, as_leaf, as_join, as_ondemand}
use Rattle.drawing.specs.Drawing.{drawing, Alike}
use Rattle.drawing.specs.Numbering.{closed}
use Rattle.drawing.proofs.Numbers.{alike-fitted}
use Rattle.drawing.proofs.Placed.{Rows, child_lower, child_down, child_up, kinds_there, fields_there, children_there, alike_there}
use Rattle.drawing.proofs.Closed.{closed-length, closed-nodes, last-kind, last-first, last-second, first_placed, second_placed, both}

-- the last node is over the last node of n others, and over that of m more, where there are any
pub record Closes (n m k f s : ℕ) : Type 0 where
  pub least : 1 ≤ k
  pub most : k ≤ 12
  pub fields : Fields k f s
  pub first : 7 ≤ k → suc f ≡ n
  pub second : 7 ≤ k → k ≤ 11 → (suc s ≡ n + m) × (1 ≤ m)
  pub left : 1 ≤ n → 7 ≤ k
  pub right : 1 ≤ m → (7 ≤ k) × (k ≤ 11)

module _ (t u : List ℕ) (k f s : ℕ) (a : Rows t) (b : Rows u) where
  -- the nodes but the last, whatever the last is
  first-before : (j c : ℕ) → j < nodes t → Child (closed t u k f s) j c → c < j
  first-before j c h q =
      let z : j ≡ 0 + j = omega arith in
      let w = child_down 0 t (closed t u k f s) a (first_placed t u k f s a b) j c h (subst (λ (x : ℕ). Child (closed t u k f s) x c) z q) in
      omega (arith, w.1, child_lower t a j w.0 h w.2)

  second-before : (j c : ℕ) → j < nodes u → Child (closed t u k f s) (nodes t + j) c → (nodes t ≤ c) × (c < nodes t + j)
  second-before j c h q =
      let w = child_down (nodes t) u (closed t u k f s) b (second_placed t u k f s a b) j c h q in
      (omega (arith, w.1), omega (arith, w.1, child_lower u b j w.0 h w.2))

  pub inner_kinds : (i : ℕ) → i < nodes t + nodes u → (1 ≤ kind_at (closed t u k f s) i) × (kind_at (closed t u k f s) i ≤ 12)
  inner_kinds =
      both t u k f s a b (λ i. (1 ≤ kind_at (closed t u k f s) i) × (kind_at (closed t u k f s) i ≤ 12))
      (kinds_there 0 t _ a (first_placed t u k f s a b)) (kinds_there (nodes t) u _ b (second_placed t u k f s a b))

  pub inner_fields : (i : ℕ) → i < nodes t + nodes u → Fields (kind_at (closed t u k f s) i) (first_at (closed t u k f s) i) (second_at (closed t u k f s) i)
  inner_fields =
      both t u k f s a b (λ i. Fields (kind_at (closed t u k f s) i) (first_at (closed t u k f s) i) (second_at (closed t u k f s) i))
      (fields_there 0 t _ a (first_placed t u k f s a b)) (fields_there (nodes t) u _ b (second_placed t u k f s a b))

  pub inner_children : (i : ℕ) → i < nodes t + nodes u → Children (closed t u k f s) i
  inner_children =
      both t u k f s a b (λ i. Children (closed t u k f s) i)
      (children_there 0 t _ a (first_placed t u k f s a b) (λ j c h q. absurd (omega arith)))
      (children_there (nodes t) u _ b (second_placed t u k f s a b) (λ j c h q. omega (arith, first-before j c h q)))

  pub first_alike : (i : ℕ) → i < nodes t → Alike (tree (closed t u k f s) i) (tree t i)
  first_alike i h =
      let z : i ≡ 0 + i = omega arith in
      ap (λ (x : ℕ). drawing (tree (closed t u k f s) x)) z
      ∙ alike_there 0 t (closed t u k f s) a (first_placed t u k f s a b) (nodes t + nodes u) (omega arith) inner_children i h

  pub second_alike : (j : ℕ) → j < nodes u → Alike (tree (closed t u k f s) (nodes t + j)) (tree u j)
  second_alike = alike_there (nodes t) u (closed t u k f s) b (second_placed t u k f s a b) (nodes t + nodes u) (omega arith) inner_children

  pub inner_fitted : ((i : ℕ) → i < nodes t → Fitted (tree t i)) → ((j : ℕ) → j < nodes u → Fitted (tree u j))
      → (i : ℕ) → i < nodes t + nodes u → Fitted (tree (closed t u k f s) i)
  inner_fitted p q =
      both t u k f s a b (λ i. Fitted (tree (closed t u k f s) i))
      (λ i h.
      let z : i ≡ 0 + i = omega arith in
      subst (λ (x : ℕ). Fitted (tree (closed t u k f s) x)) z (alike-fitted _ _ (sym (first_alike i h)) (p i h)))
      (λ j h. alike-fitted _ _ (sym (second_alike j h)) (q j h))

  -- the last node
  module _ (c : Closes (nodes t) (nodes u) k f s) where
    free-first : 7 ≤ k → Free (closed t u k f s) (nodes t + nodes u) f
    free-first l =
        let e = c.first l in
        record {
          lower = omega arith;
          new = both t u k f s a b (λ j. Child (closed t u k f s) j f → ⊥)
              (λ j h q.
              let z : 0 + j ≡ j = omega arith in
              omega (arith, first-before j f h (subst (λ (x : ℕ). Child (closed t u k f s) x f) z q)))
              (λ j h q. omega (arith, (second-before j f h q).0));
        }

    free-second : 7 ≤ k → k ≤ 11 → Free (closed t u k f s) (nodes t + nodes u) s
    free-second l m =
        let e = c.second l m in
        record {
          lower = omega arith;
          new = both t u k f s a b (λ j. Child (closed t u k f s) j s → ⊥)
              (λ j h q.
              let z : 0 + j ≡ j = omega arith in
              omega (arith, first-before j s h (subst (λ (x : ℕ). Child (closed t u k f s) x s) z q)))
              (λ j h q. omega (arith, (second-before j s h q).1));
        }

    last-children : Children (closed t u k f s) (nodes t + nodes u)
    last-children =
        let x = last-kind t u k f s a b in
        let y = last-first t u k f s a b in
        let z = last-second t u k f s a b in
        record {
          first = λ l. rw y (free-first (omega arith));
          second = λ l m. rw z (free-second (omega arith) (omega arith));
          apart = λ l m e. let g = c.first (omega arith) in let h = c.second (omega arith) (omega arith) in omega arith;
        }

    -- what holds of all but the last, and of the last
    all : (P : ℕ → Type 0) → ((i : ℕ) → i < nodes t + nodes u → P i) → P (nodes t + nodes u) → (i : ℕ) → i < nodes (closed t u k f s) → P i
    all P p q i h = go (dec_lt i (nodes t + nodes u))
      where
        go : Dec (i < nodes t + nodes u) → P i
        go (yes l) = p i l
        go (no l) = let z : nodes t + nodes u ≡ i = omega (arith, closed-nodes t u k f s a b) in subst P z q

    root_left : (j : ℕ) → suc j ≡ nodes t → Child (closed t u k f s) (nodes t + nodes u) j
    root_left j e =
        let l = c.left (omega arith) in
        inl (omega (arith, last-kind t u k f s a b), omega (arith, last-first t u k f s a b, c.first l))

    root_right : (j : ℕ) → suc j ≡ nodes u → Child (closed t u k f s) (nodes t + nodes u) (nodes t + j)
    root_right j e =
        let l = c.right (omega arith) in
        inr (
          omega (arith, last-kind t u k f s a b, l.0),
          omega (arith, last-kind t u k f s a b, l.1),
          omega (arith, last-second t u k f s a b, (c.second l.0 l.1).0),
        )

    attached : Attached (closed t u k f s)
    attached j h =
        both t u k f s a b (λ j. (p : ℕ) × (p < nodes (closed t u k f s)) × Child (closed t u k f s) p j)
        (λ i l. left i l (dec_lt (suc i) (nodes t))) (λ i l. right i l (dec_lt (suc i) (nodes u))) j (omega (arith, closed-nodes t u k f s a b))
      where
        left : (i : ℕ) → i < nodes t → Dec (suc i < nodes t) → (p : ℕ) × (p < nodes (closed t u k f s)) × Child (closed t u k f s) p (0 + i)
        left i l (yes g) =
            let w = a.attached i g in
            (0 + w.0, omega (arith, w.1, closed-nodes t u k f s a b), child_up 0 t _ a (first_placed t u k f s a b) w.0 i w.1 w.2)
        left i l (no g) =
            let z : i ≡ 0 + i = omega arith in
            (nodes t + nodes u, omega (arith, closed-nodes t u k f s a b), subst (λ (x : ℕ). Child (closed t u k f s) (nodes t + nodes u) x) z (root_left i (omega arith)))

        right : (i : ℕ) → i < nodes u → Dec (suc i < nodes u) → (p : ℕ) × (p < nodes (closed t u k f s)) × Child (closed t u k f s) p (nodes t + i)
        right i l (yes g) =
            let w = b.attached i g in
            (nodes t + w.0, omega (arith, w.1, closed-nodes t u k f s a b), child_up (nodes t) u _ b (second_placed t u k f s a b) w.0 i w.1 w.2)
        right i l (no g) = (nodes t + nodes u, omega (arith, closed-nodes t u k f s a b), root_right i (omega arith))

    pub closed-rows : Rows (closed t u k f s)
    closed-rows =
        let x = last-kind t u k f s a b in
        let y = last-first t u k f s a b in
        let z = last-second t u k f s a b in
        record {
          whole = omega (arith, closed-length t u k f s a b);
          kinds = all (λ i. (1 ≤ kind_at (closed t u k f s) i) × (kind_at (closed t u k f s) i ≤ 12)) inner_kinds (omega (arith, c.least), omega (arith, c.most));
          fields = all (λ i. Fields (kind_at (closed t u k f s) i) (first_at (closed t u k f s) i) (second_at (closed t u k f s) i)) inner_fields
              (rw (x, y, z) c.fields);
          children = all (λ i. Children (closed t u k f s) i) inner_children last-children;
          attached = attached;
        }

    -- what it draws
    is_last : circuit (closed t u k f s) ≡ tree (closed t u k f s) (nodes t + nodes u)
    is_last = let z : nodes (closed t u k f s) - 1 ≡ nodes t + nodes u = omega (arith, closed-nodes t u k f s a b) in ap (tree (closed t u k f s)) z

    last-inside : nodes t + nodes u < nodes (closed t u k f s)
    last-inside = omega (arith, closed-nodes t u k f s a b)

    left-alike : (x : ℕ) → suc x ≡ nodes t → Alike (tree (closed t u k f s) x) (circuit t)
    left-alike x e = let z : x ≡ nodes t - 1 = omega arith in first_alike x (omega arith) ∙ ap (λ (y : ℕ). drawing (tree t y)) z

    right-alike : (x : ℕ) → suc x ≡ nodes t + nodes u → 1 ≤ nodes u → Alike (tree (closed t u k f s) x) (circuit u)
    right-alike x e l =
        let z : x ≡ nodes t + (nodes u - 1) = omega arith in
        ap (λ (y : ℕ). drawing (tree (closed t u k f s) y)) z ∙ second_alike (nodes u - 1) (omega arith)

    pub draws-leaf : k ≤ 6 → Alike (circuit (closed t u k f s)) (leaf 0 (primitive_of k f))
    unfolding drawing
    draws-leaf l =
        ap drawing (is_last ∙ as_leaf (view _ _ closed-rows.children _ last-inside) (omega (arith, last-kind t u k f s a b)))
        ∙ ap₂ (λ (x y : ℕ). leaf 0 (primitive_of x y)) (last-kind t u k f s a b) (last-first t u k f s a b)

    pub draws-join : 7 ≤ k → k ≤ 11 → Alike (circuit (closed t u k f s)) (join 0 (composition_of k) (circuit t) (circuit u))
    unfolding drawing
    draws-join l m =
        ap drawing (is_last ∙ as_join (view _ _ closed-rows.children _ last-inside) (omega (arith, last-kind t u k f s a b)) (omega (arith, last-kind t u k f s a b)))
        ∙ ap₂ (λ (x y : Tree). join 0 (composition_of (kind_at (closed t u k f s) (nodes t + nodes u))) x y)
        (left-alike _ (omega (arith, last-first t u k f s a b, c.first l)))
        (right-alike _ (omega (arith, last-second t u k f s a b, (c.second l m).0)) (c.second l m).1)
        ∙ ap (λ (x : ℕ). join 0 (composition_of x) (drawing (circuit t)) (drawing (circuit u))) (last-kind t u k f s a b)

    pub draws-ondemand : 12 ≤ k → Alike (circuit (closed t u k f s)) (ondemand 0 (circuit t))
    unfolding drawing
    draws-ondemand l =
        ap drawing (is_last ∙ as_ondemand (view _ _ closed-rows.children _ last-inside) (omega (arith, last-kind t u k f s a b)))
        ∙ ap {B = Tree} (ondemand 0) (left-alike _ (omega (arith, last-first t u k f s a b, c.first (omega arith))))

    pub closed-fitted : ((i : ℕ) → i < nodes t → Fitted (tree t i)) → ((j : ℕ) → j < nodes u → Fitted (tree u j)) → Fitted (circuit (closed t u k f s))
        → (i : ℕ) → i < nodes (closed t u k f s) → Fitted (tree (closed t u k f s) i)
    closed-fitted p q e = all (λ i. Fitted (tree (closed t u k f s) i)) (inner_fitted p q) (subst Fitted is_last e)
