-- The wires of each composition, from what the functions on beams give.
use Prim.Native.Nat.{ℕ, zero, suc, ◌+◌, ◌-◌, ◌*◌, ◌/◌, ◌≤◌, ◌<◌}
use mathlib.Core.Path.{◌≡◌, refl, sym, ap, ◌∙◌}
use mathlib.Core.List.{List, [], ◌∷◌, ◌++◌}
use native.Mathlib.Omega.{arith}
use native.Mathlib.Nat.{zero-add, suc-add}
use lib.ListN.{take, drop}
use lib.Seq.{take-take, take-nil, drop-nil}
use native.Mathlib.Decide.{ℕ_discrete}
use borrow.Author.Tests.{eq-eqb, ne_eqb}
use Rattle.cells.specs.Cells.{part, store}
use Rattle.arity.specs.Tree.{ins, outs, size}
use Rattle.arity.specs.Tree.Tree.{join}
use Rattle.arity.specs.Table.{nodes, kind_at, first_at, second_at, composition_of, tree}
use Rattle.arity.specs.Promise.{Node}
use Rattle.arity.proofs.Times.{times_whole}
use Rattle.signal.specs.Signal.{copies, sums}
use Rattle.arity.specs.Ready.{Promising}
use Rattle.walker.specs.Ready.{base, Joins, left_tree, right_tree, first_child, second_child, FirstGiven, SecondGiven, Finished}
use Rattle.walker.proofs.Joining.{Kind, kind_of_lem}
use Rattle.walker.proofs.Joining.Kind.{sequences, parallels, splits, merges, recursions}

drop-take : (a b : ℕ) (xs : List ℕ) → drop a (take (a + b) xs) ≡ take b (drop a xs)
drop-take zero b xs = rw zero-add
drop-take (suc a) b [] = rw suc-add (simp (drop-nil, take-nil))
drop-take (suc a) b (x ∷ xs) = rw suc-add (drop-take a b xs)

module _ {table : List ℕ} {i : ℕ} (promise : Promising table) (j : Joins table i) where
  node : Node table i
  node = promise.node i j.inside

  pub left_in : first_at table i < nodes table
  left_in = omega (arith, node.left j.least, j.inside)

  pub right_in : second_at table i < nodes table
  right_in = omega (arith, node.right j.least, j.inside)

  pub first_below : {f : ℕ} → f ≡ first_child table i → f < i
  first_below {f} e = go (ℕ_discrete (kind_at table i) 11)
    where
      go : Dec (kind_at table i ≡ 11) → f < i
      go (yes k) = omega (arith, rw (eq-eqb (kind_at table i) 11 k) at e, node.right j.least)
      go (no k) = omega (arith, rw (ne_eqb (kind_at table i) 11 k) at e, node.left j.least)

  pub second_below : {s : ℕ} → s ≡ second_child table i → s < i
  second_below {s} e = go (ℕ_discrete (kind_at table i) 11)
    where
      go : Dec (kind_at table i ≡ 11) → s < i
      go (yes k) = omega (arith, rw (eq-eqb (kind_at table i) 11 k) at e, node.left j.least)
      go (no k) = omega (arith, rw (ne_eqb (kind_at table i) 11 k) at e, node.right j.least)

  -- what is read of the sides
  pub left-inputs : {l a : ℕ} → l ≡ first_at table i → a ≡ ins (tree table l) → a ≡ ins (left_tree table i)
  left-inputs e f = f ∙ ap (λ (k : ℕ). ins (tree table k)) e

  pub left-outputs : {l a : ℕ} → l ≡ first_at table i → a ≡ outs (tree table l) → a ≡ outs (left_tree table i)
  left-outputs e f = f ∙ ap (λ (k : ℕ). outs (tree table k)) e

  pub right-inputs : {l a : ℕ} → l ≡ second_at table i → a ≡ ins (tree table l) → a ≡ ins (right_tree table i)
  right-inputs e f = f ∙ ap (λ (k : ℕ). ins (tree table k)) e

  pub right-outputs : {l a : ℕ} → l ≡ second_at table i → a ≡ outs (tree table l) → a ≡ outs (right_tree table i)
  right-outputs e f = f ∙ ap (λ (k : ℕ). outs (tree table k)) e

  -- the node's own counts, by its kind
  join_is : (k : ℕ) → kind_at table i ≡ k → tree table i ≡ join i (composition_of k) (left_tree table i) (right_tree table i)
  join_is k e = node.is_join j.least j.most ∙ ap (λ (m : ℕ). join i (composition_of m) (left_tree table i) (right_tree table i)) e

  ins-is : (k : ℕ) → kind_at table i ≡ k → ins (tree table i) ≡ ins (join i (composition_of k) (left_tree table i) (right_tree table i))
  ins-is k e = ap ins (join_is k e)

  outs-is : (k : ℕ) → kind_at table i ≡ k → outs (tree table i) ≡ outs (join i (composition_of k) (left_tree table i) (right_tree table i))
  outs-is k e = ap outs (join_is k e)

  -- limits of what is handed to the functions on beams
  pub left_few_inputs : ins (left_tree table i) ≤ 32
  left_few_inputs = (promise.node (first_at table i) left_in).inputs

  pub right_few_inputs : ins (right_tree table i) ≤ 32
  right_few_inputs = (promise.node (second_at table i) right_in).inputs

  pub recursion-room : kind_at table i ≡ 11 → outs (right_tree table i) + ins (tree table i) ≤ 32
  unfolding ins
  recursion-room e = omega (arith, ins-is 11 e, (node.recursion e).1, left_few_inputs)

  pub parallel-room : kind_at table i ≡ 8 → outs (left_tree table i) + outs (right_tree table i) ≤ 32
  unfolding outs
  parallel-room e = omega (arith, outs-is 8 e, node.outputs)

  pub cells-room : {n : ℕ} → kind_at table i ≡ 11 → base table (nodes table) ≤ n → base table i + ins (right_tree table i) ≤ n
  unfolding size
  cells-room e h = omega (arith, node.cells, ap size (join_is 11 e))

  not-recursion : (k : ℕ) → kind_at table i ≡ k → (k ≡ 11 → ⊥) → kind_at table i ≡ 11 → ⊥
  not-recursion k e n h = n (sym e ∙ h)

  first-left : (kind_at table i ≡ 11 → ⊥) → first_child table i ≡ first_at table i
  first-left n = rw (ne_eqb (kind_at table i) 11 n)

  second-right : (kind_at table i ≡ 11 → ⊥) → second_child table i ≡ second_at table i
  second-right n = rw (ne_eqb (kind_at table i) 11 n)

  first-right : kind_at table i ≡ 11 → first_child table i ≡ second_at table i
  first-right e = rw (eq-eqb (kind_at table i) 11 e)

  second-left : kind_at table i ≡ 11 → second_child table i ≡ first_at table i
  second-left e = rw (eq-eqb (kind_at table i) 11 e)

  pub first_fed : {xs cs zs : List ℕ} {a q : ℕ} → kind_at table i ≡ 11 → a ≡ base table i → q ≡ ins (right_tree table i) → take q zs ≡ part a q cs → FirstGiven table i xs cs zs
  first_fed e ea eq h =
      record { is = rw (first-right e, e, ← ea, ← eq) h }

  pub second-sequence : {xs ys : List ℕ} → kind_at table i ≡ 7 → SecondGiven table i xs ys ys
  second-sequence e =
      let n = not-recursion 7 e (λ z. omega arith) in
      record { is = rw (second-right n, first-left n, e, node.sequence e) }

  pub second-merge : {xs ys zs : List ℕ} {m q : ℕ} → kind_at table i ≡ 10 → m ≡ outs (left_tree table i) → q ≡ ins (right_tree table i) → take q zs ≡ sums m q (take m ys) → SecondGiven table i xs ys zs
  second-merge e em eq h =
      let n = not-recursion 10 e (λ z. omega arith) in
      record { is = rw (second-right n, first-left n, e, ← em, ← eq) h }

  pub second-split : {xs ys zs : List ℕ} {m q : ℕ} → kind_at table i ≡ 9 → m ≡ outs (left_tree table i) → q ≡ ins (right_tree table i) → ((k : ℕ) → k * m ≡ q → take q zs ≡ copies k (take m ys)) → SecondGiven table i xs ys zs
  second-split {xs} {ys} {zs} {m} {q} e em eq h =
      let n = not-recursion 9 e (λ z. omega arith) in
      let w : q / m * m ≡ q = rw (em, eq) (times_whole _ _ (node.split e)) in
      record { is = rw (second-right n, first-left n, e, ← em, ← eq) (h (q / m) w) }

  pub second-parallel : {xs ys zs : List ℕ} {m : ℕ} → kind_at table i ≡ 8 → m ≡ ins (left_tree table i) → take (32 - m) zs ≡ drop m xs → SecondGiven table i xs ys zs
  unfolding ins
  second-parallel {xs} {ys} {zs} {m} e em h =
      let n = not-recursion 8 e (λ z. omega arith) in
      let q : ins (tree table i) ≡ ins (left_tree table i) + ins (right_tree table i) = ins-is 8 e in
      let t : take (ins (right_tree table i)) (take (32 - m) zs) ≡ take (ins (right_tree table i)) (drop m xs) = ap (take (ins (right_tree table i))) h in
      record {
        is =
            rw (second-right n, first-left n, e, q)
            (sym (take-take (ins (right_tree table i)) (32 - m) zs (omega (arith, node.inputs))) ∙ t ∙ ap (λ (k : ℕ). take (ins (right_tree table i)) (drop k xs)) em
            ∙ sym (drop-take (ins (left_tree table i)) (ins (right_tree table i)) xs));
      }

  pub second-recursion : {xs ys zs : List ℕ} {m q : ℕ} → kind_at table i ≡ 11 → m ≡ outs (right_tree table i) → q ≡ ins (tree table i) → take (m + q) zs ≡ take m ys ++ take q xs → SecondGiven table i xs ys zs
  unfolding ins
  second-recursion {xs} {ys} {zs} {m} {q} e em eq h =
      let w : ins (left_tree table i) ≡ m + q = omega (arith, ins-is 11 e, (node.recursion e).1) in
      record { is = rw (second-left e, first-right e, e, w, ← em, ← eq) h }

  pub first-same : {xs cs : List ℕ} → (kind_at table i ≡ 11 → ⊥) → FirstGiven table i xs cs xs
  unfolding ins
  first-same {xs} {cs} n = go (kind_at table i) refl (kind_of_lem (kind_at table i) j.least j.most)
    where
      go : (k : ℕ) → kind_at table i ≡ k → Kind k → FirstGiven table i xs cs xs
      go k e sequences = record { is = rw (first-left n, e, ins-is 7 e) }
      go k e parallels = record { is = rw (first-left n, e, ins-is 8 e) (sym (take-take (ins (left_tree table i)) (ins (left_tree table i) + ins (right_tree table i)) xs (omega arith))) }
      go k e splits = record { is = rw (first-left n, e, ins-is 9 e) }
      go k e merges = record { is = rw (first-left n, e, ins-is 10 e) }
      go k e recursions = absurd (n e)

  pub finished_parallel : {ys zs cs os : List ℕ} {m q : ℕ} → kind_at table i ≡ 8 → m ≡ outs (left_tree table i) → q ≡ outs (right_tree table i) → take (m + q) os ≡ take m ys ++ take q zs → Finished table i ys zs cs os cs
  unfolding outs
  finished_parallel e em eq h =
      let n = not-recursion 8 e (λ z. omega arith) in
      record { outputs = rw (second-right n, first-left n, e, outs-is 8 e, ← em, ← eq) h; cells = rw e }

  pub finished_recursion : {ys zs cs cs' : List ℕ} {a q : ℕ} → kind_at table i ≡ 11 → a ≡ base table i → q ≡ ins (right_tree table i) → cs' ≡ store a (take q zs) cs → Finished table i ys zs cs zs cs'
  unfolding outs
  finished_recursion {ys} {zs} {cs} {cs'} {a} {q} e ea eq h =
      let w : q ≤ outs (left_tree table i) = omega (arith, (node.recursion e).0) in
      record {
        outputs = rw (second-left e, e, outs-is 11 e);
        cells = rw (second-left e, e, ← ea, ← eq) (h ∙ ap (λ (l : List ℕ). store a l cs) (sym (take-take q (outs (left_tree table i)) zs w)));
      }

  pub finished_other : {ys zs cs : List ℕ} → (kind_at table i ≡ 8 → ⊥) → (kind_at table i ≡ 11 → ⊥) → Finished table i ys zs cs zs cs
  unfolding outs
  finished_other {ys} {zs} {cs} p n = go (kind_at table i) refl (kind_of_lem (kind_at table i) j.least j.most)
    where
      go : (k : ℕ) → kind_at table i ≡ k → Kind k → Finished table i ys zs cs zs cs
      go k e sequences = record { outputs = rw (second-right n, first-left n, e, outs-is 7 e); cells = rw e }
      go k e parallels = absurd (p e)
      go k e splits = record { outputs = rw (second-right n, first-left n, e, outs-is 9 e); cells = rw e }
      go k e merges = record { outputs = rw (second-right n, first-left n, e, outs-is 10 e); cells = rw e }
      go k e recursions = absurd (n e)
