-- What the survey of an accepted table bounds: the instructions of each node, by its row, and all cells, by the nodes.
use Prim.Native.Nat.{ℕ, ◌+◌, ◌*◌, ◌^◌, ◌≤◌, ◌<◌}
use mathlib.Core.List.{List}
use native.Mathlib.Omega.{arith}
use native.Mathlib.Decide.{dec_le}
use lib.ListN.{get_or}
use Rattle.arity.specs.Tree.{size}
use Rattle.arity.specs.Table.{kind_at, first_at, second_at, nodes, tree, circuit}
use Rattle.arity.specs.Nodes.{subtree, cells_before}
use Rattle.arity.specs.Promise.{Promise, Node}
use Rattle.arity.specs.Ready.{Ready, Promising}
use Rattle.arity.proofs.ByKind.{alone_of, two_of}
use Rattle.arity.proofs.Bounds.{sum_bound, leaf-size, join-size}

module _ (t : List ℕ) (node : (i : ℕ) → i < nodes t → Node t i) where
  size-few : (i : ℕ) → i < nodes t → size (tree t i) ≤ 4096
  unfolding size
  size-few i h = go (dec_le (kind_at t i) 6) (dec_le (kind_at t i) 11)
    where
      own : Node t i
      own = node i h

      go : Dec (kind_at t i ≤ 6) → Dec (kind_at t i ≤ 11) → size (tree t i) ≤ 4096
      go (yes a) _ = rw (own.is_leaf a) (leaf-size i (kind_at t i) (first_at t i) (alone_of _ own.least a) own.delay)
      go (no a) (yes b) =
          let l : 7 ≤ kind_at t i = omega arith in
          rw (own.is_join l b) (join-size i (kind_at t i) (tree t (first_at t i)) (tree t (second_at t i)) (two_of _ l b) (node (second_at t i) (omega (arith, own.right l))).inputs)
      go (no a) (no b) =
          let l : 12 ≤ kind_at t i = omega arith in
          rw (own.is_ondemand l) (omega (arith, (node (first_at t i) (omega (arith, own.left (omega arith)))).outputs))

  cells-few : cells_before (circuit t) (nodes t) ≤ nodes t * 4096
  unfolding cells_before
  cells-few = sum_bound (λ (k : ℕ). size (subtree (circuit t) k)) 4096 (nodes t) (λ j h. rw (node j h).part (size-few j h))

pub promising : {t s : List ℕ} → Ready t s → ((k : ℕ) → get_or s k 0 < 2 ^ 32) → Promising t
promising {t} {s} r words =
    record {
      few = r.few;
      node = r.node;
      fits = λ i h. rw (← (r.row i h).instructions) (words (4 * i + 2));
      cells = omega (arith, cells-few t r.node, r.few);
    }

-- the same of a table that the check accepts
pub promises : {t : List ℕ} {a b c d : ℕ} → Promise t a b c d → Promising t
promises p =
    record {
      few = p.most;
      node = p.node;
      fits = λ i h. omega (arith, (p.node i h).instructions, p.modest.0, p.counted.2);
      cells = omega (arith, p.modest.1, p.celled);
    }
