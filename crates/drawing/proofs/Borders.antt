-- The laws at their borders: a premise that asked for more, or a conclusion that said less, would fail here.
use Prim.Native.Nat.{ℕ, ◌+◌}
use mathlib.Core.Path.{◌≡◌, refl}
use mathlib.Core.List.{List, [], ◌∷◌}
use native.Mathlib.Omega.{arith}
use Rattle.word.specs.Tick.{Tick}
use Rattle.refusal.specs.Answer.{refused_at}
use Rattle.arity.specs.Tree.{Tree, ins, outs, need}
use Rattle.arity.specs.Tree.Tree.{leaf, join, ondemand}
use Rattle.arity.specs.Tree.Primitive.{number, cable}
use Rattle.arity.specs.Tree.Composition.{sequence, split}
use Rattle.arity.specs.Table.{nodes, circuit}
use Rattle.arity.specs.Check.{checked, IsAccepted}
use Rattle.arity.specs.Formed.{Fitted}
use Rattle.signal.specs.Signal.{History, signal, samples}
use Rattle.signal.specs.Clips.{clipped_ticks}
use Rattle.drawing.specs.Drawing.{drawing, Alike, cells_in}
use Rattle.drawing.specs.Numbering.{moved, closed, joined, renumbered}
use Rattle.drawing.specs.Joined.{composed, join_refusal, join_answer}
use Rattle.drawing.specs.Laws.{Joinable}
use Rattle.drawing.proofs.Same.{unnumbered}
use Rattle.drawing.proofs.Joined.{joined-answer, joined-accepted, joined-meaning}
use Rattle.drawing.proofs.Renumbered.{renumbering, same-table}

-- 511 nodes and the joining one
module _ (t u : List ℕ) (a : IsAccepted t) (b : IsAccepted u) (e : nodes t + nodes u ≡ 511) where
  most : Joinable t u
  most = record { first = a; second = b; few = omega arith }

  most-answered : (kind : ℕ) → checked (joined kind t u) ≡ join_answer kind t u
  most-answered kind = joined-answer kind t u most

-- the kinds beside 7 to 11
module _ (t u : List ℕ) (j : Joinable t u) where
  kind_0 : checked (joined 0 t u) ≡ refused_at 4 (nodes t + nodes u)
  unfolding join_answer join_refusal
  kind_0 = joined-answer 0 t u j

  kind_6 : checked (joined 6 t u) ≡ refused_at 5 (nodes t + nodes u)
  unfolding join_answer join_refusal
  kind_6 = joined-answer 6 t u j

  kind_12 : checked (joined 12 t u) ≡ refused_at 5 (nodes t + nodes u)
  unfolding join_answer join_refusal
  kind_12 = joined-answer 12 t u j

  kind_13 : checked (joined 13 t u) ≡ refused_at 4 (nodes t + nodes u)
  unfolding join_answer join_refusal
  kind_13 = joined-answer 13 t u j

  -- whatever the history
  next-tick : (kind : ℕ) → IsAccepted (joined kind t u) → (f : Tick) (h : History)
      → signal (circuit (joined kind t u)) (f ∷ h) ≡ signal (composed kind (circuit t) (circuit u)) (f ∷ h)
  next-tick kind a f h = joined-meaning kind t u j a (f ∷ h)

  -- accepted where the composition fits, and there alone
  fits-accepted : Fitted (composed 7 (circuit t) (circuit u)) → IsAccepted (joined 7 t u)
  fits-accepted f = (joined-accepted 7 t u j).1 (refl, f)

  accepted-fits : IsAccepted (joined 11 t u) → Fitted (composed 11 (circuit t) (circuit u))
  accepted-fits a = ((joined-accepted 11 t u j).0 a).1

-- trees of other numbers
numbers_aside : Alike (join 7 sequence (leaf 3 cable) (leaf 1 cable)) (join 2 sequence (leaf 0 cable) (leaf 1 cable))
unfolding drawing
numbers_aside = refl

module _ (x y : Tree) (e : Alike x y) (f : Tick) (h : History) where
  same-counts : (ins x ≡ ins y) × (outs x ≡ outs y) × (need x ≡ need y) × (cells_in x ≡ cells_in y)
  same-counts = let s = unnumbered x y e in (s.inputs, s.outputs, s.instructions, s.cells)

  same-meaning : (signal x (f ∷ h) ≡ signal y (f ∷ h)) × (samples x (f ∷ h) ≡ samples y (f ∷ h)) × (clipped_ticks x (f ∷ h) ≡ clipped_ticks y (f ∷ h))
  same-meaning = let s = unnumbered x y e in (s.meaning (f ∷ h), s.samples (f ∷ h), s.reports (f ∷ h))

-- "left, right, then the node": a number split onto two cables in sequence, and an ondemand above
left-first : renumbered (ondemand 4 (join 0 split (leaf 3 (number 9)) (join 1 sequence (leaf 2 cable) (leaf 5 cable))))
    ≡ 1 ∷ 9 ∷ 0 ∷ 5 ∷ 0 ∷ 0 ∷ 5 ∷ 0 ∷ 0 ∷ 7 ∷ 1 ∷ 2 ∷ 9 ∷ 0 ∷ 3 ∷ 12 ∷ 4 ∷ 0 ∷ []
unfolding renumbered closed moved
left-first = refl

module _ (t u : List ℕ) (a : IsAccepted t) where
  same_answer : checked (renumbered (circuit t)) ≡ checked t
  same_answer = (renumbering t a).answer

  once_more : renumbered (circuit (renumbered (circuit t))) ≡ renumbered (circuit t)
  once_more = (renumbering t a).again

  same-drawing : IsAccepted u → renumbered (circuit t) ≡ renumbered (circuit u) → drawing (circuit t) ≡ drawing (circuit u)
  same-drawing b e = (same-table t u a b).1 e
