-- The ticks of a whole history, from cells that are all 0, give the meaning, and leave the cells that the meaning says.
use Prim.Native.Nat.{ℕ, zero, suc}
use mathlib.Core.Path.{◌≡◌, refl, sym, ap, ◌∙◌}
use mathlib.Core.List.{List, [], ◌∷◌, ◌++◌}
use native.Mathlib.Nat.{zero-mod}
use native.Mathlib.Omega.{arith}
use lib.ListN.{length, length-replicate}
use lib.Seq.{take_all}
use Rattle.word.specs.Tick.{Beam, zeros}
use Rattle.cells.specs.Cells.{part}
use Rattle.cells.proofs.Parts.{part-zeros, part-all}
use Rattle.arity.specs.Tree.{Tree, ins, size}
use Rattle.arity.specs.Tree.Tree.{leaf, join, ondemand}
use Rattle.arity.specs.Tree.Primitive.{number, control, operation, delay, cable, cut}
use Rattle.arity.specs.Tree.Composition.{sequence, parallel, split, merge, recursion}
use Rattle.arity.specs.Nodes.{Complete, cells_before}
use Rattle.arity.specs.WellFormed.{WellFormed}
use Rattle.signal.specs.Signal.{History, signal}
use Rattle.signal.specs.Contents.{contents, ring, cells_after}
use Rattle.signal.proofs.Causal.{causal}
use Rattle.signal.proofs.Own.{left_start, right_start}
use Rattle.calls.specs.Step.{step}
use Rattle.calls.proofs.Holds.{Placed, Holds}
use Rattle.calls.proofs.Works.{works}
use Rattle.calls.proofs.Placing.{all_placed}
use Rattle.calls.proofs.Node.{all-nodes}

-- the cells after a history, and the outputs at each of its ticks
unfoldable pub after : (ℕ → ℕ) → Tree → List ℕ → History → List ℕ
after base t cs [] = cs
after base t cs (f ∷ h) = (step base t f (after base t cs h)).cells

unfoldable pub given : (ℕ → ℕ) → Tree → List ℕ → History → List Beam
unfolding after
given base t cs [] = []
given base t cs (f ∷ h) = (step base t f (after base t cs h)).outputs ∷ given base t cs h

ring_start : (d n : ℕ) → ring d n [] ≡ zeros n
unfolding ring
ring_start d zero = refl
ring_start d (suc n) = rw (ring_start d n) (snoc_zero n)
  where
    snoc_zero : (m : ℕ) → zeros m ++ (0 ∷ []) ≡ 0 ∷ zeros m
    snoc_zero zero = refl
    snoc_zero (suc m) = ap {B = List ℕ} (λ xs. 0 ∷ xs) (snoc_zero m)

contents_start : (t : Tree) → contents t [] ≡ zeros (size t)
unfolding contents size
contents_start (leaf i (number v)) = refl
contents_start (leaf i (control s)) = refl
contents_start (leaf i (operation o)) = refl
contents_start (leaf i (delay zero)) = refl
contents_start (leaf i (delay (suc d))) = rw (zero-mod (suc d), ring_start)
contents_start (leaf i cable) = refl
contents_start (leaf i cut) = refl
contents_start (join i sequence l r) = refl
contents_start (join i parallel l r) = refl
contents_start (join i split l r) = refl
contents_start (join i merge l r) = refl
contents_start (join i recursion l r) = take_all (ins r) (zeros (ins r)) (rw length-replicate (omega arith))
contents_start (ondemand i b) = rw (causal b).empty

pub start : (base : ℕ → ℕ) (n : ℕ) (t : Tree) → Placed base n t → Holds base t [] (zeros n)
unfolding Placed Holds
start base n (leaf i p) q = part-zeros (base i) _ n q ∙ sym (contents_start (leaf i p))
start base n (join i c l r) q = (
  part-zeros (base i) _ n q.0 ∙ sym (contents_start (join i c l r)),
  rw left_start (start base n l q.1),
  rw right_start (start base n r q.2),
)
start base n (ondemand i b) q = (part-zeros (base i) _ n q.0 ∙ sym (contents_start (ondemand i b)), start base n b q.1)

pub record RunRight (base : ℕ → ℕ) (t : Tree) (n : ℕ) (h : History) : Type 0 where
  pub outputs : given base t (zeros n) h ≡ signal t h
  pub holds : Holds base t h (after base t (zeros n) h)
  pub long : length (after base t (zeros n) h) ≡ n

pub run_right : (base : ℕ → ℕ) (t : Tree) (n : ℕ) → WellFormed t → Placed base n t → (h : History) → RunRight base t n h
unfolding given
run_right base t n w q [] = record { outputs = sym (causal t).empty; holds = start base n t q; long = length-replicate n 0 }
run_right base t n w q (f ∷ h) =
    let p = run_right base t n w q h in
    let s = works base t w h f (after base t (zeros n) h) (rw p.long q) p.holds in
    record {
      outputs = (λ j. s.outputs j ∷ p.outputs j) ∙ sym ((causal t).next f h);
      holds = s.holds;
      long = s.long ∙ p.long;
    }

-- a table's circuit: the cells of the nodes stand in node order
pub record WalkRight (n : ℕ) (t : Tree) (h : History) : Type 0 where
  pub outputs : given (cells_before t) t (zeros (cells_before t n)) h ≡ signal t h
  pub cells : after (cells_before t) t (zeros (cells_before t n)) h ≡ cells_after n t h

pub walk-right : (n : ℕ) (t : Tree) → WellFormed t → Complete n t → (h : History) → WalkRight n t h
walk-right n t w c h =
    let N : ℕ = cells_before t n in
    let p = run_right (cells_before t) t N w (all_placed n t c) h in
    let cs : List ℕ = after (cells_before t) t (zeros N) h in
    record { outputs = p.outputs; cells = sym (part-all cs) ∙ ap (λ k. part 0 k cs) p.long ∙ all-nodes n t h cs c p.holds }
