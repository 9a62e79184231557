-- A tick without demand, on the cells of a list of calls: none of the body's cells change, and the held outputs stand.
use Prim.Native.Nat.{ℕ, zero, suc, ◌+◌, ◌≤◌}
use mathlib.Core.Path.{◌≡◌, refl, sym, ap, ap₂, ◌∙◌}
use mathlib.Core.Logic.{◌⊎◌, inl, inr}
use mathlib.Core.List.{List, [], ◌∷◌, ◌++◌}
use native.Mathlib.Omega.{arith}
use lib.ListN.{length, drop, take, get_or-append}
use lib.Seq.{get_or-append-add, length-take-le}
use Rattle.word.specs.Tick.{Tick, head_or, zeros}
use Rattle.cells.specs.Cells.{part}
use Rattle.cells.proofs.Parts.{part_agree}
use Rattle.arity.specs.Tree.{Tree, outs, size}
use Rattle.arity.specs.Tree.Tree.{ondemand}
use Rattle.arity.specs.Nodes.{Numbered, Complete, subtree, cells_before}
use Rattle.arity.specs.WellFormed.{WellFormed}
use Rattle.arity.proofs.Paths.{subtree-numbers}
use Rattle.arity.proofs.Sizes.{cells_after_node}
use Rattle.signal.specs.Signal.{History, signal}
use Rattle.signal.specs.History.{own, NoDemand}
use Rattle.signal.specs.Contents.{contents, cells_after}
use Rattle.signal.proofs.Causal.{causal}
use Rattle.signal.proofs.Quiet.{quiet}
use Rattle.calls.specs.Calls.{Element, Program}
use Rattle.calls.specs.Law.{Lawful, Quiet, history, node_cells, latest_outputs}
use Rattle.calls.proofs.Placing.{all_placed}
use Rattle.calls.proofs.Node.{node-holds}
use Rattle.calls.proofs.Run.{run_right, walk-right}
use Rattle.calls.proofs.Plays.{cells_at, cells-long}

part-behind : (front cs : List ℕ) (a k : ℕ) → part (length front + a) k (front ++ cs) ≡ part a k cs
part-behind front cs a zero = refl
part-behind front cs a (suc k) =
    let e : suc (length front + a) ≡ length front + suc a = omega arith in
    ap₂ {C = List ℕ} (λ x xs. x ∷ xs) (get_or-append-add front cs a 0) (ap (λ z. part z k (front ++ cs)) e ∙ part-behind front cs (suc a) k)

-- what an ondemand gives at its latest tick is what its cells hold
latest-held : (i : ℕ) (b : Tree) (h : History) → head_or (zeros (outs b)) (signal (ondemand i b) h) ≡ contents (ondemand i b) h
unfolding signal contents
latest-held i b [] = rw (causal b).empty
latest-held i b (f ∷ h) = refl

module _ (n : ℕ) (t : Tree) (w : WellFormed t) (c : Complete n t) where
  -- the cells of node j, in a block that begins with those of a history
  node-part : (h : History) (rest : List ℕ) (j : ℕ) → Numbered t j → part (cells_before t j) (size (subtree t j)) (cells_after n t h ++ rest) ≡ contents (subtree t j) (own t h j)
  node-part h rest j m =
      let cs : List ℕ = cells_at n t w c h in
      let p = run_right (cells_before t) t (cells_before t n) w (all_placed n t c) h in
      rw (← (walk-right n t w c h).cells)
      (part_agree (cells_before t j) (size (subtree t j)) cs (cs ++ rest)
      (λ k a. get_or-append cs rest 0 k (omega (arith, cells_after_node t j n (c.only j m), cells-long n t w c h, a.high)))
      ∙ node-holds (cells_before t) t h cs c.distinct p.holds j m)

  module _ (work : Program) (at : ℕ) (past : History) (block : List ℕ) (fits : at ≤ length block) where
    -- after lawful calls, node j's cells hold its contents after its own history
    node-cells : (list : List Element) → Lawful n t work at past block list → (j : ℕ) → Numbered t j
        → node_cells n t work at block list j ≡ contents (subtree t j) (own t (history n t work at past block list) j)
    node-cells list l j m =
        let h : History = history n t work at past block list in
        let rest : List ℕ = drop (cells_before t n) (drop at block) in
        let front : List ℕ = take at block in
        ap (part (at + cells_before t j) (size (subtree t j))) l.cells
        ∙ ap (λ z. part (z + cells_before t j) (size (subtree t j)) (front ++ (cells_after n t h ++ rest))) (sym (length-take-le at block fits))
        ∙ part-behind front (cells_after n t h ++ rest) (cells_before t j) (size (subtree t j))
        ∙ node-part h rest j m

    -- a list, and one with one tick more, at which no demand reaches the body b of the ondemand i
    module _ (list more : List Element) (l : Lawful n t work at past block list) (l' : Lawful n t work at past block more)
        (f : Tick) (e : history n t work at past block more ≡ f ∷ history n t work at past block list)
        (i : ℕ) (b : Tree) (m : Numbered t i) (s : subtree t i ≡ ondemand i b) (q : NoDemand t i f (history n t work at past block list)) where
      abbrev h : History
      h = history n t work at past block list

      here : (k : ℕ) → (i ≡ k) ⊎ Numbered b k → Numbered t k
      unfolding Numbered
      here k o = subtree-numbers t c.distinct i m k (rw s o)

      still : (k : ℕ) → (i ≡ k) ⊎ Numbered b k → contents (subtree t k) (own t (f ∷ h) k) ≡ contents (subtree t k) (own t h k)
      still k (inl g) = rw (← g) (quiet t b c.distinct i m s f h q).held
      still k (inr g) = (quiet t b c.distinct i m s f h q).body k g

      gives : (x : History) → latest_outputs t i b x ≡ contents (subtree t i) (own t x i)
      gives x = rw s (latest-held i b (own t x i))

      again : latest_outputs t i b (history n t work at past block more) ≡ latest_outputs t i b h
      again = rw e (gives (f ∷ h) ∙ still i (inl refl) ∙ sym (gives h))

      pub quiet-tick : Quiet n t work at past block list more i b
      quiet-tick =
          record {
            cells = λ k o. node-cells more l' k (here k o) ∙ ap (λ x. contents (subtree t k) (own t x k)) e ∙ still k o ∙ sym (node-cells list l k (here k o));
            held = node-cells list l i m ∙ sym (gives h);
            repeated = again;
            zero = λ z. again ∙ gives h ∙ (quiet t b c.distinct i m s f h q).before z;
          }
