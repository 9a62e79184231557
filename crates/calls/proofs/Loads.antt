-- Loads: an accepted one begins a list of calls, a refused one may lie in it.
use Prim.Native.Nat.{ℕ, ◌+◌, ◌-◌, ◌≤◌}
use mathlib.Core.Path.{◌≡◌, ◌∙◌}
use mathlib.Core.Bool.{Bool, true, false}
use mathlib.Core.List.{List, [], ◌++◌, append_assoc}
use native.Mathlib.Omega.{arith}
use lib.IntN.{ℤ}
use lib.ListN.{length, drop, take, length-replicate, replicate-append-replicate}
use lib.Seq.{take_at}
use lib.Dec.{leb}
use Rattle.word.specs.Choice.{pick}
use Rattle.word.specs.Tick.{zeros}
use Rattle.refusal.specs.Answer.{count, refused_all}
use Rattle.refusal.specs.Answer.Answer.{refused}
use Rattle.refusal.specs.Outcome.{Outcome, outcome}
use Rattle.cells.specs.Block.{ran_as}
use Rattle.cells.specs.Load.{loaded}
use Rattle.arity.specs.Tree.{Tree}
use Rattle.arity.specs.Nodes.{Complete, cells_before}
use Rattle.arity.specs.WellFormed.{WellFormed}
use Rattle.calls.specs.Calls.{Program, Refused}
use Rattle.calls.specs.Law.{IsProgramOf, HoldsPast}
use Rattle.calls.specs.Loads.{LawfulFromLoad, load_call}
use Rattle.calls.proofs.Run.{after, walk-right}
use Rattle.calls.proofs.Throughout.{from_past}

-- the ends of a load: the cleared cells, or a refusal
data LoadEnd (named : ℕ) (cells : List ℕ) : Outcome → Type 0 where
  clears : LoadEnd named cells (outcome (count named) (zeros named ++ drop named cells))
  refuses : (x : ℕ) → LoadEnd named cells (outcome (refused_all x) cells)

load_end : (named : ℕ) (cells : List ℕ) → LoadEnd named cells (loaded named cells)
unfolding loaded
load_end named cells = go (leb named 16384) (leb named (length cells))
  where
    go : (a b : Bool) → LoadEnd named cells (pick a (pick b (outcome (count named) (zeros named ++ drop named cells)) (outcome (refused_all 12) cells)) (outcome (refused_all 11) cells))
    go true true = clears
    go true false = refuses 12
    go false b = refuses 11

first-zeros : (k n : ℕ) (xs : List ℕ) → k ≤ n → take k (zeros n ++ xs) ≡ zeros k
first-zeros k n xs h =
    let e : n ≡ k + (n - k) = omega arith in
    rw (e, ← replicate-append-replicate {A = ℕ} k (n - k) 0, append_assoc) (take_at (zeros k) (zeros (n - k) ++ xs) k (length-replicate k 0))

-- a load that named at least k has cleared the first k cells
cleared : (named : ℕ) (cells : List ℕ) → (loaded named cells).answer ≡ count named → (k : ℕ) → k ≤ named → take k (loaded named cells).buffer ≡ zeros k
cleared named cells e k h = go (loaded named cells) (load_end named cells) e
  where
    go : (l : Outcome) → LoadEnd named cells l → l.answer ≡ count named → take k l.buffer ≡ zeros k
    go l clears f = first-zeros k named (drop named cells) h
    go l (refuses x) f = absurd (let z : ◌≡◌ {A = ℕ} 0 1 = cc in omega arith)

-- after a load that named enough the block holds the cells of the empty history
pub load_holds : (n : ℕ) (t : Tree) → WellFormed t → Complete n t → (d : ℕ) → cells_before t n ≤ d
    → (named : ℕ) (cells : List ℕ) → (loaded named cells).answer ≡ count named → d ≤ named → HoldsPast n t 0 [] (loaded named cells).buffer
unfolding after
load_holds n t w c d enough named cells e h =
    record { inside = omega arith; cells = cleared named cells e (cells_before t n) (omega arith) ∙ (walk-right n t w c []).cells }

pub from_load : (n : ℕ) (t : Tree) → WellFormed t → Complete n t → (work : Program) → IsProgramOf n t work → (d : ℕ) → cells_before t n ≤ d → LawfulFromLoad n t work d
from_load n t w c work same d enough named cells e h =
    from_past n t w c work same 0 [] (loaded named cells).buffer (load_holds n t w c d enough named cells e h)

pub refused_load : (named from lent : ℕ) (cells : List ℕ) (x : ℕ) (p : ℤ) → (loaded named cells).answer ≡ refused x p → Refused (load_call named from lent) cells
refused_load named from lent cells x p e = record { number = x; place = p; nothing = go (loaded named cells) (load_end named cells) e }
  where
    go : (l : Outcome) → LoadEnd named cells l → l.answer ≡ refused x p → ran_as l.answer l.buffer [] ≡ ran_as (refused x p) cells []
    go l clears f = absurd (let z : ◌≡◌ {A = ℕ} 0 1 = cc in omega arith)
    go l (refuses y) f = cc
