-- The law of a list of calls where its premises just hold: a premise that asked for more would fail here.
use Prim.Native.Nat.{ℕ}
use mathlib.Core.Path.{◌≡◌, refl}
use mathlib.Core.List.{List, [], ◌++◌}
use native.Mathlib.Omega.{arith}
use lib.ListN.{length}
use Rattle.refusal.specs.Answer.{count}
use Rattle.cells.specs.Load.{loaded}
use Rattle.arity.specs.Tree.{Tree}
use Rattle.arity.specs.Nodes.{Complete, cells_before}
use Rattle.arity.specs.WellFormed.{WellFormed}
use Rattle.signal.specs.Signal.{History}
use Rattle.signal.specs.Contents.{cells_after}
use Rattle.calls.specs.Calls.{Program, Element, OthersRefused}
use Rattle.calls.specs.Law.{IsProgramOf, LawfulThroughout}
use Rattle.calls.proofs.Law.{holds_around}
use Rattle.calls.proofs.Throughout.{from_past}
use Rattle.calls.proofs.Loads.{from_load}

module _ (n : ℕ) (t : Tree) (w : WellFormed t) (c : Complete n t) (work : Program) (same : IsProgramOf n t work) where
  abbrev N : ℕ
  N = cells_before t n

  -- a load that named just the circuit's cells
  just_loaded : (cells : List ℕ) → (loaded N cells).answer ≡ count N → (list : List Element) → OthersRefused work 0 (loaded N cells).buffer list
      → LawfulThroughout n t work 0 [] (loaded N cells).buffer list
  just_loaded cells e = from_load n t w c work same N (omega arith) N cells e (omega arith)

  -- the cells of any past, with others before and behind them
  anywhere : (front behind : List ℕ) (past : History) (list : List Element) → OthersRefused work (length front) (front ++ (cells_after n t past ++ behind)) list
      → LawfulThroughout n t work (length front) past (front ++ (cells_after n t past ++ behind)) list
  anywhere front behind past =
      from_past n t w c work same (length front) past (front ++ (cells_after n t past ++ behind)) (holds_around n t w c (length front) past front behind refl)
