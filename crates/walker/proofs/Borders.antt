-- Walks at the border, 16,384 cells and a load that named just these, whatever the count of instructions: a premise that asked for more would fail here.
use Prim.Native.Nat.{ℕ}
use mathlib.Core.Path.{◌≡◌}
use mathlib.Core.List.{List, [], ◌∷◌}
use native.Mathlib.Omega.{arith}
use lib.ListN.{length, length-replicate}
use lib.Seq.{take_all}
use Rattle.word.specs.Tick.{Words, zeros}
use Rattle.refusal.specs.Answer.{count}
use Rattle.refusal.specs.Answer.Answer.{counts}
use Rattle.cells.specs.Load.{loaded}
use Rattle.arity.specs.Table.{nodes, circuit}
use Rattle.arity.specs.Check.{checked}
use Rattle.signal.specs.Signal.{History}
use Rattle.calls.specs.Calls.{Element, OthersRefused}
use Rattle.calls.specs.Law.{HoldsPast, LawfulThroughout}
use Rattle.calls.specs.Probed.{probes_of}
use Rattle.calls.specs.ProbedCalls.{ProbedElement, OtherCallsRefused}
use Rattle.calls.specs.Recorded.{RecordedThroughout}
use Rattle.walker.specs.Walks.{walk_of, probed_walk_of}
use Rattle.walker.proofs.WalkList.{walks_lawful, walks_go_on}
use Rattle.walker.proofs.ProbedList.{walks-recorded}

module _ (table : List ℕ) (n m i : ℕ) (k : checked table ≡ counts (n ∷ m ∷ i ∷ 16384 ∷ [])) (words : Words table) where
  largest_walks : (cells : List ℕ) → (loaded 16384 cells).answer ≡ count 16384 → (list : List Element) → OthersRefused (walk_of table) 0 (loaded 16384 cells).buffer list
      → LawfulThroughout (nodes table) (circuit table) (walk_of table) 0 [] (loaded 16384 cells).buffer list
  largest_walks cells e = walks_lawful table n m i 16384 k words (omega arith) 16384 cells e (omega arith)

  largest_goes_on : (at : ℕ) (past : History) (block : List ℕ) → HoldsPast (nodes table) (circuit table) at past block → (list : List Element)
      → OthersRefused (walk_of table) at block list → LawfulThroughout (nodes table) (circuit table) (walk_of table) at past block list
  largest_goes_on = walks_go_on table n m i 16384 k words (omega arith)

  -- and with probes, with a list of just one number a probe
  largest_records : (probes cells : List ℕ) → (loaded 16384 cells).answer ≡ count 16384 → (elements : List ProbedElement)
      → OtherCallsRefused (probed_walk_of table probes) 0 (loaded 16384 cells).buffer (zeros (length (probes_of probes))) elements
      → RecordedThroughout (nodes table) (circuit table) probes (walk_of table) (probed_walk_of table probes) 0 [] (loaded 16384 cells).buffer (zeros (length (probes_of probes))) elements
  largest_records probes cells e =
      walks-recorded table probes n m i 16384 k words (omega arith) 16384 cells (zeros (length (probes_of probes))) e (omega arith)
      (take_all (length (probes_of probes)) (zeros (length (probes_of probes))) (rw length-replicate (omega arith)))
