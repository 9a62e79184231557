-- Demand 3 at its borders: a premise that asked for more would fail here, and so would a conclusion that said less.
use Prim.Native.Nat.{ℕ, ◌≤◌}
use mathlib.Core.Path.{◌≡◌}
use mathlib.Core.List.{List, [], ◌∷◌}
use native.Mathlib.Omega.{arith}
use lib.IntN.{ℤ}
use lib.ListN.{take}
use Rattle.word.specs.Tick.{Words}
use Rattle.refusal.specs.Answer.{count}
use Rattle.refusal.specs.Answer.Answer.{counts, refused}
use Rattle.refusal.specs.Outcome.{outcome}
use Rattle.cells.specs.Load.{loaded}
use Rattle.arity.specs.Table.{nodes, circuit}
use Rattle.arity.specs.Check.{checked}
use Rattle.arity.proofs.Borders.{four_delays, four_delays_accepted, four_delays_words, integrator, integrator_accepted, integrator_words, ondemand_cable, ondemand-accepted, ondemand-words, short_delay, short_delay_accepted, short_delay_words}
use Rattle.arity.proofs.Promise.{promise}
use Rattle.signal.specs.Signal.{History}
use Rattle.calls.specs.Calls.{Arguments, Element, OthersRefused}
use Rattle.calls.specs.Law.{HoldsPast, LawfulThroughout}
use Rattle.translator.specs.Translated.{translated}
use Rattle.translator.specs.Translate.{translated_table}
use Rattle.engine.specs.Runs.{run_of}
use Rattle.engine.specs.Demand3.{Runnable}
use Rattle.engine.proofs.Demand3.{demand_3, runs_go_on, no_13, delivered_runs}

-- what the runs of a table's code have after a load that named `named` cells
abbrev pub LawfulRuns : List ℕ → ℕ → Type 0
LawfulRuns table named = (cells : List ℕ) → (loaded named cells).answer ≡ count named
    → (list : List Element) → OthersRefused (run_of (translated table)) 0 (loaded named cells).buffer list
    → LawfulThroughout (nodes table) (circuit table) (run_of (translated table)) 0 [] (loaded named cells).buffer list

runnable : (table : List ℕ) (n m i d : ℕ) → checked table ≡ counts (n ∷ m ∷ i ∷ d ∷ []) → Words table → i ≤ 2048 → d ≤ 16384 → Runnable table d
runnable table n m i d k w s f = record { inputs = n; outputs = m; instructions = i; accepted = k; words = w; short = s; few = f }

-- 2,048 instructions and 16,384 cells, and a load that named just these
module _ (table : List ℕ) (n m : ℕ) (k : checked table ≡ counts (n ∷ m ∷ 2048 ∷ 16384 ∷ [])) (w : Words table) where
  largest : Runnable table 16384
  largest = runnable table n m 2048 16384 k w (omega arith) (omega arith)

  largest_lawful : LawfulRuns table 16384
  largest_lawful cells e = demand_3 table 16384 largest 16384 cells e (omega arith)

  largest_goes_on : (at : ℕ) (past : History) (block : List ℕ) → HoldsPast (nodes table) (circuit table) at past block → (list : List Element)
      → OthersRefused (run_of (translated table)) at block list → LawfulThroughout (nodes table) (circuit table) (run_of (translated table)) at past block list
  largest_goes_on = runs_go_on table 16384 largest

  largest_no_13 : (a : Arguments) (cells : List ℕ) (p : ℤ) → (run_of (translated table) a cells).answer ≡ refused 13 p → ⊥
  largest_no_13 = no_13 table 16384 largest

-- "Four delays of D 4095 fit 16,384 cells"
four_delays_lawful : LawfulRuns four_delays 16384
four_delays_lawful cells e = demand_3 four_delays 16384 (runnable four_delays 8 4 4 16384 four_delays_accepted four_delays_words (omega arith) (omega arith)) 16384 cells e (omega arith)

-- the integrator, and a load that named its one cell
pub integrator_lawful : LawfulRuns integrator 1
integrator_lawful cells e = demand_3 integrator 1 (runnable integrator 1 1 3 1 integrator_accepted integrator_words (omega arith) (omega arith)) 1 cells e (omega arith)

-- the same of the 20 numbers that `translate` has written
integrator_delivered : (code code' : List ℕ) → outcome (count 20) code' ≡ translated_table integrator code → (cells : List ℕ) → (loaded 1 cells).answer ≡ count 1
    → (list : List Element) → OthersRefused (run_of (take 20 code')) 0 (loaded 1 cells).buffer list
    → LawfulThroughout (nodes integrator) (circuit integrator) (run_of (take 20 code')) 0 [] (loaded 1 cells).buffer list
integrator_delivered code code' t cells e =
    delivered_runs integrator code code' 20 t integrator_words 1 cells e (omega (arith, (promise integrator_accepted integrator_words).celled))

-- an ondemand cable, and a load that named its one cell
pub ondemand_lawful : LawfulRuns ondemand_cable 1
ondemand_lawful cells e = demand_3 ondemand_cable 1 (runnable ondemand_cable 2 1 3 1 ondemand-accepted ondemand-words (omega arith) (omega arith)) 1 cells e (omega arith)

-- a delay of D 1, and a load that named its two cells
pub delay_lawful : LawfulRuns short_delay 2
delay_lawful cells e = demand_3 short_delay 2 (runnable short_delay 2 1 1 2 short_delay_accepted short_delay_words (omega arith) (omega arith)) 2 cells e (omega arith)
