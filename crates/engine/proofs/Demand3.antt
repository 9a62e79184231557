-- Demand 3, proved for every table.
use Prim.Native.Nat.{ℕ, ◌*◌}
use mathlib.Core.Path.{◌≡◌, sym, ap, ◌∙◌}
use mathlib.Core.Bool.{Bool, true, false}
use mathlib.Core.List.{List}
use native.Mathlib.Omega.{arith}
use lib.IntN.{ℤ}
use lib.ListN.{length}
use lib.Dec.{leb}
use Rattle.word.specs.Choice.{◌and◌, pick}
use Rattle.refusal.specs.Answer.Answer.{refused}
use Rattle.cells.specs.Block.{Ran, refusal, block_ok, answered, called}
use Rattle.arity.specs.Tree.{ins, outs}
use Rattle.arity.specs.Table.{nodes, circuit}
use Rattle.arity.specs.Nodes.{cells_before}
use Rattle.arity.specs.Promise.{Promise}
use Rattle.arity.proofs.Promise.{promise}
use Rattle.calls.specs.Calls.{Arguments, Refused}
use Rattle.calls.specs.Law.{IsProgramOf}
use Rattle.calls.proofs.Walks.{walks}
use Rattle.calls.proofs.Throughout.{from_past}
use Rattle.calls.proofs.Loads.{from_load}
use Rattle.flat.proofs.Refused.{refused-nothing}
use Rattle.translator.specs.Translated.{translated}
use Rattle.translator.proofs.Delivered.{is_delivered, was_accepted, delivered}
use Rattle.engine.specs.Runs.{run_of, run_call}
use Rattle.engine.specs.Demand3.{Runnable, Demand3, RunsGoOn, Never13, DeliveredRuns}
use Rattle.engine.proofs.Alike.{run_is_walk}

-- a refused run of any code changes nothing: it is one of the calls that may lie between
pub refused_run : (code : List ℕ) (a : Arguments) (from : ℕ) (cells : List ℕ) (x : ℕ) (p : ℤ) → (run_of code a cells).answer ≡ refused x p → Refused (run_call code a from) cells
refused_run code a from cells x p e = record { number = x; place = p; nothing = refused-nothing code a.ticks a.inputs a.controls cells a.outputs x p e }

module _ (table : List ℕ) (d : ℕ) (r : Runnable table d) where
  p : Promise table r.inputs r.outputs r.instructions d
  p = promise r.accepted r.words

  own_run : IsProgramOf (nodes table) (circuit table) (run_of (translated table))
  unfolding translated
  own_run a cells = run_is_walk (nodes table) (circuit table) p.well_formed p.complete a.ticks a.inputs a.controls cells a.outputs (p.small (omega (arith, r.short)) (omega (arith, r.few)))

pub demand_3 : (table : List ℕ) → Demand3 table
demand_3 table d r = from_load (nodes table) (circuit table) (p table d r).well_formed (p table d r).complete (run_of (translated table)) (own_run table d r) _ (omega (arith, (p table d r).celled, r.few))

pub runs_go_on : (table : List ℕ) → RunsGoOn table
runs_go_on table d r = from_past (nodes table) (circuit table) (p table d r).well_formed (p table d r).complete (run_of (translated table)) (own_run table d r)

pub no_13 : (table : List ℕ) → Never13 table
unfolding called answered
no_13 table d r a cells q g =
    let t = circuit table in
    go (block_ok (ins t) a.ticks a.inputs a.controls) (leb (cells_before t (nodes table)) (length cells) and leb (a.ticks * outs t) (length a.outputs))
    (sym (ap (λ (x : Ran). x.answer) (own_run table d r a cells)) ∙ g)
  where
    go : (x y : Bool) → (pick x (pick y (walks (nodes table) (circuit table) a.ticks a.inputs a.controls cells a.outputs) (refusal 12 cells a.outputs)) (refusal 14 cells a.outputs)).answer ≡ refused 13 q → ⊥
    go true true h = let z : ◌≡◌ {A = ℕ} 0 1 = cc in omega arith
    go true false h = let z : ◌≡◌ {A = ℕ} 12 13 = cc in omega arith
    go false y h = let z : ◌≡◌ {A = ℕ} 14 13 = cc in omega arith

pub delivered_runs : (table : List ℕ) → DeliveredRuns table
delivered_runs table code code' c t words =
    let d = is_delivered table code t in
    let r : Runnable table _ = record { inputs = _; outputs = _; instructions = _; accepted = was_accepted table code t; words = words; short = d.short; few = d.few } in
    rw (delivered table code t words) (demand_3 table _ r)
