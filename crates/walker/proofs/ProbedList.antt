-- Any list of walks with probes of an accepted table, and refused ones of any table and probes: what they record is the meaning of each wire.
use Prim.Native.Nat.{ℕ, ◌≤◌}
use mathlib.Core.Path.{◌≡◌, refl, ap}
use mathlib.Core.Bool.{Bool, true, false}
use mathlib.Core.List.{List, [], ◌∷◌}
use native.Mathlib.Omega.{arith}
use lib.IntN.{ℤ}
use lib.Dec.{leb}
use Rattle.word.specs.Tick.{Words}
use Rattle.word.specs.Choice.{pick}
use Rattle.word.proofs.Lists.{is-most}
use Rattle.refusal.specs.Answer.{Answer, refused_all}
use Rattle.refusal.specs.Answer.Answer.{counts, refused}
use Rattle.arity.specs.Table.{nodes, circuit}
use Rattle.arity.specs.Nodes.{cells_before}
use Rattle.arity.specs.Check.{checked}
use Rattle.arity.proofs.Promise.{promise}
use Rattle.calls.specs.Probed.{Probed, untouched, probed}
use Rattle.calls.specs.ProbedCalls.{ProbedArguments, ProbedProgram, RefusedProbed}
use Rattle.calls.specs.Recorded.{IsProbedProgramOf}
use Rattle.calls.proofs.Plainly.{walk_refused}
use Rattle.calls.proofs.RecordedCut.{recorded_from_past, recorded_from_load}
use Rattle.walker.specs.Walk.{probed_circuit, probed_by, probed_table}
use Rattle.walker.specs.Walks.{walk_of, probed_walk_of, probed_walk_call, WalksRecorded, WalksRecordOn}
use Rattle.walker.proofs.WalkList.{own-walk}

-- a refused walk with probes, of any table, changes nothing: it is one of the calls that may lie between
module _ (table xs : List ℕ) (a : ProbedArguments) (cells latest : List ℕ) (x : ℕ) (p : ℤ) where
  abbrev nothing : Probed
  nothing = untouched (refused x p) cells a.walk.outputs latest a.recording

  circuit-nothing : (probed_circuit (nodes table) (circuit table) xs a.walk.ticks a.walk.inputs a.walk.controls cells a.walk.outputs latest a.recording).ran.answer ≡ refused x p
      → probed_circuit (nodes table) (circuit table) xs a.walk.ticks a.walk.inputs a.walk.controls cells a.walk.outputs latest a.recording ≡ nothing
  unfolding probed_circuit
  circuit-nothing = go (leb (cells_before (circuit table) (nodes table)) 16384)
    where
      program : ProbedProgram
      program b cs vs = probed (nodes table) (circuit table) xs b.walk.ticks b.walk.inputs b.walk.controls cs b.walk.outputs vs b.recording

      result : Bool → Probed
      result b = pick b (program a cells latest) (untouched (refused_all 11) cells a.walk.outputs latest a.recording)

      go : (b : Bool) → (result b).ran.answer ≡ refused x p → result b ≡ nothing
      go true g = walk_refused (nodes table) (circuit table) xs program (λ b cs vs. refl) a cells latest x p g
      go false g = ap (λ z. untouched z cells a.walk.outputs latest a.recording) g

  walk-nothing : (probed_walk_of table xs a cells latest).ran.answer ≡ refused x p → probed_walk_of table xs a cells latest ≡ nothing
  unfolding probed_table
  walk-nothing = go (checked table)
    where
      go : (b : Answer) → (probed_by b table xs a.walk.ticks a.walk.inputs a.walk.controls cells a.walk.outputs latest a.recording).ran.answer ≡ refused x p
          → probed_by b table xs a.walk.ticks a.walk.inputs a.walk.controls cells a.walk.outputs latest a.recording ≡ nothing
      go (counts ks) g = circuit-nothing g
      go (refused y z) g = ap (λ w. untouched w cells a.walk.outputs latest a.recording) g

  pub refused_probed_walk : (from : ℕ) → (probed_walk_of table xs a cells latest).ran.answer ≡ refused x p → RefusedProbed (probed_walk_call table xs a from) cells latest
  refused_probed_walk from e = record { number = x; place = p; nothing = walk-nothing e }

module _ (table xs : List ℕ) (n m i d : ℕ) (k : checked table ≡ counts (n ∷ m ∷ i ∷ d ∷ [])) (words : Words table) (few : d ≤ 16384) where
  own-probed : IsProbedProgramOf (nodes table) (circuit table) xs (probed_walk_of table xs)
  unfolding probed_table probed_circuit
  own-probed a cells latest = rw (k, is-most (cells_before (circuit table) (nodes table)) 16384 (omega (arith, (promise k words).celled)))

pub walks_record_on : (table : List ℕ) → WalksRecordOn table
walks_record_on table xs n m i d k words few =
    let g = promise k words in
    recorded_from_past (nodes table) (circuit table) g.well_formed g.complete xs (walk_of table) (own-walk table n m i d k words (omega arith)) (probed_walk_of table xs) (own-probed table xs n m i d k words (omega arith))

pub walks-recorded : (table : List ℕ) → WalksRecorded table
walks-recorded table xs n m i d k words few =
    let g = promise k words in
    recorded_from_load (nodes table) (circuit table) g.well_formed g.complete xs (walk_of table) (own-walk table n m i d k words (omega arith)) (probed_walk_of table xs) (own-probed table xs n m i d k words (omega arith)) _ (omega (arith, g.celled))
