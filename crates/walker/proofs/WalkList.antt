-- Any list of walks of an accepted table, and refused walks of any table: the samples and the cells of the meaning.
use Prim.Native.Nat.{ℕ, ◌≤◌}
use mathlib.Core.Path.{◌≡◌, ap}
use mathlib.Core.Bool.{Bool, true, false}
use mathlib.Core.List.{List, [], ◌∷◌}
use native.Mathlib.Omega.{arith}
use lib.IntN.{ℤ}
use lib.Dec.{leb}
use Rattle.word.specs.Tick.{Words}
use Rattle.word.specs.Choice.{pick}
use Rattle.word.proofs.Lists.{is-most}
use Rattle.refusal.specs.Answer.{Answer}
use Rattle.refusal.specs.Answer.Answer.{counts, refused}
use Rattle.cells.specs.Block.{Ran, unchanged, refusal, called}
use Rattle.cells.proofs.Calls as calls
use Rattle.arity.specs.Tree.{Tree, ins, outs}
use Rattle.arity.specs.Table.{nodes, circuit}
use Rattle.arity.specs.Nodes.{cells_before}
use Rattle.arity.specs.Check.{checked}
use Rattle.arity.proofs.Promise.{promise}
use Rattle.calls.specs.Step.{step}
use Rattle.calls.specs.Calls.{Arguments, Refused}
use Rattle.calls.specs.Law.{IsProgramOf}
use Rattle.calls.proofs.Throughout.{from_past}
use Rattle.calls.proofs.Loads.{from_load}
use Rattle.walker.specs.Walk.{walked, walked_by, walked_table}
use Rattle.walker.specs.Walks.{walk_of, walk_call, WalksLawful, WalksGoOn}

-- a refused walk of any table changes nothing: it is one of the calls that may lie between
module _ (table : List ℕ) (a : Arguments) (cells : List ℕ) (x : ℕ) (p : ℤ) where
  abbrev n : ℕ
  n = nodes table

  abbrev t : Tree
  t = circuit table

  circuit-nothing : (walked n t a.ticks a.inputs a.controls cells a.outputs).answer ≡ refused x p
      → walked n t a.ticks a.inputs a.controls cells a.outputs ≡ unchanged (refused x p) cells a.outputs
  unfolding walked
  circuit-nothing = go (leb (cells_before t n) 16384)
    where
      result : Bool → Ran
      result b = pick b (called (step (cells_before t) t) (ins t) (outs t) (cells_before t n) a.ticks a.inputs a.controls cells a.outputs) (refusal 11 cells a.outputs)

      go : (b : Bool) → (result b).answer ≡ refused x p → result b ≡ unchanged (refused x p) cells a.outputs
      go true g = calls.refused-nothing (step (cells_before t) t) (ins t) (outs t) (cells_before t n) a.ticks a.inputs a.controls cells a.outputs x p g
      go false g = ap (λ z. unchanged z cells a.outputs) g

  walk-nothing : (walk_of table a cells).answer ≡ refused x p → walk_of table a cells ≡ unchanged (refused x p) cells a.outputs
  unfolding walked_table
  walk-nothing = go (checked table)
    where
      go : (b : Answer) → (walked_by b table a.ticks a.inputs a.controls cells a.outputs).answer ≡ refused x p
          → walked_by b table a.ticks a.inputs a.controls cells a.outputs ≡ unchanged (refused x p) cells a.outputs
      go (counts ks) g = circuit-nothing g
      go (refused y z) g = ap (λ z. unchanged z cells a.outputs) g

  pub refused-walk : (from : ℕ) → (walk_of table a cells).answer ≡ refused x p → Refused (walk_call table a from) cells
  refused-walk from e = record { number = x; place = p; nothing = walk-nothing e }

module _ (table : List ℕ) (n m i d : ℕ) (k : checked table ≡ counts (n ∷ m ∷ i ∷ d ∷ [])) (words : Words table) (few : d ≤ 16384) where
  pub own-walk : IsProgramOf (nodes table) (circuit table) (walk_of table)
  unfolding walked_table walked
  own-walk a cells =
      rw (k, is-most (cells_before (circuit table) (nodes table)) 16384 (omega (arith, (promise k words).celled)))

pub walks_go_on : (table : List ℕ) → WalksGoOn table
walks_go_on table n m i d k words few =
    let g = promise k words in
    from_past (nodes table) (circuit table) g.well_formed g.complete (walk_of table) (own-walk table n m i d k words (omega arith))

pub walks_lawful : (table : List ℕ) → WalksLawful table
walks_lawful table n m i d k words few =
    let g = promise k words in
    from_load (nodes table) (circuit table) g.well_formed g.complete (walk_of table) (own-walk table n m i d k words (omega arith)) _ (omega (arith, g.celled))
