-- With any probes that are not refused, answer, cells and outputs are those of the walk without probes.
use Prim.Native.Nat.{ℕ}
use mathlib.Core.Path.{◌≡◌, refl}
use mathlib.Core.Bool.{Bool, true, false}
use mathlib.Core.List.{List, []}
use native.Mathlib.Nat.{mul-zero}
use lib.Dec.{leb}
use lib.ListN.{length}
use Rattle.word.specs.Choice.{pick}
use Rattle.refusal.specs.Answer.{Answer, refused_all}
use Rattle.refusal.specs.Answer.Answer.{counts, refused}
use Rattle.cells.specs.Block.{refusal, called}
use Rattle.arity.specs.Tree.{ins, outs}
use Rattle.arity.specs.Table.{nodes, circuit}
use Rattle.arity.specs.Nodes.{cells_before}
use Rattle.arity.specs.Check.{checked}
use Rattle.calls.specs.Step.{step}
use Rattle.calls.specs.Probed.{probes_of, probes_ok, probes_fit, untouched, probed}
use Rattle.calls.proofs.SameWalk.{same-walk}
use Rattle.walker.specs.Walk.{walked, walked_by, walked_table, probed_circuit, probed_by, probed_table}
use Rattle.walker.specs.Walks.{SameAsWalk}

module _ (table xs : List ℕ) (ticks : ℕ) (inputs controls cells outputs latest recording : List ℕ)
    (ok : probes_ok (nodes table) (circuit table) xs ≡ true) (fit : probes_fit (length (probes_of xs)) ticks latest recording ≡ true) where
  same-circuit : (probed_circuit (nodes table) (circuit table) xs ticks inputs controls cells outputs latest recording).ran ≡ walked (nodes table) (circuit table) ticks inputs controls cells outputs
  unfolding probed_circuit walked
  same-circuit = go (leb (cells_before (circuit table) (nodes table)) 16384)
    where
      go : (b : Bool) → (pick b (probed (nodes table) (circuit table) xs ticks inputs controls cells outputs latest recording) (untouched (refused_all 11) cells outputs latest recording)).ran
          ≡ pick b (called (step (cells_before (circuit table)) (circuit table)) (ins (circuit table)) (outs (circuit table)) (cells_before (circuit table) (nodes table)) ticks inputs controls cells outputs) (refusal 11 cells outputs)
      go true = same-walk (nodes table) (circuit table) xs ticks inputs controls cells outputs latest recording ok fit
      go false = refl

  same_by : (a : Answer) → (probed_by a table xs ticks inputs controls cells outputs latest recording).ran ≡ walked_by a table ticks inputs controls cells outputs
  same_by (counts ks) = same-circuit
  same_by (refused r p) = refl

pub same_as_walk : (table : List ℕ) → SameAsWalk table
unfolding probed_table walked_table
same_as_walk table xs ticks inputs controls cells outputs latest recording ok fit = same_by table xs ticks inputs controls cells outputs latest recording ok fit (checked table)

-- no probes are never refused
pub no_probes : (table : List ℕ) (ticks : ℕ) (inputs controls cells outputs : List ℕ)
    → (probed_table table [] ticks inputs controls cells outputs [] []).ran ≡ walked_table table ticks inputs controls cells outputs
no_probes table ticks inputs controls cells outputs = same_as_walk table [] ticks inputs controls cells outputs [] [] refl (rw (mul-zero ticks))
