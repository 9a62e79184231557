-- No walk and no run reports more ticks than a call may bring, so that the report has room in an answer.
use Prim.Native.Nat.{ℕ, ◌≤◌}
use mathlib.Core.Path.{◌≡◌, sym, subst}
use mathlib.Core.Bool.{Bool, true, false}
use mathlib.Core.List.{List}
use native.Mathlib.Omega.{arith}
use lib.ListN.{length}
use lib.Dec.{leb}
use Rattle.word.specs.Choice.{pick}
use Rattle.word.specs.Limits.{most_ticks, most_cells}
use Rattle.refusal.specs.Answer.{Answer}
use Rattle.refusal.specs.Answer.Answer.{counts, refused}
use Rattle.cells.specs.Block.{Ran, report_of, ran_as, called}
use Rattle.cells.proofs.Calls.{few-reported}
use Rattle.arity.specs.Tree.{Tree, ins, outs}
use Rattle.arity.specs.Table.{nodes, circuit}
use Rattle.arity.specs.Nodes.{cells_before}
use Rattle.arity.specs.Check.{checked}
use Rattle.calls.specs.Step.{step}
use Rattle.calls.specs.Probed.{Probed, watches}
use Rattle.calls.proofs.SameWalk.{End, end}
use Rattle.calls.proofs.SameWalk.End.{watched, refuses}
use Rattle.walker.specs.Walk.{walked, walked_by, walked_table, probed_circuit, probed_by, probed_table}
use Rattle.flat.specs.Code.{decode, code_tick}
use Rattle.flat.specs.Check.{code_ok}
use Rattle.flat.specs.Run.{ran}

abbrev Few : Ran → Type 0
Few r = report_of r.answer ≤ most_ticks

-- what is few of a result is few of the answer in it
pub few-answer : {a : Answer} {cells outputs : List ℕ} (x : Ran) → ran_as a cells outputs ≡ x → Few x → report_of a ≤ most_ticks
few-answer x e f = subst (λ (y : Ran). Few y) (sym e) f

few_either : (b : Bool) (r s : Ran) → Few r → Few s → Few (pick b r s)
few_either true r s f g = f
few_either false r s f g = g

module _ (ticks : ℕ) (inputs controls cells outputs : List ℕ) where
  pub ran-few : (code : List ℕ) → Few (ran code ticks inputs controls cells outputs)
  unfolding ran
  ran-few code =
      let k = decode code in
      few_either (code_ok code) _ _ (few-reported (code_tick k) k.inputs (length k.results) k.cells ticks inputs controls cells outputs) (omega arith)

  pub walked-few : (table : List ℕ) → Few (walked_table table ticks inputs controls cells outputs)
  unfolding walked_table walked
  walked-few table = go (checked table)
    where
      go : (a : Answer) → Few (walked_by a table ticks inputs controls cells outputs)
      go (counts ks) =
          let t = circuit table in
          let n = nodes table in
          few_either (leb (cells_before t n) most_cells) _ _
          (few-reported (step (cells_before t) t) (ins t) (outs t) (cells_before t n) ticks inputs controls cells outputs) (omega arith)
      go (refused r p) = omega arith

  -- with probes, where it is not refused, it is the same walk
  module _ (xs latest recording : List ℕ) where
    ends_few : (n : ℕ) (t : Tree) {r : Probed} → End n t xs ticks inputs controls cells outputs latest recording r → Few r.ran
    unfolding watches called
    ends_few n t (watched p q r s) = rw (p, r) at (few-reported (step (cells_before t) t) (ins t) (outs t) (cells_before t n) ticks inputs controls cells outputs)
    ends_few n t (refuses x) = omega arith

    few-each : (b : Bool) (r s : Probed) → Few r.ran → Few s.ran → Few (pick b r s).ran
    few-each true r s f g = f
    few-each false r s f g = g

    pub probed-few : (table : List ℕ) → Few (probed_table table xs ticks inputs controls cells outputs latest recording).ran
    unfolding probed_table probed_circuit
    probed-few table = go (checked table)
      where
        go : (a : Answer) → Few (probed_by a table xs ticks inputs controls cells outputs latest recording).ran
        go (counts ks) =
            few-each (leb (cells_before (circuit table) (nodes table)) most_cells) _ _
            (ends_few (nodes table) (circuit table) (end (nodes table) (circuit table) xs ticks inputs controls cells outputs latest recording)) (omega arith)
        go (refused r p) = omega arith
