-- A run of a circuit's translation is a walk of the circuit: from any cells, the same complete result.
use Prim.Native.Nat.{ℕ, ◌*◌}
use mathlib.Core.Path.{◌≡◌, refl, ap}
use mathlib.Core.Bool.{Bool, true, false}
use mathlib.Core.List.{List, ◌++◌}
use lib.ListN.{length, take, drop}
use lib.Dec.{leb}
use Rattle.word.specs.Choice.{◌and◌, pick}
use Rattle.cells.specs.Block.{with_report, Ran, ran_as, refusal, Played, block_ok, answered, called}
use Rattle.cells.proofs.Calls.{block_says}
use Rattle.arity.specs.Tree.{Tree, ins, outs}
use Rattle.arity.specs.Nodes.{Complete, cells_before}
use Rattle.arity.specs.Promise.{Small}
use Rattle.arity.specs.WellFormed.{WellFormed}
use Rattle.calls.specs.Step.{step}
use Rattle.flat.specs.Code.{encode, code_tick}
use Rattle.flat.specs.Run.{ran}
use Rattle.flat.proofs.Encoding.{decode-encode}
use Rattle.translator.specs.Translated.{translation}
use Rattle.translator.proofs.Checked.{translation-ok, results-length}
use Rattle.translator.proofs.Ticks.{played-same}

module _ (n : ℕ) (t : Tree) (w : WellFormed t) (c : Complete n t) (ticks : ℕ) (inputs controls cells outputs : List ℕ) where
  -- the ticks of the translation and of the circuit are the same where row 14 lets the block pass
  same_answer : block_ok (ins t) ticks inputs controls ≡ true
      → answered (code_tick (translation n t)) (ins t) (outs t) (cells_before t n) ticks inputs controls cells outputs
      ≡ answered (step (cells_before t) t) (ins t) (outs t) (cells_before t n) ticks inputs controls cells outputs
  unfolding answered
  same_answer e =
      ap (λ (s : Played). ran_as (with_report (ticks * outs t) s.clips) (s.cells ++ drop (cells_before t n) cells) (s.outputs ++ drop (ticks * outs t) outputs))
      (played-same n t w ticks controls inputs (take (cells_before t n) cells) (block_says (ins t) ticks inputs controls e).ins)

  same-call : called (code_tick (translation n t)) (ins t) (outs t) (cells_before t n) ticks inputs controls cells outputs
      ≡ called (step (cells_before t) t) (ins t) (outs t) (cells_before t n) ticks inputs controls cells outputs
  unfolding called
  same-call = go (block_ok (ins t) ticks inputs controls) refl
    where
      room : Bool
      room = leb (cells_before t n) (length cells) and leb (ticks * outs t) (length outputs)

      go : (b : Bool) → block_ok (ins t) ticks inputs controls ≡ b
          → pick b (pick room (answered (code_tick (translation n t)) (ins t) (outs t) (cells_before t n) ticks inputs controls cells outputs) (refusal 12 cells outputs)) (refusal 14 cells outputs)
          ≡ pick b (pick room (answered (step (cells_before t) t) (ins t) (outs t) (cells_before t n) ticks inputs controls cells outputs) (refusal 12 cells outputs)) (refusal 14 cells outputs)
      go true e = ap (λ (r : Ran). pick room r (refusal 12 cells outputs)) (same_answer e)
      go false e = refl

  pub run_is_walk : Small n t → ran (encode (translation n t)) ticks inputs controls cells outputs
      ≡ called (step (cells_before t) t) (ins t) (outs t) (cells_before t n) ticks inputs controls cells outputs
  unfolding ran translation
  run_is_walk small =
      rw (translation-ok n t w c small.inputs small.outputs small.instructions small.cells, decode-encode (translation n t))
      (rw (results-length n t w) same-call)
