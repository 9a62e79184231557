-- A refused call of any code changes nothing.
use Prim.Native.Nat.{ℕ}
use mathlib.Core.Path.{◌≡◌, ap}
use mathlib.Core.Bool.{Bool, true, false}
use mathlib.Core.List.{List}
use lib.IntN.{ℤ}
use lib.ListN.{length}
use Rattle.word.specs.Choice.{pick}
use Rattle.refusal.specs.Answer.Answer.{refused}
use Rattle.cells.specs.Block.{Ran, unchanged, refusal}
use Rattle.cells.proofs.Calls as calls
use Rattle.flat.specs.Code.{Code, decode, code_tick}
use Rattle.flat.specs.Check.{code_ok}
use Rattle.flat.specs.Run.{checks, ran}

module _ (code : List ℕ) (ticks : ℕ) (inputs controls cells outputs : List ℕ) (x : ℕ) (p : ℤ) where
  pub refused-nothing : (ran code ticks inputs controls cells outputs).answer ≡ refused x p → ran code ticks inputs controls cells outputs ≡ unchanged (refused x p) cells outputs
  unfolding ran
  refused-nothing = go (code_ok code)
    where
      result : Bool → Ran
      result a = pick a (checks (decode code) ticks inputs controls cells outputs) (refusal 13 cells outputs)

      go : (a : Bool) → (result a).answer ≡ refused x p → result a ≡ unchanged (refused x p) cells outputs
      go true e = let k : Code = decode code in calls.refused-nothing (code_tick k) k.inputs (length k.results) k.cells ticks inputs controls cells outputs x p e
      go false e = ap (λ a. unchanged a cells outputs) e
