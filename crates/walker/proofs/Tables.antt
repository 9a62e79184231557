-- A walk of any table: what the check's answer makes of it.
use Prim.Native.Nat.{ℕ, ◌^◌, ◌<◌}
use mathlib.Core.Path.{◌≡◌, sym, ap}
use mathlib.Core.List.{List, [], ◌∷◌}
use lib.ListN.{length, get_or}
use Rattle.word.proofs.Each.{words_of}
use Rattle.refusal.specs.Answer.{Answer}
use Rattle.refusal.specs.Answer.Answer.{counts}
use Rattle.arity.specs.Check.{checked}
use Rattle.arity.specs.Survey.{surveyed}
use Rattle.arity.specs.Promise.{Promise}
use Rattle.arity.specs.Ready.{Ready}
use Rattle.arity.proofs.Modest.{promises}
use Rattle.arity.proofs.Promise.{promise, rows}
use Rattle.walker.specs.Ready.{Surveyed}
use Rattle.walker.specs.Walk.{probed_by, probed_table}

module _ (table : List ℕ) {n m i cells : ℕ} (accepted : counts (n ∷ m ∷ i ∷ cells ∷ []) ≡ checked table) (entries : (k : ℕ) → get_or table k 0 < 2 ^ 32) where
  promised : Promise table n m i cells
  promised = promise (sym accepted) (words_of table entries)

  pub ready : (shape : List ℕ) {shape' : List ℕ} → length shape ≡ 2048 → shape' ≡ surveyed table shape → Ready table shape'
  ready shape long s = record { few = promised.most; node = promised.node; row = rows shape (_, sym accepted) long s }

  pub has_survey : Surveyed table n m cells
  has_survey =
      record {
        promise = promises promised;
        least = promised.least;
        inputs_are = promised.counted.0;
        outputs_are = promised.counted.1;
        cells_are = promised.celled;
      }

pub probed_by_lem : (table xs : List ℕ) (ticks : ℕ) (inputs controls cells outputs latest recording : List ℕ) {a : Answer} → a ≡ checked table
    → probed_by a table xs ticks inputs controls cells outputs latest recording ≡ probed_table table xs ticks inputs controls cells outputs latest recording
unfolding probed_table
probed_by_lem table xs ticks inputs controls cells outputs latest recording e = ap (λ (x : Answer). probed_by x table xs ticks inputs controls cells outputs latest recording) e
