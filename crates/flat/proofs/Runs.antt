-- The complete result of a call, refusal by refusal.
use Prim.Native.Nat.{ℕ, ◌*◌, ◌≤◌, ◌<◌}
use mathlib.Core.Path.{◌≡◌, ap, ◌∙◌}
use mathlib.Core.Bool.{true, false}
use mathlib.Core.List.{List, ◌++◌}
use native.Mathlib.Omega.{arith}
use lib.ListN.{length, take, drop, length-drop}
use lib.Seq.{length-take-le}
use Rattle.word.specs.Tick.{Tick, Stepped}
use Rattle.refusal.specs.Answer.{refused_all}
use Rattle.cells.specs.Block.{with_report, ran_as, ticks_of, played_as, played, block_ok, called}
use Rattle.cells.proofs.Calls as calls
use Rattle.cells.proofs.Calls.{few, Block, block_says}
use Rattle.flat.specs.Code.{results_at, decode, code_tick, input_count, output_count, instruction_count, cell_count}
use Rattle.flat.specs.Check.{code_ok}
use Rattle.flat.specs.Run.{ran, checks}
use Rattle.flat.specs.Steps.{Checked, Playable}

pub samples-few : (code : List ℕ) → Checked code → (ticks : ℕ) (inputs controls : List ℕ) → block_ok (input_count code) ticks inputs controls ≡ true
    → {t m : ℕ} → t ≡ ticks → m ≡ output_count code → t * m ≤ 131072
samples-few code w ticks inputs controls e {t} {m} et em =
    few t m 32 (omega (arith, (block_says (input_count code) ticks inputs controls e).short)) (omega (arith, w.head.outs))

pub refused_13 : (code : List ℕ) (ticks : ℕ) (inputs controls cells outputs : List ℕ) → code_ok code ≡ false
    → ran_as (refused_all 13) cells outputs ≡ ran code ticks inputs controls cells outputs
unfolding ran
refused_13 code ticks inputs controls cells outputs e = rw e

pub passed_13 : (code : List ℕ) (ticks : ℕ) (inputs controls cells outputs : List ℕ) → code_ok code ≡ true
    → checks (decode code) ticks inputs controls cells outputs ≡ ran code ticks inputs controls cells outputs
unfolding ran
passed_13 code ticks inputs controls cells outputs e = rw e

-- a call of a code that passed the check, in the numbers of its header
module _ (code : List ℕ) (w : Checked code) (ticks : ℕ) (inputs controls cells outputs : List ℕ) where
  results-length : length (decode code).results ≡ output_count code
  unfolding decode
  results-length = length-take-le (output_count code) (drop (results_at (instruction_count code)) code) (rw length-drop (omega (arith, w.head.long)))

  abbrev g : Tick → List ℕ → Stepped
  g = code_tick (decode code)

  opened : called g (input_count code) (output_count code) (cell_count code) ticks inputs controls cells outputs ≡ checks (decode code) ticks inputs controls cells outputs
  unfolding decode
  opened = rw results-length

  pub wrong_block : block_ok (input_count code) ticks inputs controls ≡ false → ran_as (refused_all 14) cells outputs ≡ checks (decode code) ticks inputs controls cells outputs
  wrong_block e = calls.wrong_block g (input_count code) (output_count code) (cell_count code) ticks inputs controls cells outputs e ∙ opened

  -- the counts as the code has them
  module _ (block : block_ok (input_count code) ticks inputs controls ≡ true) {k t m : ℕ} (ek : k ≡ cell_count code) (et : t ≡ ticks) (em : m ≡ output_count code) where
    pub cells-short : length cells < k → ran_as (refused_all 12) cells outputs ≡ checks (decode code) ticks inputs controls cells outputs
    cells-short c = calls.cells-short g (input_count code) (output_count code) (cell_count code) ticks inputs controls cells outputs block (rw ek at c) ∙ opened

    module _ (c : k ≤ length cells) where
      pub playable : t * m ≤ length outputs → Playable code t inputs controls (take k cells) (take (t * m) outputs)
      playable d =
          let b : Block (input_count code) ticks inputs controls = block_says (input_count code) ticks inputs controls block in
          record {
            checked = w;
            few = omega (arith, et, b.short);
            ins = rw et b.ins;
            outs = length-take-le (t * m) outputs d ∙ ap (λ j. t * j) em;
            all = length-take-le k cells c ∙ ek;
            sixteen = b.sixteen;
          }

      pub outputs-short : length outputs < t * m → ran_as (refused_all 12) cells outputs ≡ checks (decode code) ticks inputs controls cells outputs
      outputs-short d = calls.outputs-short g (input_count code) (output_count code) (cell_count code) ticks inputs controls cells outputs block (rw ek at c) (rw (et, em) at d) ∙ opened

      pub accepted : t * m ≤ length outputs → (ys cs : List ℕ) (clips : ℕ)
          → played (code_tick (decode code)) (ticks_of (input_count code) controls t inputs) (take k cells) ≡ played_as ys cs clips
          → ran_as (with_report (t * m) clips) (cs ++ drop k cells) (ys ++ drop (t * m) outputs) ≡ checks (decode code) ticks inputs controls cells outputs
      accepted d ys cs clips e =
          rw (ek, et, em)
          (calls.accepted g (input_count code) (output_count code) (cell_count code) ticks inputs controls cells outputs block (rw ek at c) (rw (et, em) at d) ys cs clips (rw (et, ek) at e) ∙ opened)
