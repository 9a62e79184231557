-- How a caller reads an answer back from its parts: 0 or the refusal's number, the count or the place, and the report.
use Rattle.std.specs.Prelude.{ℕ, ◌/◌, ◌%◌, ◌^◌, ◌<◌, ◌≡◌, ℤ}
use Rattle.word.specs.Word.{low}
use Rattle.refusal.specs.Answer.{count}
use Rattle.refusal.specs.Answer.Answer.{refused}
use Rattle.cells.specs.Block.{with_report}
use Rattle.circuit.specs.Encoded.{encoded}

abbrev pub refusal_in : ℕ → ℕ
refusal_in answer = answer / 2 ^ 32 % 2 ^ 16

abbrev pub count_in : ℕ → ℕ
count_in answer = answer % 2 ^ 32

abbrev pub clipped_in : ℕ → ℕ
clipped_in answer = answer / 2 ^ 48

-- an answer has these parts
pub record Tells (answer refusal count clipped : ℕ) : Type 0 where
  pub refusal_is : refusal_in answer ≡ refusal
  pub count-is : count_in answer ≡ count
  pub clipped-is : clipped_in answer ≡ clipped

abbrev pub CountTells : Type 0
CountTells = (n : ℕ) → n < 2 ^ 32 → Tells (encoded (count n)) 0 n 0

abbrev pub ReportTells : Type 0
ReportTells = (n clips : ℕ) → n < 2 ^ 32 → Tells (encoded (with_report n clips)) 0 n clips

abbrev pub RefusalTells : Type 0
RefusalTells = (n : ℕ) (p : ℤ) → n < 2 ^ 16 → Tells (encoded (refused n p)) n (low p) 0
