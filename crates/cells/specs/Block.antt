-- A block of ticks that is worked in one call: what the call brings, and its complete result.
use Rattle.std.specs.Prelude.{ℕ, zero, suc, ◌+◌, ◌*◌, Bool, List, [], ◌∷◌, ◌++◌, length, get_or, drop, take, eqb, leb, Result, Ok, Err}
use Rattle.word.specs.Choice.{pick, ◌and◌, bit}
use Rattle.word.specs.Limits.{control_count, most_ticks}
use Rattle.word.specs.Tick.{Tick, tick, Stepped, head_or}
use Rattle.refusal.specs.declared.Refusal.{Refusal}
use Rattle.refusal.specs.Answer.{Answer, count, refused_all, refusal_of}
use Rattle.refusal.specs.Answer.Answer.{counts, refused}
use Rattle.cells.specs.declared.Samples.{Samples}

-- the answer of walker or runner: the count of samples and, beside it, E6, "in how many ticks of the call at least one delay that was worked in that tick
-- was clipped"
abbrev pub with_report : ℕ → ℕ → Answer
with_report samples clips = counts (samples ∷ clips ∷ [])

abbrev pub answer_of : Result Samples Refusal → Answer
answer_of (Ok s) = with_report s.count s.clipped
answer_of (Err r) = refusal_of r

-- how much was written, and what was reported: a refused call has no report
abbrev pub counted : Answer → ℕ
counted (counts ks) = head_or 0 ks
counted (refused r p) = 0

abbrev pub report_of : Answer → ℕ
report_of (counts ks) = get_or ks 1 0
report_of (refused r p) = 0

-- an answer apart from its report
abbrev pub without_report : Answer → Answer
without_report (counts ks) = count (head_or 0 ks)
without_report (refused r p) = refused r p

-- the complete result of a call of walker or runner
pub record Ran : Type 0 where
  pub answer : Answer
  pub cells : List ℕ
  pub outputs : List ℕ

-- an answer with the cells and the output buffer after the call
abbrev pub ran_as : Answer → List ℕ → List ℕ → Ran
ran_as a cells outputs = record { answer = a; cells = cells; outputs = outputs }

-- "A refusal writes to no lent buffer."
abbrev pub unchanged : Answer → List ℕ → List ℕ → Ran
unchanged a cells outputs = ran_as a cells outputs

abbrev pub refusal : ℕ → List ℕ → List ℕ → Ran
refusal r cells outputs = unchanged (refused_all r) cells outputs

-- the ticks of a call: its inputs tick after tick, n to a tick, and the controls that hold for the call
abbrev pub ticks_of : ℕ → List ℕ → ℕ → List ℕ → List Tick
ticks_of n controls zero inputs = []
ticks_of n controls (suc k) inputs = tick (take n inputs) controls ∷ ticks_of n controls k (drop n inputs)

-- what ticks leave: all outputs, the first tick first, the cells after the last, and in how many of them a delay was clipped
pub record Played : Type 0 where
  pub outputs : List ℕ
  pub cells : List ℕ
  pub clips : ℕ

abbrev pub played_as : List ℕ → List ℕ → ℕ → Played
played_as ys cs k = record { outputs = ys; cells = cs; clips = k }

-- ticks one after another
unfoldable pub played : (Tick → List ℕ → Stepped) → List Tick → List ℕ → Played
played g [] cs = played_as [] cs 0
played g (f ∷ fs) cs =
    let s = g f cs in
    let r = played g fs s.cells in
    played_as (s.outputs ++ r.outputs) r.cells (bit s.clipped + r.clips)

-- row 14 does not apply to a call for n inputs: "ticks not 0 to 4,096; inputs not ticks × n; controls not 16"
abbrev pub block_ok : ℕ → ℕ → List ℕ → List ℕ → Bool
block_ok n ticks inputs controls = leb ticks most_ticks and eqb (length inputs) (ticks * n) and eqb (length controls) control_count

-- a call that is not refused, of n inputs, m outputs and k cells, each tick worked by g; "a buffer longer than needed keeps its content past the
-- needed part"
unfoldable pub answered : (Tick → List ℕ → Stepped) → (n m k ticks : ℕ) → List ℕ → List ℕ → List ℕ → List ℕ → Ran
answered g n m k ticks inputs controls cells outputs =
    let s = played g (ticks_of n controls ticks inputs) (take k cells) in
    ran_as (with_report (ticks * m) s.clips) (s.cells ++ drop k cells) (s.outputs ++ drop (ticks * m) outputs)

-- a call of walker or runner once its circuit is known: 14, then 12, "the buffer to be filled or changed is shorter than needed; last"
unfoldable pub called : (Tick → List ℕ → Stepped) → (n m k ticks : ℕ) → List ℕ → List ℕ → List ℕ → List ℕ → Ran
called g n m k ticks inputs controls cells outputs =
    pick (block_ok n ticks inputs controls)
    (pick (leb k (length cells) and leb (ticks * m) (length outputs))
    (answered g n m k ticks inputs controls cells outputs)
    (refusal 12 cells outputs))
    (refusal 14 cells outputs)
