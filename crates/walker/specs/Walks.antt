-- Walks in a list of calls: what demand 2 says of them, and of their probes.
use Rattle.std.specs.Prelude.{ℕ, ◌≤◌, ◌≡◌, true, List, [], ◌∷◌, length}
use Rattle.word.specs.Limits.{most_cells}
use Rattle.word.specs.Tick.{Words}
use Rattle.refusal.specs.Answer.Answer.{counts}
use Rattle.arity.specs.Table.{nodes, circuit}
use Rattle.arity.specs.Check.{checked}
use Rattle.calls.specs.Calls.{Arguments, Call, Program}
use Rattle.calls.specs.Law.{LawfulFromPast}
use Rattle.calls.specs.Loads.{LawfulFromLoad}
use Rattle.calls.specs.ProbedCalls.{ProbedArguments, ProbedCall, ProbedProgram}
use Rattle.calls.specs.Recorded.{RecordedFromLoad, RecordedFromPast}
use Rattle.calls.specs.Probed.{probes_of, probes_ok, probes_fit}
use Rattle.walker.specs.Walk.{walked_table, probed_table}

-- the walker with a table
abbrev pub walk_of : List ℕ → Program
walk_of table a cells = walked_table table a.ticks a.inputs a.controls cells a.outputs

-- a walk, lent cells from `from` on
abbrev pub walk_call : List ℕ → Arguments → ℕ → Call
walk_call table a from = record { from = from; lent = a.lent; outputs = a.outputs; work = walk_of table a }

-- "For an accepted table of at most 16,384 cells, from cleared cells that walks of that table alone write, the walker writes, tick by tick, the samples that
-- the published signal meaning gives, ondemand included."
abbrev pub WalksLawful : List ℕ → Type 0
WalksLawful table = (n m i d : ℕ) → checked table ≡ counts (n ∷ m ∷ i ∷ d ∷ []) → Words table → d ≤ most_cells
    → LawfulFromLoad (nodes table) (circuit table) (walk_of table) d

-- and so from any past, at any place of a block
abbrev pub WalksGoOn : List ℕ → Type 0
WalksGoOn table = (n m i d : ℕ) → checked table ≡ counts (n ∷ m ∷ i ∷ d ∷ []) → Words table → d ≤ most_cells
    → LawfulFromPast (nodes table) (circuit table) (walk_of table)

-- "The circuit's own samples are the same with probes or without": answer, cells and outputs, with any probes that row 15 lets pass and buffers for them
abbrev pub SameAsWalk : List ℕ → Type 0
SameAsWalk table = (probes : List ℕ) (ticks : ℕ) (inputs controls cells outputs latest recording : List ℕ)
    → probes_ok (nodes table) (circuit table) probes ≡ true → probes_fit (length (probes_of probes)) ticks latest recording ≡ true
    → (probed_table table probes ticks inputs controls cells outputs latest recording).ran ≡ walked_table table ticks inputs controls cells outputs

-- the walker with a table and probes, and such a walk, lent cells from `from` on
abbrev pub probed_walk_of : List ℕ → List ℕ → ProbedProgram
probed_walk_of table probes a cells latest =
    probed_table table probes a.walk.ticks a.walk.inputs a.walk.controls cells a.walk.outputs latest a.recording

abbrev pub probed_walk_call : List ℕ → List ℕ → ProbedArguments → ℕ → ProbedCall
probed_walk_call table probes a from =
    record { from = from; lent = a.walk.lent; kept = a.kept; outputs = a.walk.outputs; recording = a.recording; work = probed_walk_of table probes a }

-- "the recording must equal, for every probe, what the meaning gives for that wire": for an accepted table of at most 16,384 cells, from cells cleared by a
-- load and a list set to 0, that walks of that table with these probes alone write
abbrev pub WalksRecorded : List ℕ → Type 0
WalksRecorded table = (probes : List ℕ) (n m i d : ℕ) → checked table ≡ counts (n ∷ m ∷ i ∷ d ∷ []) → Words table → d ≤ most_cells
    → RecordedFromLoad (nodes table) (circuit table) probes (walk_of table) (probed_walk_of table probes) d

-- and so from any past, at any place of a block
abbrev pub WalksRecordOn : List ℕ → Type 0
WalksRecordOn table = (probes : List ℕ) (n m i d : ℕ) → checked table ≡ counts (n ∷ m ∷ i ∷ d ∷ []) → Words table → d ≤ most_cells
    → RecordedFromPast (nodes table) (circuit table) probes (walk_of table) (probed_walk_of table probes)
