-- The walker: the complete result of one call, its answer, the lent cells and the output buffer after it; with probes the list and the recording too.
use Rattle.std.specs.Prelude.{ℕ, List, leb}
use Rattle.word.specs.Choice.{pick}
use Rattle.word.specs.Limits.{most_cells}
use Rattle.refusal.specs.Answer.{Answer, refused_all}
use Rattle.refusal.specs.Answer.Answer.{counts, refused}
use Rattle.cells.specs.Block.{Ran, unchanged, refusal, called}
use Rattle.arity.specs.Tree.{Tree, ins, outs}
use Rattle.arity.specs.Table.{nodes, circuit}
use Rattle.arity.specs.Nodes.{cells_before}
use Rattle.arity.specs.Check.{checked}
use Rattle.calls.specs.Step.{step}
use Rattle.calls.specs.Probed.{Probed, untouched, probed}

-- 11, then 14 and 12
unfoldable pub walked : ℕ → Tree → ℕ → List ℕ → List ℕ → List ℕ → List ℕ → Ran
walked n t ticks inputs controls cells outputs =
    pick (leb (cells_before t n) most_cells)
    (called (step (cells_before t) t) (ins t) (outs t) (cells_before t n) ticks inputs controls cells outputs)
    (refusal 11 cells outputs)

-- what the check's answer leaves: its refusal, or the walk of the table's circuit
abbrev pub walked_by : Answer → List ℕ → ℕ → List ℕ → List ℕ → List ℕ → List ℕ → Ran
walked_by (counts ks) table ticks inputs controls cells outputs = walked (nodes table) (circuit table) ticks inputs controls cells outputs
walked_by (refused r p) table ticks inputs controls cells outputs = unchanged (refused r p) cells outputs

-- "Walker: table, 11, 14, 12"
unfoldable pub walked_table : List ℕ → ℕ → List ℕ → List ℕ → List ℕ → List ℕ → Ran
walked_table table = walked_by (checked table) table

-- the same with probes: 11, then 14, 15 and 12
unfoldable pub probed_circuit : ℕ → Tree → (probes : List ℕ) → (ticks : ℕ) → (inputs controls cells outputs latest recording : List ℕ) → Probed
probed_circuit n t xs ticks inputs controls cells outputs latest recording =
    pick (leb (cells_before t n) most_cells)
    (probed n t xs ticks inputs controls cells outputs latest recording)
    (untouched (refused_all 11) cells outputs latest recording)

abbrev pub probed_by : Answer → (table probes : List ℕ) → (ticks : ℕ) → (inputs controls cells outputs latest recording : List ℕ) → Probed
probed_by (counts ks) table xs ticks inputs controls cells outputs latest recording =
    probed_circuit (nodes table) (circuit table) xs ticks inputs controls cells outputs latest recording
probed_by (refused r p) table xs ticks inputs controls cells outputs latest recording = untouched (refused r p) cells outputs latest recording

-- with probes: table, 11, 14, 15, 12
unfoldable pub probed_table : (table probes : List ℕ) → (ticks : ℕ) → (inputs controls cells outputs latest recording : List ℕ) → Probed
probed_table table = probed_by (checked table) table
