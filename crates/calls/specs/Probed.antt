-- A walk with probes: its complete result, once its circuit is known.
use Rattle.std.specs.Prelude.{ℕ, ◌*◌, ◌%◌, ◌≡◌, Bool, true, List, [], ◌∷◌, ◌++◌, length, drop, take, eqb, leb, ltb}
use Rattle.word.specs.Choice.{pick, ◌and◌}
use Rattle.word.specs.Limits.{most_probes}
use Rattle.refusal.specs.Answer.{Answer, refused_all}
use Rattle.refusal.specs.Answer.Answer.{counts}
use Rattle.cells.specs.Block.{Ran, unchanged, ticks_of, block_ok, answered, called}
use Rattle.arity.specs.Tree.{Tree, ins, outs}
use Rattle.arity.specs.Nodes.{subtree, cells_before}
use Rattle.signal.specs.Wire.{Probe}
use Rattle.calls.specs.Step.{step}
use Rattle.calls.specs.Probes.{recorded}

-- two numbers a probe: the node, and the output
abbrev pub probes_of : List ℕ → List Probe
probes_of [] = []
probes_of (j ∷ []) = []
probes_of (j ∷ o ∷ xs) = record { node = j; output = o } ∷ probes_of xs

-- it names an output of the circuit t of n nodes
abbrev pub names : ℕ → Tree → Probe → Bool
names n t p = ltb p.node n and ltb p.output (outs (subtree t p.node))

abbrev pub all_named : ℕ → Tree → List Probe → Bool
all_named n t [] = true
all_named n t (p ∷ ps) = names n t p and all_named n t ps

-- row 15 does not apply: "an odd count of probe numbers, more than 16 probes or one that names no output of the table"
abbrev pub probes_ok : ℕ → Tree → List ℕ → Bool
probes_ok n t xs = eqb (length xs % 2) 0 and leb (length (probes_of xs)) most_probes and all_named n t (probes_of xs)

-- the complete result: that of a walk, the list of latest values and the recording
pub record Probed : Type 0 where
  pub ran : Ran
  pub latest : List ℕ
  pub recording : List ℕ

abbrev pub probed_as : Ran → List ℕ → List ℕ → Probed
probed_as r vs xs = record { ran = r; latest = vs; recording = xs }

-- "A refusal writes to no lent buffer."
abbrev pub untouched : Answer → (cells outputs latest recording : List ℕ) → Probed
untouched a cells outputs latest recording = probed_as (unchanged a cells outputs) latest recording

-- the buffers are as long as p probes need; "list or recording shorter than needed, also with 0 ticks"
abbrev pub probes_fit : (p ticks : ℕ) → (latest recording : List ℕ) → Bool
probes_fit p ticks latest recording = leb p (length latest) and leb (ticks * p) (length recording)

-- a walk that is not refused, of the circuit t of n nodes: its ticks as without probes, and what the probes show; longer buffers keep the rest
unfoldable pub watches : ℕ → Tree → List Probe → (ticks : ℕ) → (inputs controls cells outputs latest recording : List ℕ) → Probed
watches n t ps ticks inputs controls cells outputs latest recording =
    let w = recorded (cells_before t) t ps (ticks_of (ins t) controls ticks inputs) (take (cells_before t n) cells) (take (length ps) latest) in
    probed_as (answered (step (cells_before t) t) (ins t) (outs t) (cells_before t n) ticks inputs controls cells outputs)
    (w.latest ++ drop (length ps) latest) (w.recording ++ drop (ticks * length ps) recording)

-- 14, 15, then 12
unfoldable pub probed : ℕ → Tree → (probes : List ℕ) → (ticks : ℕ) → (inputs controls cells outputs latest recording : List ℕ) → Probed
probed n t xs ticks inputs controls cells outputs latest recording =
    let ps = probes_of xs in
    let no : ℕ → Probed = λ r. untouched (refused_all r) cells outputs latest recording in
    pick (block_ok (ins t) ticks inputs controls)
    (pick (probes_ok n t xs)
    (pick (leb (cells_before t n) (length cells) and leb (ticks * outs t) (length outputs))
    (pick (probes_fit (length ps) ticks latest recording)
    (watches n t ps ticks inputs controls cells outputs latest recording)
    (no 12)) (no 12)) (no 15)) (no 14)

-- "The circuit's own samples are the same with probes or without", and its answer and cells: where the probes and their buffers are not refused
abbrev pub SameWalk : ℕ → Tree → Type 0
SameWalk n t = (xs : List ℕ) (ticks : ℕ) (inputs controls cells outputs latest recording : List ℕ)
    → probes_ok n t xs ≡ true → probes_fit (length (probes_of xs)) ticks latest recording ≡ true
    → (probed n t xs ticks inputs controls cells outputs latest recording).ran
    ≡ called (step (cells_before t) t) (ins t) (outs t) (cells_before t n) ticks inputs controls cells outputs

-- and so wherever the walk with probes is accepted
abbrev pub SameWhereAccepted : ℕ → Tree → Type 0
SameWhereAccepted n t = (xs : List ℕ) (ticks : ℕ) (inputs controls cells outputs latest recording ks : List ℕ)
    → (probed n t xs ticks inputs controls cells outputs latest recording).ran.answer ≡ counts ks
    → (probed n t xs ticks inputs controls cells outputs latest recording).ran
    ≡ called (step (cells_before t) t) (ins t) (outs t) (cells_before t n) ticks inputs controls cells outputs
