-- What the walker's functions ask and promise of probes.
use Rattle.std.specs.Prelude.{ℕ, ◌*◌, ◌/◌, ◌≤◌, ◌<◌, ◌≡◌, List, length}
use Rattle.word.specs.Choice.{pick}
use Rattle.word.specs.Limits.{most_probes}
use Rattle.word.specs.Tick.{Tick, tick, tail_of, Each}
use Rattle.arity.specs.Tree.{Tree, outs}
use Rattle.arity.specs.Tree.Tree.{leaf, join, ondemand}
use Rattle.arity.specs.Table.{nodes, tree}
use Rattle.signal.specs.Signal.{demanded}
use Rattle.signal.specs.Wire.{Probe}
use Rattle.calls.specs.Wiring.{first_side, second_side}
use Rattle.calls.specs.Step.{step, first_tick, second_tick}
use Rattle.calls.specs.Probes.{shown, zip_with}
use Rattle.calls.specs.Probed.{probes_of}
use Rattle.probes.specs.Marks.{Marked}
use Rattle.walker.specs.Ready.{base, ins_of}

-- the probe names an output of the table
pub record Names (table : List ℕ) (p : Probe) : Type 0 where
  pub node : p.node < nodes table
  pub output : p.output < outs (tree table p.node)

-- k probes that row 15 lets pass
pub record Named (table xs : List ℕ) (k : ℕ) : Type 0 where
  pub two : length xs ≡ 2 * k
  pub few : k ≤ most_probes
  pub each : Each (Names table) (probes_of xs)

-- and their marks
pub record Watching (table xs : List ℕ) (k : ℕ) (marks : List ℕ) : Type 0 where
  pub named : Named table xs k
  pub marked : Marked xs k marks

-- so many probes of the table have these marks
pub record Watched (table : List ℕ) (k : ℕ) (marks : List ℕ) : Type 0 where
  pub numbers : List ℕ
  pub watching : Watching table numbers k marks

-- and a recording of one number a probe and tick
pub record Recordable (table marks : List ℕ) (ticks : ℕ) (vs rec : List ℕ) : Type 0 where
  pub watched : Watched table (length vs) marks
  pub room : length rec ≡ ticks * length vs

-- what a call with probes asks that is not refused: they pass row 15, and list and recording are as long as needed
pub record Watchable (table xs : List ℕ) (ticks : ℕ) (vs rec : List ℕ) : Type 0 where
  pub named : Named table xs (length xs / 2)
  pub latest-fits : length xs / 2 ≤ length vs
  pub recording-fits : ticks * (length xs / 2) ≤ length rec

-- what a probe shows once the sides of a node, or its body, have been worked, before the node's own outputs are noted
abbrev pub below : (ℕ → ℕ) → Tree → Tick → List ℕ → Probe → ℕ → ℕ
below base (leaf i q) f cs p v = v
below base (join i c l r) f cs p v =
    let x = first_tick base i c l r f cs in
    let a = first_side c (step base l) (step base r) x cs in
    second_side c (shown base l) (shown base r) (second_tick c l r f a.outputs) a.cells p (first_side c (shown base l) (shown base r) x cs p v)
below base (ondemand i b) f cs p v = pick (demanded f) (shown base b (tick (tail_of f.inputs) f.controls) cs p v) v

-- in a tick of node i from the inputs ins and the cells cs, the list vs becomes vs': below the node, and with the node's own outputs
pub record ShowedBelow (table controls xs : List ℕ) (i : ℕ) (ins cs vs vs' : List ℕ) : Type 0 where
  pub is : vs' ≡ zip_with (below (base table) (tree table i) (tick (ins_of table i ins) controls) cs) (probes_of xs) vs

pub record Showed (table controls xs : List ℕ) (i : ℕ) (ins cs vs vs' : List ℕ) : Type 0 where
  pub is : vs' ≡ zip_with (shown (base table) (tree table i) (tick (ins_of table i ins) controls) cs) (probes_of xs) vs
