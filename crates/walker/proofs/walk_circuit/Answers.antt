-- `walker::walk_circuit` meets its contract.
use mathlib.Core.Path.{sym, ◌∙◌}
use mathlib.Core.Logic.{inl, inr}
use native.Mathlib.Omega.{arith}
use Rattle.walker.proofs.Walking.{too_many, wrong_block, wrong_probes, all-few, short-buffer, short_list, walkable, watchable, not-refused}
use Rattle.walker.proofs.walk_circuit.Goals.{then-cells-need-via-then-cells-need, then-cells-need-via-else-cells-need+then-outputs-total, then-latest-watched-via-then-latest-watched, then-latest-watched-via-else-latest-watched+then-recording-t}
use Rattle.walker.proofs.walk_circuit.Goals as goal

pub returns-then-need-gt-CELLS : goal.returns-then-need-gt-CELLS
returns-then-need-gt-CELLS c = too_many c.requires c.args.probes.now c.args.ticks c.args.inputs.now c.args.controls.now c.args.cells.now c.args.outputs.now c.args.latest.now c.args.recording.now c.index-need.ensures c.if-need-gt-CELLS.true

pub returns-then-not-block_ok : goal.returns-then-not-block_ok
returns-then-not-block_ok c = wrong_block c.requires c.args.probes.now c.args.ticks c.args.inputs.now c.args.controls.now c.args.cells.now c.args.outputs.now c.args.latest.now c.args.recording.now c.index-need.ensures c.if-need-gt-CELLS.false (sym c.block_ok.ensures ∙ c.if-not-block_ok.true)

pub returns-then-not-probes_ok : goal.returns-then-not-probes_ok
returns-then-not-probes_ok c = wrong_probes c.requires c.args.probes.now c.args.ticks c.args.inputs.now c.args.controls.now c.args.cells.now c.args.outputs.now c.args.latest.now c.args.recording.now c.index-need.ensures c.if-need-gt-CELLS.false (sym c.block_ok.ensures ∙ c.if-not-block_ok.false) (sym c.probes_ok.ensures ∙ c.if-not-probes_ok.true)

pub returns-then-cells-need : goal.returns-then-cells-need
returns-then-cells-need c = short-buffer c.requires c.args.probes.now c.args.ticks c.args.inputs.now c.args.controls.now c.args.cells.now c.args.outputs.now c.args.latest.now c.args.recording.now c.index-need.ensures c.if-need-gt-CELLS.false (sym c.block_ok.ensures ∙ c.if-not-block_ok.false) (sym c.probes_ok.ensures ∙ c.if-not-probes_ok.false) c.index-t.ensures c.index-wide.ensures (elim c.then-cells-need.branch [ then-cells-need-via-then-cells-need w ↦ inl w.if-cells-need.true | then-cells-need-via-else-cells-need+then-outputs-total w ↦ inr w.if-outputs-total.true ])

pub overflow_mul-t : goal.overflow_mul-t
overflow_mul-t c = omega (arith, all-few c.requires c.args.probes.now c.args.ticks c.args.inputs.now c.args.controls.now c.args.cells.now c.args.outputs.now c.args.latest.now c.args.recording.now c.index-need.ensures c.if-need-gt-CELLS.false (sym c.block_ok.ensures ∙ c.if-not-block_ok.false) (sym c.probes_ok.ensures ∙ c.if-not-probes_ok.false) c.index-t.ensures c.index-wide.ensures)

pub returns-then-latest-watched : goal.returns-then-latest-watched
returns-then-latest-watched c = short_list c.requires c.args.probes.now c.args.ticks c.args.inputs.now c.args.controls.now c.args.cells.now c.args.outputs.now c.args.latest.now c.args.recording.now c.index-need.ensures c.if-need-gt-CELLS.false (sym c.block_ok.ensures ∙ c.if-not-block_ok.false) (sym c.probes_ok.ensures ∙ c.if-not-probes_ok.false) c.index-t.ensures c.index-wide.ensures c.if-cells-need.false c.if-outputs-total.false (elim c.then-latest-watched.branch [ then-latest-watched-via-then-latest-watched w ↦ inl w.if-latest-watched.true | then-latest-watched-via-else-latest-watched+then-recording-t w ↦ inr w.if-recording-t.true ])

pub walk_ticks-clipped-requires : goal.walk_ticks-clipped-requires
walk_ticks-clipped-requires c = record { walkable = walkable c.requires c.args.probes.now c.args.ticks c.args.inputs.now c.args.controls.now c.args.cells.now c.args.outputs.now c.args.latest.now c.args.recording.now c.index-need.ensures c.if-need-gt-CELLS.false (sym c.block_ok.ensures ∙ c.if-not-block_ok.false) (sym c.probes_ok.ensures ∙ c.if-not-probes_ok.false) c.index-t.ensures c.index-wide.ensures c.if-cells-need.false c.if-outputs-total.false c.if-latest-watched.false c.if-recording-t.false c.index.ensures; watchable = watchable c.requires c.args.probes.now c.args.ticks c.args.inputs.now c.args.controls.now c.args.cells.now c.args.outputs.now c.args.latest.now c.args.recording.now c.index-need.ensures c.if-need-gt-CELLS.false (sym c.block_ok.ensures ∙ c.if-not-block_ok.false) (sym c.probes_ok.ensures ∙ c.if-not-probes_ok.false) c.index-t.ensures c.index-wide.ensures c.if-cells-need.false c.if-outputs-total.false c.if-latest-watched.false c.if-recording-t.false }

pub returns : goal.returns
returns c = c.walk_ticks-clipped.ensures ∙ not-refused c.requires c.args.probes.now c.args.ticks c.args.inputs.now c.args.controls.now c.args.cells.now c.args.outputs.now c.args.latest.now c.args.recording.now c.index-need.ensures c.if-need-gt-CELLS.false (sym c.block_ok.ensures ∙ c.if-not-block_ok.false) (sym c.probes_ok.ensures ∙ c.if-not-probes_ok.false) c.index-t.ensures c.index-wide.ensures c.if-cells-need.false c.if-outputs-total.false c.if-latest-watched.false c.if-recording-t.false
