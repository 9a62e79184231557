-- `walker::step::Walk::step` and `walker::step::Walk::demand_step` meet their contracts. What a node is made of is left to functions outside the cycle.
use mathlib.Core.Path.{refl, sym, ◌∙◌}
use native.Mathlib.Omega.{arith}
use Rattle.std.proofs.Common.{rules}
use Rattle.walker.specs.Ready.{Joins}
use Rattle.walker.proofs.ByKind.{joins}
use Rattle.walker.proofs.Joining.{join_ticked}
use Rattle.walker.proofs.Wires.{first_below, second_below}
use Rattle.walker.proofs.Leaves.{body_in, rest_ticked, demand_ticked}
use Rattle.walker.proofs.Showing.{watching-kept, watched-kept, noting, noted_showed, leaf-below, below_rest, below-demand, join-below}
use Rattle.walker.proofs.step.Walk.+steps.Goals.{demand_step-then-demand, demand_step-else-demand}
use Rattle.walker.proofs.step.Walk.+steps.Goals as goal

pub step-note-requires-clause-marks_of : goal.step-note-requires-clause-marks_of
step-note-requires-clause-marks_of t c =
    let p = c.kind.ensures.promise in
    let j : Joins c.args.self.now.circuit.now c.args.node = joins c.requires.inside.inside c.kind.ensures.value c.in-Sequence.is in
    (noting {i = c.first_child-first.result} p (watched-kept c.requires.watched c.step-y.auto.latest) (omega (arith, first_below p j (rw c.table.ensures at c.first_child-first.ensures), c.requires.inside.inside))).0

pub step-note-requires-in-Sequence-clause-marks_of : goal.step-note-requires-in-Sequence-clause-marks_of
step-note-requires-in-Sequence-clause-marks_of t c =
    let p = c.kind.ensures.promise in
    let j : Joins c.args.self.now.circuit.now c.args.node = joins c.requires.inside.inside c.kind.ensures.value c.in-Sequence.is in
    (noting {i = c.second_child-second.result} p (watched-kept c.requires.watched (c.step-z.auto.latest ∙ c.note.auto.latest ∙ c.step-y.auto.latest)) (omega (arith, second_below p j (rw c.table-in-Sequence.ensures at c.second_child-second.ensures), c.requires.inside.inside))).0

pub step-returns-in-Sequence-clause-ticked : goal.step-returns-in-Sequence-clause-ticked
step-returns-in-Sequence-clause-ticked t c =
    let j : Joins c.args.self.now.circuit.now c.args.node = joins c.requires.inside.inside c.kind.ensures.value c.in-Sequence.is in
    join_ticked c.kind.ensures.promise j (rw c.table.ensures at c.first_child-first.ensures) (rw c.table-in-Sequence.ensures at c.second_child-second.ensures) c.first_given-x.ensures c.step-y.ensures.ticked c.second_given-w.ensures c.step-z.ensures.ticked c.finished.ensures

pub step-returns-in-Sequence-clause-by_index : goal.step-returns-in-Sequence-clause-by_index
step-returns-in-Sequence-clause-by_index t c = λ xs w.
    let p = c.kind.ensures.promise in
    let j : Joins c.args.self.now.circuit.now c.args.node = joins c.requires.inside.inside c.kind.ensures.value c.in-Sequence.is in
    let w₁ = watching-kept w (c.note.auto.latest ∙ c.step-y.auto.latest) in
    let first = noted_showed p w (omega (arith, first_below p j (rw c.table.ensures at c.first_child-first.ensures), c.requires.inside.inside)) c.step-y.auto.latest c.step-y.ensures.ticked (c.step-y.ensures.by_index xs w) c.note.ensures in
    let second = noted_showed p w₁ (omega (arith, second_below p j (rw c.table-in-Sequence.ensures at c.second_child-second.ensures), c.requires.inside.inside)) c.step-z.auto.latest c.step-z.ensures.ticked (c.step-z.ensures.by_index xs w₁) c.note-in-Sequence.ensures in
    join-below p w j (rw c.table.ensures at c.first_child-first.ensures) (rw c.table-in-Sequence.ensures at c.second_child-second.ensures) c.first_given-x.ensures c.step-y.ensures.ticked c.second_given-w.ensures first second

pub step-returns-in_default-clause-by_index : goal.step-returns-in_default-clause-by_index
step-returns-in_default-clause-by_index t c = λ xs w. leaf-below c.kind.ensures.promise w refl c.requires.inside.inside (search rules)

pub demand_step-note-requires-clause-marks_of : goal.demand_step-note-requires-clause-marks_of
demand_step-note-requires-clause-marks_of t c =
    let p = c.left-body.ensures.promise in
    (noting {i = c.left-body.result} p (watched-kept c.requires.watched c.step-y.auto.latest) (omega (arith, body_in p c.requires.demands, c.left-body.ensures.value, c.requires.demands.inside))).0

-- the array has what the cells hold, and that is the outputs of the tick
pub demand_step-returns-clause-ticked : goal.demand_step-returns-clause-ticked
demand_step-returns-clause-ticked t c =
    let p = c.left-body.ensures.promise in
    elim c.if-demand.branch [
      | demand_step-then-demand w ↦ demand_ticked p c.requires.demands (sym c.demand.ensures ∙ w.if-demand.true) c.left-body.ensures.value w.after-x.ensures w.step-y.ensures.ticked (w.cells-is ∙ w.hold.ensures) w.told-is c.held.ensures
      | demand_step-else-demand w ↦ rest_ticked p c.requires.demands (sym c.demand.ensures ∙ w.if-demand.false) w.cells-is w.told-is c.held.ensures
    ]

-- the probes show what the body showed, if it was worked
pub demand_step-returns-clause-by_index : goal.demand_step-returns-clause-by_index
demand_step-returns-clause-by_index t c = λ xs v.
    let p = c.left-body.ensures.promise in
    elim c.if-demand.branch [
      | demand_step-then-demand w ↦
          let body = c.left-body.ensures.value in
          rw w.latest-is (below-demand p v c.requires.demands (sym c.demand.ensures ∙ w.if-demand.true) body w.after-x.ensures
          (noted_showed p v (omega (arith, body_in p c.requires.demands, body, c.requires.demands.inside)) w.step-y.auto.latest w.step-y.ensures.ticked (w.step-y.ensures.by_index xs v) w.note.ensures))
      | demand_step-else-demand w ↦ rw w.latest-is (below_rest p v c.requires.demands refl (sym c.demand.ensures ∙ w.if-demand.false))
    ]
