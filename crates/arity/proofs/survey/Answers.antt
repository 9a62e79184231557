-- Before node i the state holds and i rows are filled; each return is one of the ends.
use Prim.Native.Nat.{◌%◌}
use mathlib.Core.Path.{◌≡◌, refl, sym, ◌∙◌}
use mathlib.Core.Logic.{◌⊎◌, inl, inr}
use native.Mathlib.Numerals.{add-one}
use native.Mathlib.Omega.{arith}
use lib.ListN.{length}
use Rattle.std.proofs.lemmas.Result.{err_from_is_err_and}
use Rattle.arity.proofs.End.{start_state, no_cells, filled_none, filled_more, ends_uneven, ends_long, ends_refused, ends_loose, ends_accepted}
use Rattle.arity.proofs.survey.Goals as goal
use Rattle.arity.proofs.survey.Goals.{Joined-then-count-eq0, then-count-eq0-via-then-count-eq0, then-count-eq0-via-else-count-eq0+then-count-ne0}

not-thirds : (c : Joined-then-count-eq0) → (length c.args.table.now ≡ 0) ⊎ (length c.args.table.now % 3 ≡ 0 → ⊥)
not-thirds c = elim c.then-count-eq0.branch [ then-count-eq0-via-then-count-eq0 w ↦ inl w.if-count-eq0.true | then-count-eq0-via-else-count-eq0+then-count-ne0 w ↦ inr w.if-count-ne0.true ]

pub returns-then-count-eq0-clause-answer : goal.returns-then-count-eq0-clause-answer
returns-then-count-eq0-clause-answer c = (ends_uneven _ c.args.shape.now (not-thirds c)).answer

pub returns-then-count-eq0-clause-rows : goal.returns-then-count-eq0-clause-rows
returns-then-count-eq0-clause-rows c = (ends_uneven _ _ (not-thirds c)).rows

pub returns-then-n-gt-NODES-clause-answer : goal.returns-then-n-gt-NODES-clause-answer
returns-then-n-gt-NODES-clause-answer c = (ends_long c.if-count-eq0.false c.if-count-ne0.false c.args.shape.now c.if-n-gt-NODES.true).answer

pub returns-then-n-gt-NODES-clause-rows : goal.returns-then-n-gt-NODES-clause-rows
returns-then-n-gt-NODES-clause-rows c = (ends_long c.if-count-eq0.false c.if-count-ne0.false _ c.if-n-gt-NODES.true).rows

pub loop-i-init : goal.loop-i-init
loop-i-init c = (start_state _ _ _ c.if-n-gt-NODES.false c.requires refl, no_cells _, filled_none _ _)

pub returns-in_err-cells-clause-answer : goal.returns-in_err-cells-clause-answer
returns-in_err-cells-clause-answer c =
    let p = err_from_is_err_and c.from_residual.result c.from_residual.ensures.1 in
    let w = c.in_err-cells.ensures in
    rw (p.1, p.2) ((ends_refused c.if-count-eq0.false c.if-count-ne0.false _ c.loop-i.invariant.0 c.loop-i.invariant.2 (omega arith) w.0 w.1).answer)

pub returns-in_err-cells-clause-rows : goal.returns-in_err-cells-clause-rows
returns-in_err-cells-clause-rows c =
    let w = c.in_err-cells.ensures in
    (ends_refused c.if-count-eq0.false c.if-count-ne0.false _ c.loop-i.invariant.0 c.loop-i.invariant.2 (omega arith) w.0 w.1).rows

pub loop-i-preserved : goal.loop-i-preserved
loop-i-preserved c =
    let w = c.in_ok-cells.ensures in
    (rw add-one w.0, rw add-one w.1, rw add-one (filled_more _ _ _ _ _ c.loop-i.invariant.2 w.2))

pub returns-in-Some-clause-answer : goal.returns-in-Some-clause-answer
returns-in-Some-clause-answer c =
    (ends_loose c.if-count-eq0.false c.if-count-ne0.false _ c.loop-i.invariant.0 c.loop-i.invariant.2 (omega arith) (sym c.in-Some.ensures)).answer

pub returns-in-Some-clause-rows : goal.returns-in-Some-clause-rows
returns-in-Some-clause-rows c =
    (ends_loose c.if-count-eq0.false c.if-count-ne0.false _ c.loop-i.invariant.0 c.loop-i.invariant.2 (omega arith) (sym c.in-Some.ensures)).rows

pub returns-clause-answer : goal.returns-clause-answer
returns-clause-answer c =
    (ends_accepted c.if-count-eq0.false c.if-count-ne0.false _ c.loop-i.invariant.0 c.loop-i.invariant.2 (omega arith) (λ p e. c.in_default.not-Some p (c.find_loose.ensures ∙ e)) c.loop-i.invariant.1 c.row_at-last.ensures).answer

pub returns-clause-rows : goal.returns-clause-rows
returns-clause-rows c =
    (ends_accepted c.if-count-eq0.false c.if-count-ne0.false _ c.loop-i.invariant.0 c.loop-i.invariant.2 (omega arith) (λ p e. c.in_default.not-Some p (c.find_loose.ensures ∙ e)) c.loop-i.invariant.1 c.row_at-last.ensures).rows
