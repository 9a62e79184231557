-- `number::reading::natural` meets its contract: what the digits that are left make of `n` is what all of them make.
use Rattle.std.proofs.Common.{sym, ap, ◌∙◌, arith}
use Rattle.number.specs.Promises.{natural_found}
use Rattle.number.proofs.Scan.{natural-end, natural_begins, natural_zero_first, run_next, run_stops, run_over, run_ends}
use Rattle.number.proofs.reading.natural.Goals as goal
use Rattle.number.proofs.reading.natural.Goals.{else-first-eq48-via-then-first-eq48+else-text-gt1, else-first-eq48-via-else-first-eq48}

pub returns-in_err-first : goal.returns-in_err-first
returns-in_err-first c = c.from_residual.ensures ∙ sym (ap natural_found (natural-end _ _ (omega (arith, c.in_err-first.ensures.item.3))))

pub returns-then-text-gt1 : goal.returns-then-text-gt1
returns-then-text-gt1 c = sym (ap natural_found (natural_zero_first _ _ c.if-text-gt1.true (sym (c.in_ok-first.ensures.item.4 (omega arith) 0) ∙ c.if-first-eq48.true)))

pub loop-byte-init : goal.loop-byte-init
loop-byte-init c =
    let first = c.in_ok-first.ensures.item in (
      omega arith,
      natural_begins _ _ first.3.0 (λ h. elim c.else-first-eq48.branch [
        | else-first-eq48-via-then-first-eq48+else-text-gt1 w ↦ w.if-text-gt1.false
        | else-first-eq48-via-else-first-eq48 w ↦ absurd (w.if-first-eq48.false (first.4 (omega arith) 0 ∙ h))
      ]),
    )

pub returns-in_err-d : goal.returns-in_err-d
returns-in_err-d c =
    let l = c.loop-byte in
    c.from_residual-in_err-d.ensures ∙ sym (ap natural_found (l.invariant.1 ∙ run_stops _ _ _ _ c.loop-byte-test.true c.in_err-d.ensures))

pub returns-then-n-tenth : goal.returns-then-n-tenth
returns-then-n-tenth c =
    let l = c.loop-byte in
    sym (ap natural_found (l.invariant.1 ∙ run_over _ _ _ _ c.loop-byte-test.true _ c.in_ok-d.ensures c.if-n-tenth.true))

pub loop-byte-preserved : goal.loop-byte-preserved
loop-byte-preserved c =
    let l = c.loop-byte in
    (omega (arith, c.in_ok-d.ensures), l.invariant.1 ∙ run_next _ _ _ _ c.loop-byte-test.true _ c.in_ok-d.ensures)

pub returns : goal.returns
returns c =
    let l = c.loop-byte in
    c.then_some.ensures ∙ run_ends _ _ _ _ c.loop-byte-test.false ∙ sym (ap natural_found l.invariant.1)
