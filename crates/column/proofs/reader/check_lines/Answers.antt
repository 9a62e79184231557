-- `column::reader::check_lines` meets its contract: the lines before what is left are right, and in the first of these the columns before this one.
use Rattle.std.proofs.Common.{sym, ◌∙◌, arith, eqb-true}
use Rattle.std.proofs.lemmas.Bool.{eqb-false}
use Rattle.refusal.specs.Answer.{refused_at}
use Rattle.column.proofs.Lines.{chunk_front}
use Rattle.column.proofs.Judged.{column_malformed, column_wrong_node, column_right_node, column-right, columns_start, column_passed, column-refused, columns_right, not_whole}
use Rattle.column.proofs.Checking.{check_empty, check_done, check_many, line_refused, line_passed}
use Rattle.column.proofs.reader.check_lines.Goals as goal
use Rattle.column.proofs.reader.check_lines.Goals.{else-column-eq0-via-then-column-eq0+else-word-line, else-column-eq0-via-else-column-eq0}

pub returns-then-is_empty : goal.returns-then-is_empty
returns-then-is_empty c = check_empty c.args.file.now (eqb-true _ 0 (sym c.if-is_empty.ensures))

pub returns-then-line-eq-MOST_NODES : goal.returns-then-line-eq-MOST_NODES
returns-then-line-eq-MOST_NODES c = check_many _ _ _ (eqb-false _ 0 (sym c.if-is_empty.ensures)) c.loop-bytes.invariant.1 c.in-Some.ensures.steps.1.2 (omega arith)

pub returns-then-not-is_whole : goal.returns-then-not-is_whole
returns-then-not-is_whole c =
    let front = chunk_front _ _ _ c.in-Some.ensures.steps.1.0 (rw c.loop-bytes.invariant.0 at c.in-Some.ensures.steps.1.1) in
    line_refused _ _ _ (eqb-false _ 0 (sym c.if-is_empty.ensures)) c.loop-bytes.invariant.1 c.in-Some.ensures.steps.1.2 _ (rw front.0 at (not_whole c.in-Some.bytes.now c.loop-bytes.line (omega (arith, c.loop-bytes.invariant.1.few)) (sym c.if-not-is_whole.ensures)))

pub loop-column-init : goal.loop-column-init
loop-column-init c = columns_start c.in-Some.bytes.now c.loop-bytes.line (omega (arith, c.loop-bytes.invariant.1.few)) (sym c.if-not-is_whole.ensures)

pub returns-in_default : goal.returns-in_default
returns-in_default c =
    let l = c.loop-column in
    let i = c.loop-bytes.line in
    let s = c.in-Some.bytes.now in
    let front = chunk_front _ _ _ c.in-Some.ensures.steps.1.0 (rw c.loop-bytes.invariant.0 at c.in-Some.ensures.steps.1.1) in
    let malformed = column_malformed i s l.column (sym c.in_default.is ∙ c.column_at.ensures) in
    line_refused _ _ _ (eqb-false _ 0 (sym c.if-is_empty.ensures)) c.loop-bytes.invariant.1 c.in-Some.ensures.steps.1.2 _ (rw front.0 at (column-refused _ _ _ l.invariant (refused_at 1 i) c.loop-column-test.true malformed))

pub returns-then-word-line : goal.returns-then-word-line
returns-then-word-line c =
    let l = c.loop-column in
    let i = c.loop-bytes.line in
    let s = c.in-Some.bytes.now in
    let found = sym c.in-Some-column_at.is ∙ c.column_at.ensures in
    let front = chunk_front _ _ _ c.in-Some.ensures.steps.1.0 (rw c.loop-bytes.invariant.0 at c.in-Some.ensures.steps.1.1) in
    let wrong = column_wrong_node i s l.column c.in-Some-column_at.word found c.if-column-eq0.true c.if-word-line.true in
    line_refused _ _ _ (eqb-false _ 0 (sym c.if-is_empty.ensures)) c.loop-bytes.invariant.1 c.in-Some.ensures.steps.1.2 _ (rw front.0 at (column-refused _ _ _ l.invariant (refused_at 2 i) c.loop-column-test.true wrong))

pub loop-column-preserved : goal.loop-column-preserved
loop-column-preserved c =
    let l = c.loop-column in
    let i = c.loop-bytes.line in
    let s = c.in-Some.bytes.now in
    let word = c.in-Some-column_at.word in
    let found = sym c.in-Some-column_at.is ∙ c.column_at.ensures in
    column_passed _ _ _ l.invariant c.loop-column-test.true
    (elim c.else-column-eq0.branch [
      | else-column-eq0-via-then-column-eq0+else-word-line w ↦ column_right_node i s l.column word found w.if-column-eq0.true w.if-word-line.false (omega (arith, c.loop-bytes.invariant.1.few))
      | else-column-eq0-via-else-column-eq0 w ↦ column-right i s l.column word found w.if-column-eq0.false
    ])

pub loop-bytes-preserved : goal.loop-bytes-preserved
loop-bytes-preserved c =
    let front = chunk_front _ _ _ c.in-Some.ensures.steps.1.0 (rw c.loop-bytes.invariant.0 at c.in-Some.ensures.steps.1.1) in
    (c.in-Some.ensures.steps.0 ∙ c.loop-bytes.invariant.0, rw front.1 (line_passed _ _ _ (eqb-false _ 0 (sym c.if-is_empty.ensures)) c.loop-bytes.invariant.1 c.in-Some.ensures.steps.1.2 (omega (arith, c.loop-bytes.invariant.1.few)) (rw front.0 at (columns_right _ _ _ c.loop-column.invariant c.loop-column-test.false))))

pub returns-in-None : goal.returns-in-None
returns-in-None c = check_done _ _ _ (eqb-false _ 0 (sym c.if-is_empty.ensures)) c.loop-bytes.invariant.1 c.in-None.ensures.steps.1.0
