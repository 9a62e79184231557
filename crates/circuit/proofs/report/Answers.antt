-- `circuit::report` meets its contract.
use Rattle.std.proofs.Common.{arith}
use Rattle.std.proofs.lemmas.Result.{err_from_is_err_and}
use Rattle.circuit.proofs.Answers.{refused-report, short-report, whole-report}
use Rattle.circuit.proofs.report.Goals as goal

pub returns-in_err-found : goal.returns-in_err-found
returns-in_err-found c =
    let p = err_from_is_err_and c.from_residual.result c.from_residual.ensures.1 in
    rw (p.1, p.2) (refused-report _ _ c.in_err-found.ensures)

pub returns-then-counts-lt4 : goal.returns-then-counts-lt4
returns-then-counts-lt4 c = short-report _ _ c.in_ok-found.ensures (omega arith)

pub returns : goal.returns
returns c = whole-report _ c.args.counts.now c.in_ok-found.ensures (omega arith)
