-- `player::samples::next_word` meets its contract: only spaces stand before the word.
use Rattle.number.proofs.Scan.{rest_lent}
use Rattle.player.proofs.Words.{no_word, a_word}
use Rattle.player.proofs.samples.next_word.Goals as goal

pub returns-in_err-rest : goal.returns-in_err-rest
returns-in_err-rest c = rw c.from_residual.ensures (no_word _ c.in_err-rest.ensures)

pub returns : goal.returns
returns c =
    let line = c.args.line.now in
    let begin = c.in_ok-rest in
    let e = rest_lent line begin.field-0 in
    let w = a_word line begin.field-0 c.find.result begin.ensures.0 begin.ensures.1 (rw e at c.find.ensures) in
    rw (c.split_at.ensures.front, c.split_at.ensures.back, c.unwrap_or-end.ensures, e) w
