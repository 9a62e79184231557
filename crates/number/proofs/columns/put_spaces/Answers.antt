-- `number::columns::put_spaces` meets its contract: the part of the line that is lent becomes spaces.
use Rattle.std.proofs.Common.{◌≡◌, ◌-◌, length, take, drop, replicate, ap, ◌∙◌, arith, length-drop}
use lib.ListN.{length-replicate}
use lib.Seq.{length-take-le}
use Rattle.number.specs.Number.{space}
use Rattle.number.proofs.Stores.{part-put}
use Rattle.number.proofs.columns.put_spaces.Goals as goal

pub returns : goal.returns
returns c =
    let a = c.args in
    let n : length (take (a.end - a.from) (drop a.from a.line.now)) ≡ a.end - a.from = length-take-le _ _ (omega (arith, length-drop a.from a.line.now)) in
    let l = length-replicate (a.end - a.from) space in
    (part-put _ a.line.now _ a.from a.end (omega arith) (omega arith) (c.fill.ensures.after (λ y h. h) ∙ ap (λ k. replicate k space) n)).put
