-- `player::samples::control` meets its contract: the first word is `control` or not.
use Rattle.std.proofs.Common.{◌≡◌, ℕ, Bool, true, false, List, refl, sym, ◌∙◌}
use Rattle.std.specs.Bool.{then_some}
use Rattle.std.specs.Borrow.{Bor}
use Rattle.number.specs.Number.{same}
use Rattle.player.specs.Samples.{control_word}
use Rattle.player.specs.Promises.{ControlLine, Word}
use Rattle.player.proofs.Same.{same_bytes}
use Rattle.player.proofs.samples.control.Goals as goal

-- the first word of the line, and whether it is `control`
by_word : (line word : List ℕ) (rest : Bor (List ℕ)) (b : Bool) → Word line word rest.now → b ≡ same word control_word → ControlLine line (then_some b rest)
by_word line word rest true w e = rw w.words-are (sym e, refl)
by_word line word rest false w e = rw w.words-are (sym e)

pub returns : goal.returns
returns c =
    let e = c.eq.ensures ∙ rw c.as_slice.ensures (same_bytes c.in_ok-word.word.now control_word) in
    rw c.then_some.ensures (by_word c.args.line.now c.in_ok-word.word.now c.in_ok-word.rest c.eq.result c.in_ok-word.ensures e)
