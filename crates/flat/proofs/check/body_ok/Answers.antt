-- `flat::check::body_ok` meets its contract.
use mathlib.Core.Path.{sym, ◌∙◌}
use Rattle.std.proofs.lemmas.List.{take_rest}
use Rattle.flat.proofs.Decoded.{body_opened}
use Rattle.flat.proofs.check.body_ok.Goals as goal

pub returns-then-instructions_ok : goal.returns-then-instructions_ok
returns-then-instructions_ok c =
    let e = c.results_ok.ensures in
    rw take_rest at e ∙ sym (body_opened _ c.requires ∙ rw (← c.instructions_ok.ensures, c.if-instructions_ok.true, c.index.ensures))

pub returns-else-instructions_ok : goal.returns-else-instructions_ok
returns-else-instructions_ok c = sym (body_opened _ c.requires ∙ rw (← c.instructions_ok.ensures, c.if-instructions_ok.false))
