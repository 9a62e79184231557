-- `flat::check::code_ok` meets its contract.
use mathlib.Core.Path.{sym, ◌∙◌}
use Rattle.flat.proofs.Decoded.{code_opened}
use Rattle.flat.proofs.check.code_ok.Goals as goal

pub returns-then-header_ok : goal.returns-then-header_ok
returns-then-header_ok c = c.body_ok.ensures ∙ sym (code_opened _ ∙ rw (← c.header_ok.ensures, c.if-header_ok.true))

pub returns-else-header_ok : goal.returns-else-header_ok
returns-else-header_ok c = sym (code_opened _ ∙ rw (← c.header_ok.ensures, c.if-header_ok.false))
