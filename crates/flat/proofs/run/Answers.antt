-- `flat::run` meets its contract.
use mathlib.Core.Path.{sym, ◌∙◌}
use Rattle.flat.proofs.Decoded.{code-header}
use Rattle.flat.proofs.Runs.{refused_13, passed_13}
use Rattle.flat.proofs.run.Goals as goal

pub returns-then-not-code_ok : goal.returns-then-not-code_ok
returns-then-not-code_ok c = refused_13 _ _ _ _ _ _ (sym c.code_ok.ensures ∙ c.if-not-code_ok.true)

pub run_checked-requires : goal.run_checked-requires
run_checked-requires c = record { ok = sym c.code_ok.ensures ∙ c.if-not-code_ok.false; head = code-header _ (sym c.code_ok.ensures ∙ c.if-not-code_ok.false) }

pub returns : goal.returns
returns c = c.run_checked.ensures ∙ passed_13 _ _ _ _ _ _ (sym c.code_ok.ensures ∙ c.if-not-code_ok.false)
