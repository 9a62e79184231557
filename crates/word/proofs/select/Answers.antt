-- `word::select` meets its contract.
use Rattle.std.proofs.Common.{eq-eqb, ne_eqb}
use Rattle.word.specs.Operation.{select}
use Rattle.word.proofs.select.Goals as goal

pub returns-then-a-ne0 : goal.returns-then-a-ne0
unfolding select
returns-then-a-ne0 c = simp (ne_eqb _ _ c.if-a-ne0.true)

pub returns-else-a-ne0 : goal.returns-else-a-ne0
unfolding select
returns-else-a-ne0 c = simp (eq-eqb _ _ c.if-a-ne0.false)
