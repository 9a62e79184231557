-- `word::operate` meets its contract.
use Rattle.std.proofs.Common.{sym}
use Rattle.word.proofs.Unnumbered.{operate_none}
use Rattle.word.proofs.operate.Goals as goal

pub returns-in-None : goal.returns-in-None
returns-in-None c = sym (operate_none _ _ _ _ c.in-None.ensures)
