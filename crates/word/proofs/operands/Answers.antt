-- `word::operands` meets its contract: the code's table is the definition's, and past its end there is no operation.
use Rattle.std.proofs.Common.{sym, refl}
use lib.ListN.{get_or-eq_default}
use Rattle.word.specs.Operation.{operand_table, operands}
use Rattle.word.proofs.operands.Goals as goal

pub returns-then-at-lt11 : goal.returns-then-at-lt11
unfolding operands
returns-then-at-lt11 c = refl

pub returns : goal.returns
unfolding operands
returns c = sym (get_or-eq_default operand_table 0 c.if-at-lt11.false)
