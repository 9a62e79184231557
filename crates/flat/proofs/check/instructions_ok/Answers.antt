-- `flat::check::instructions_ok` meets its contract: the check of the whole is the check of what is left.
use mathlib.Core.Path.{sym}
use native.Mathlib.Omega.{arith}
use Rattle.flat.proofs.Decoded.{checked-all, check_fails, check_goes}
use Rattle.flat.proofs.check.instructions_ok.Goals as goal

pub returns-then-not-instruction_ok : goal.returns-then-not-instruction_ok
returns-then-not-instruction_ok c = sym (check_fails c.loop-own.invariant.1 c.loop-own-test.true c.instruction_ok.ensures c.instruction_at.ensures (c.if-not-instruction_ok.true))

pub loop-own-preserved : goal.loop-own-preserved
loop-own-preserved c = (omega arith, check_goes c.loop-own.invariant.1 c.loop-own-test.true c.instruction_ok.ensures c.instruction_at.ensures (c.if-not-instruction_ok.false))

pub returns : goal.returns
returns c = sym (checked-all c.loop-own.invariant.1 c.loop-own-test.false)
