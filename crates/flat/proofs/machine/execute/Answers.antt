-- `flat::machine::execute` meets its contract: executing what is left gives the machine that executing all gives.
use Prim.Native.Nat.{◌+◌}
use mathlib.Core.Path.{refl, ap₂, ◌∙◌}
use native.Mathlib.Omega.{arith}
use lib.ListN.{take}
use Rattle.flat.specs.Flat.{machine}
use Rattle.flat.proofs.Executing.{begin, steppable, next, go_on, arrived, all_told}
use Rattle.flat.proofs.machine.execute.Goals as goal

pub loop-own-init : goal.loop-own-init
loop-own-init c = (begin _ _ _ _ _ _ _ c.index-first.ensures c.index.ensures c.requires, (refl, refl))

pub step-skip-requires : goal.step-skip-requires
step-skip-requires c = steppable c.loop-own.invariant.0 c.loop-own-test.true c.instruction_at.ensures

pub overflow_mul-p : goal.overflow_mul-p
overflow_mul-p c = omega (arith, (next c.loop-own.invariant.0 c.loop-own-test.true c.instruction_at.ensures c.step-skip.ensures.advanced).1)

pub overflow_add-p-then-skip-gt0 : goal.overflow_add-p-then-skip-gt0
overflow_add-p-then-skip-gt0 c = omega (arith, (next c.loop-own.invariant.0 c.loop-own-test.true c.instruction_at.ensures c.step-skip.ensures.advanced).1)

pub overflow_add-own-then-skip-gt0 : goal.overflow_add-own-then-skip-gt0
overflow_add-own-then-skip-gt0 c = omega (arith, (next c.loop-own.invariant.0 c.loop-own-test.true c.instruction_at.ensures c.step-skip.ensures.advanced).0)

pub loop-own-preserved-then-skip-gt0 : goal.loop-own-preserved-then-skip-gt0
loop-own-preserved-then-skip-gt0 c = (go_on c.loop-own.invariant.0 c.loop-own-test.true c.instruction_at.ensures c.step-skip.ensures.advanced c.step-skip.ensures.told_after c.step-skip.auto.registers c.step-skip.auto.cells (omega arith) (omega arith), (c.step-skip.auto.registers ∙ c.loop-own.invariant.1.0, c.step-skip.auto.cells ∙ c.loop-own.invariant.1.1))

pub loop-own-preserved : goal.loop-own-preserved
loop-own-preserved c = (go_on c.loop-own.invariant.0 c.loop-own-test.true c.instruction_at.ensures c.step-skip.ensures.advanced c.step-skip.ensures.told_after c.step-skip.auto.registers c.step-skip.auto.cells (omega arith) (omega arith), (c.step-skip.auto.registers ∙ c.loop-own.invariant.1.0, c.step-skip.auto.cells ∙ c.loop-own.invariant.1.1))

pub returns : goal.returns
returns c = record { cells_value = arrived c.loop-own.invariant.0 c.loop-own-test.false ∙ ap₂ (λ a b. machine (take (a + b) c.loop-own.registers) 0 c.loop-own.cells) c.index-first.ensures c.index.ensures; value = all_told c.loop-own.invariant.0 c.loop-own-test.false }
