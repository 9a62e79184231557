-- `flat::machine::step` meets its contract.
use Prim.Native.Nat.{◌+◌}
use mathlib.Core.Path.{refl}
use native.Mathlib.Omega.{arith}
use lib.ListN.{length-set}
use Rattle.flat.proofs.Executing.{tells, skip-room, advance}
use Rattle.flat.proofs.machine.step.Goals as goal

pub overflow_add-to : goal.overflow_add-to
overflow_add-to c = omega (arith, skip-room c.requires c.work-given.ensures.cells_value)

pub slice_bounds-clear-end : goal.slice_bounds-clear-end
slice_bounds-clear-end c = simp length-set (omega (arith, skip-room c.requires c.work-given.ensures.cells_value))

pub returns : goal.returns
returns c = record { advanced = advance c.requires c.work-given.ensures.cells_value _ c.clear.new.cells _ (c.args.own + 1) _ refl refl c.clear.ensures refl; told_after = tells c.requires c.args.told.now c.work-given.ensures.told_after }
