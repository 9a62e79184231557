-- `flat::tick::put` meets its contract: the registers begin with the inputs that were put.
use Prim.Native.Nat.{◌≤◌}
use mathlib.Core.Path.{◌≡◌}
use lib.ListN.{length, take}
use Rattle.flat.proofs.tick.put.Given as goal

abbrev pub invariant-loop-i : goal.invariant-loop-i
invariant-loop-i l = (l.i ≤ length l.inputs) × ((length l.registers ≡ length l.initial.registers) × (take l.i l.registers ≡ take l.i l.inputs))
