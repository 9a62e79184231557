-- `beam::merged` meets its contract.
use Prim.Native.Nat.{◌-◌}
use mathlib.Core.Path.{◌≡◌}
use mathlib.Core.List.{◌++◌}
use lib.ListN.{length, take}
use Rattle.signal.specs.Signal.{sums_from}
use Rattle.beam.proofs.merged.Given as goal

abbrev pub invariant-loop-i : goal.invariant-loop-i
invariant-loop-i l = (length l.r ≡ 32) × (take l.i l.r ++ sums_from (l.b - l.i) l.more l.b l.i (take l.m l.a) ≡ sums_from l.b l.more l.b 0 (take l.m l.a))
