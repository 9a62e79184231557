-- `beam::sum` meets its contract.
use Prim.Native.Nat.{◌+◌, ◌-◌, ◌*◌, ◌≤◌}
use mathlib.Core.Path.{◌≡◌}
use lib.ListN.{take}
use Rattle.signal.specs.Signal.{sum_from}
use Rattle.beam.proofs.sum.Given as goal

abbrev pub invariant-loop-i : goal.invariant-loop-i
invariant-loop-i l = (l.next + 32 * (l.k - l.i) ≤ l.at + 32 * l.k) × (sum_from (l.k - l.i) l.b l.total l.next (take l.m l.a) ≡ sum_from l.k l.b l.acc l.at (take l.m l.a))
