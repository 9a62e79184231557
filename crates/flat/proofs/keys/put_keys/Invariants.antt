-- `flat::keys::put_keys` meets its contract: the keys so far stand before the next register.
use Prim.Native.Nat.{◌+◌, ◌-◌, ◌*◌}
use mathlib.Core.Path.{◌≡◌}
use lib.ListN.{length}
use Rattle.flat.specs.Flat.{width}
use Rattle.flat.specs.Code.{header}
use Rattle.flat.specs.Steps.{Keys}
use Rattle.flat.proofs.keys.put_keys.Given as goal

abbrev pub invariant-loop-own : goal.invariant-loop-own
invariant-loop-own l = (l.p ≡ header + width * (l.own - l.first)) × ((length l.keys ≡ length l.initial.keys) × Keys l.code l.keys l.own header l.first)
