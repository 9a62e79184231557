-- `flat::check::instructions_ok` meets its contract: the check of the whole is the check of what is left.
use Prim.Native.Nat.{◌+◌, ◌-◌, ◌*◌}
use mathlib.Core.Path.{◌≡◌}
use lib.ListN.{drop}
use Rattle.flat.specs.Flat.{width}
use Rattle.flat.specs.Code.{header, results_at, instructions_of}
use Rattle.flat.specs.Check.{instructions_ok}
use Rattle.flat.proofs.Decoded.{Checking}
use Rattle.flat.proofs.check.instructions_ok.Given as goal

abbrev pub invariant-loop-own : goal.invariant-loop-own
invariant-loop-own l =
    ((l.p + width * (l.end - l.own) ≡ results_at l.count) × Checking l.cells l.end l.code (instructions_ok l.cells l.end l.first (instructions_of l.count (drop header l.code))) l.own l.p)
