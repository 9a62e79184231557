use Rattle.std.proofs.Common.{◌+◌, ◌≡◌, length}
use Rattle.number.specs.Number.{decimal}
use Rattle.number.proofs.numerals.decimal_bytes.Given as goal

abbrev pub invariant-loop-rest : goal.invariant-loop-rest
invariant-loop-rest l = l.count + length (decimal l.rest) ≡ length (decimal l.n) + 1

abbrev pub decreases-loop-rest : goal.decreases-loop-rest
decreases-loop-rest l = l.rest
