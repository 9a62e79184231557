-- `player::samples::circuit_bytes` meets its contract: no empty line stands before `at`.
use Rattle.std.proofs.Common.{◌≡◌, ◌+◌, length, drop}
use Rattle.player.specs.Samples.{up_to_empty, circuit_part}
use Rattle.player.proofs.samples.circuit_bytes.Given as goal

abbrev pub invariant-loop-at : goal.invariant-loop-at
invariant-loop-at l = length (circuit_part l.input) ≡ l.at + length (up_to_empty l.last (drop l.at l.input))
