use Rattle.std.proofs.Common.{◌≡◌, ◌≤◌, drop}
use Rattle.number.specs.Promises.{natural}
use Rattle.number.proofs.Parse.{run}
use Rattle.number.proofs.reading.natural.Given as goal

abbrev pub invariant-loop-byte : goal.invariant-loop-byte
invariant-loop-byte l = (l.n ≤ 2147483649) × (natural l.most l.text ≡ run l.most l.n (drop l.byte-index l.text))
