-- `translator::merge::put_merges` meets its contract.
use Prim.Native.Nat.{◌-◌}
use Rattle.translator.proofs.Writing.{Going}
use Rattle.translator.specs.Emit.{merges}
use lib.ListN.{length, take}
use mathlib.Core.Path.{◌≡◌}
use Rattle.translator.proofs.merge.put_merges.Given as goal

abbrev pub invariant-loop-i : goal.invariant-loop-i
invariant-loop-i l =
    (length l.sums ≡ 32) × Going (merges l.b l.more l.b 0 (take l.m l.p.regs) l.initial.q.next) l.initial.q l.initial.code l.q l.code (take l.i l.sums) (merges (l.b - l.i) l.more l.b l.i (take l.m l.p.regs) l.q.next)
