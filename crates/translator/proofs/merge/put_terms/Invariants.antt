-- `translator::merge::put_terms` meets its contract.
use Prim.Native.Nat.{◌+◌, ◌-◌, ◌*◌}
use mathlib.Core.List.{[]}
use Rattle.translator.proofs.Writing.{Going}
use Rattle.translator.specs.Emit.{terms}
use lib.ListN.{take}
use Rattle.translator.proofs.merge.put_terms.Given as goal

abbrev pub invariant-loop-j : goal.invariant-loop-j
invariant-loop-j l =
    Going (terms l.k l.b l.acc l.from (take l.m l.regs) l.initial.q.next) l.initial.q l.initial.code l.q l.code [] (terms (l.k - l.j) l.b l.register (l.from + l.j * l.b) (take l.m l.regs) l.q.next)
