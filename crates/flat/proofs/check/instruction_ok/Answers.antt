-- `flat::check::instruction_ok` meets its contract: each row of the table by its tests, in the order of the code.
use Prim.Native.Nat.{suc, ◌+◌}
use native.Mathlib.Numerals.{add-one}
use native.Mathlib.Omega.{arith}
use borrow.Author.Tests.{lt-ltb, le-ltb, le-leb, lt-leb}
use Rattle.flat.specs.declared.format.Code.TheVariants.{Number, Control, Operation, Delay, Read, Write, Skip}
use Rattle.flat.specs.Check.{instruction_ok}
use Rattle.flat.specs.Codes.{number_of}
use Rattle.flat.proofs.Decoded.{unnumbered}
use Rattle.flat.proofs.check.instruction_ok.Goals as goal

pub returns-in-Some-Number : goal.returns-in-Some-Number
unfolding instruction_ok
returns-in-Some-Number c = rw (← c.in-Some-Number.ensures, c.in-Some-Number.field-0-is) c.unused.ensures

pub returns-then-x-lt-SLOTS : goal.returns-then-x-lt-SLOTS
unfolding instruction_ok
returns-then-x-lt-SLOTS c = rw (← c.in-Some-Control.ensures, c.in-Some-Control.field-0-is, lt-ltb _ _ c.if-x-lt-SLOTS.true) c.unused-then-x-lt-SLOTS.ensures

pub returns-else-x-lt-SLOTS : goal.returns-else-x-lt-SLOTS
unfolding instruction_ok
returns-else-x-lt-SLOTS c = rw (← c.in-Some-Control.ensures, c.in-Some-Control.field-0-is, le-ltb _ _ c.if-x-lt-SLOTS.false)

pub returns-in-Some-Operation : goal.returns-in-Some-Operation
unfolding instruction_ok
returns-in-Some-Operation c = rw (← c.in-Some-Operation.ensures, c.in-Some-Operation.field-0-is) c.operation_ok.ensures

pub returns-then-index : goal.returns-then-index
unfolding instruction_ok
returns-then-index c = let l = rw (add-one, c.index.ensures, c.index-then-x-le-LONGEST_DELAY.ensures, c.index-then-x-le-LONGEST_DELAY-2.ensures) at c.if-index.true in rw (← c.in-Some-Delay.ensures, c.in-Some-Delay.field-0-is, lt-ltb _ _ c.if-x-own.true, lt-ltb _ _ c.if-x-own-2.true, le-leb _ _ c.if-x-le-LONGEST_DELAY.true, le-leb _ _ l)

pub returns-else-index : goal.returns-else-index
unfolding instruction_ok
returns-else-index c = let l = rw (add-one, c.index.ensures, c.index-then-x-le-LONGEST_DELAY.ensures, c.index-then-x-le-LONGEST_DELAY-2.ensures) at c.if-index.false in rw (← c.in-Some-Delay.ensures, c.in-Some-Delay.field-0-is, lt-ltb _ _ c.if-x-own.true, lt-ltb _ _ c.if-x-own-2.true, le-leb _ _ c.if-x-le-LONGEST_DELAY.true, lt-leb _ _ l) (lt-leb _ _ c.if-index.false)

pub returns-else-x-le-LONGEST_DELAY : goal.returns-else-x-le-LONGEST_DELAY
unfolding instruction_ok
returns-else-x-le-LONGEST_DELAY c = rw (← c.in-Some-Delay.ensures, c.in-Some-Delay.field-0-is, lt-ltb _ _ c.if-x-own.true, lt-ltb _ _ c.if-x-own-2.true, lt-leb _ _ c.if-x-le-LONGEST_DELAY.false)

pub returns-else-x-own-2 : goal.returns-else-x-own-2
unfolding instruction_ok
returns-else-x-own-2 c = rw (← c.in-Some-Delay.ensures, c.in-Some-Delay.field-0-is, lt-ltb _ _ c.if-x-own.true, le-ltb _ _ c.if-x-own-2.false)

pub returns-else-x-own : goal.returns-else-x-own
unfolding instruction_ok
returns-else-x-own c = rw (← c.in-Some-Delay.ensures, c.in-Some-Delay.field-0-is, le-ltb _ _ c.if-x-own.false)

pub returns-then-x-cells : goal.returns-then-x-cells
unfolding instruction_ok
returns-then-x-cells c = rw (← c.in-Some-Read.ensures, c.in-Some-Read.field-0-is, lt-ltb _ _ c.if-x-cells.true) c.unused-then-x-cells.ensures

pub returns-else-x-cells : goal.returns-else-x-cells
unfolding instruction_ok
returns-else-x-cells c = rw (← c.in-Some-Read.ensures, c.in-Some-Read.field-0-is, le-ltb _ _ c.if-x-cells.false)

pub returns-then-x-own-3 : goal.returns-then-x-own-3
unfolding instruction_ok
returns-then-x-own-3 c = rw (← c.in-Some-Write.ensures, c.in-Some-Write.field-0-is, lt-ltb _ _ c.if-x-cells-2.true, lt-ltb _ _ c.if-x-own-3.true) c.unused-then-x-own-3.ensures

pub returns-else-x-own-3 : goal.returns-else-x-own-3
unfolding instruction_ok
returns-else-x-own-3 c = rw (← c.in-Some-Write.ensures, c.in-Some-Write.field-0-is, lt-ltb _ _ c.if-x-cells-2.true, le-ltb _ _ c.if-x-own-3.false)

pub returns-else-x-cells-2 : goal.returns-else-x-cells-2
unfolding instruction_ok
returns-else-x-cells-2 c = rw (← c.in-Some-Write.ensures, c.in-Some-Write.field-0-is, le-ltb _ _ c.if-x-cells-2.false)

pub returns-then-index-2 : goal.returns-then-index-2
unfolding instruction_ok
returns-then-index-2 c = rw (← c.in-Some-Skip.ensures, c.in-Some-Skip.field-0-is, lt-ltb _ _ c.if-x-own-4.true, ← c.index-then-x-own-4.ensures, ← c.index-then-x-own-4-2.ensures, ← c.index-then-x-own-4-3.ensures, le-leb _ _ c.if-index-2.true) c.unused-then-index-2.ensures

pub returns-else-index-2 : goal.returns-else-index-2
unfolding instruction_ok
returns-else-index-2 c = rw (← c.in-Some-Skip.ensures, c.in-Some-Skip.field-0-is, lt-ltb _ _ c.if-x-own-4.true, ← c.index-then-x-own-4.ensures, ← c.index-then-x-own-4-2.ensures, ← c.index-then-x-own-4-3.ensures, lt-leb (suc (c.index-then-x-own-4.result + c.index-then-x-own-4-2.result)) c.index-then-x-own-4-3.result (omega arith))

pub returns-else-x-own-4 : goal.returns-else-x-own-4
unfolding instruction_ok
returns-else-x-own-4 c = rw (← c.in-Some-Skip.ensures, c.in-Some-Skip.field-0-is, le-ltb _ _ c.if-x-own-4.false)

pub returns-in-None : goal.returns-in-None
unfolding instruction_ok
returns-in-None c =
    let n = unnumbered number_of c.args.x.code c.in-None.ensures in
    simp (n Number, n Control, n Operation, n Delay, n Read, n Write, n Skip)
