-- `flat::machine::work` meets its contract, key by key.
use mathlib.Core.Path.{refl}
use native.Mathlib.Omega.{arith}
use Rattle.word.specs.Operation.{operands}
use Rattle.flat.specs.Flat.{worked}
use Rattle.flat.proofs.Working.{code_is, op_there, third_there, two-work, three-work, control_there, delay_there, cell_there, write_there, clock_there}
use Rattle.flat.proofs.machine.work.Goals as goal

pub bounds-controls-a : goal.bounds-controls-a
bounds-controls-a c = omega (arith, control_there c.requires c.in-Control.is, c.index-a.ensures)

pub bounds-registers-a : goal.bounds-registers-a
bounds-registers-a c = omega (arith, (delay_there c.requires c.in-Delay.is).0, c.index-a.ensures)

pub bounds-registers-b : goal.bounds-registers-b
bounds-registers-b c = omega (arith, (delay_there c.requires c.in-Delay.is).1.0, c.index-b.ensures)

pub delay_at-delayed-requires : goal.delay_at-delayed-requires
delay_at-delayed-requires c =
    let o = (delay_there c.requires c.in-Delay.is).1.1 in
    omega (arith, o.0, o.1, c.index.ensures, c.index-in-Delay.ensures)

pub bounds-cells-a : goal.bounds-cells-a
bounds-cells-a c = omega (arith, cell_there c.requires c.in-Read.is, c.index-a.ensures)

pub bounds-registers-b-in-Write : goal.bounds-registers-b-in-Write
bounds-registers-b-in-Write c = omega (arith, (write_there c.requires c.in-Write.is).1, c.index-b.ensures)

pub bounds-cells-a-in-Write : goal.bounds-cells-a-in-Write
bounds-cells-a-in-Write c = omega (arith, (write_there c.requires c.in-Write.is).0, c.index-a.ensures)

pub operated-requires : goal.operated-requires
operated-requires c = op_there c.requires c.in-Add.is refl

pub operated-requires-in-Subtract : goal.operated-requires-in-Subtract
operated-requires-in-Subtract c = op_there c.requires c.in-Subtract.is refl

pub operated-requires-in-Multiply : goal.operated-requires-in-Multiply
operated-requires-in-Multiply c = op_there c.requires c.in-Multiply.is refl

pub operated-requires-in-Quotient : goal.operated-requires-in-Quotient
operated-requires-in-Quotient c = op_there c.requires c.in-Quotient.is refl

pub operated-requires-in-Remainder : goal.operated-requires-in-Remainder
operated-requires-in-Remainder c = op_there c.requires c.in-Remainder.is refl

pub operated-requires-in-Less : goal.operated-requires-in-Less
operated-requires-in-Less c = op_there c.requires c.in-Less.is refl

pub operated-requires-in-Equal : goal.operated-requires-in-Equal
operated-requires-in-Equal c = op_there c.requires c.in-Equal.is refl

pub operated-requires-in-Absolute : goal.operated-requires-in-Absolute
operated-requires-in-Absolute c = op_there c.requires c.in-Absolute.is refl

pub operated-requires-in-Negate : goal.operated-requires-in-Negate
operated-requires-in-Negate c = op_there c.requires c.in-Negate.is refl

pub bounds-registers-index : goal.bounds-registers-index
bounds-registers-index c = omega (arith, third_there c.requires c.in-Select.is refl, c.index-in-Select.ensures)

pub operated-requires-in-Select : goal.operated-requires-in-Select
operated-requires-in-Select c = op_there c.requires c.in-Select.is refl

pub bounds-registers-a-in-Skip : goal.bounds-registers-a-in-Skip
bounds-registers-a-in-Skip c = omega (arith, clock_there c.requires c.in-Skip.is, c.index-a.ensures)

pub returns-in-Number-clause-cells_value : goal.returns-in-Number-clause-cells_value
unfolding worked
returns-in-Number-clause-cells_value c = let k = code_is c.requires c.in-Number.is in rw (k, c.gives.ensures.0, c.gives.ensures.1)

pub returns-in-Control-clause-cells_value : goal.returns-in-Control-clause-cells_value
unfolding worked
returns-in-Control-clause-cells_value c = let k = code_is c.requires c.in-Control.is in rw (k, c.gives-in-Control.ensures.0, c.gives-in-Control.ensures.1, c.index-a.ensures)

pub returns-in-Delay-clause-cells_value : goal.returns-in-Delay-clause-cells_value
unfolding worked
returns-in-Delay-clause-cells_value c = let k = code_is c.requires c.in-Delay.is in rw (k, c.gives-in-Delay.ensures.0, c.gives-in-Delay.ensures.1, c.delay_at-delayed.ensures.0, c.delay_at-delayed.ensures.1, c.index-a.ensures, c.index-b.ensures, c.index.ensures, c.index-in-Delay.ensures)

pub returns-in-Read-clause-cells_value : goal.returns-in-Read-clause-cells_value
unfolding worked
returns-in-Read-clause-cells_value c = let k = code_is c.requires c.in-Read.is in rw (k, c.gives-in-Read.ensures.0, c.gives-in-Read.ensures.1, c.index-a.ensures)

pub returns-in-Write-clause-cells_value : goal.returns-in-Write-clause-cells_value
unfolding worked
returns-in-Write-clause-cells_value c = let k = code_is c.requires c.in-Write.is in rw (k, c.gives-in-Write.ensures.0, c.gives-in-Write.ensures.1, c.index-a.ensures, c.index-b.ensures)

pub returns-in-Add-clause-cells_value : goal.returns-in-Add-clause-cells_value
unfolding operands
returns-in-Add-clause-cells_value c = two-work c.requires c.in-Add.is refl refl c.operated.ensures

pub returns-in-Subtract-clause-cells_value : goal.returns-in-Subtract-clause-cells_value
unfolding operands
returns-in-Subtract-clause-cells_value c = two-work c.requires c.in-Subtract.is refl refl c.operated-in-Subtract.ensures

pub returns-in-Multiply-clause-cells_value : goal.returns-in-Multiply-clause-cells_value
unfolding operands
returns-in-Multiply-clause-cells_value c = two-work c.requires c.in-Multiply.is refl refl c.operated-in-Multiply.ensures

pub returns-in-Quotient-clause-cells_value : goal.returns-in-Quotient-clause-cells_value
unfolding operands
returns-in-Quotient-clause-cells_value c = two-work c.requires c.in-Quotient.is refl refl c.operated-in-Quotient.ensures

pub returns-in-Remainder-clause-cells_value : goal.returns-in-Remainder-clause-cells_value
unfolding operands
returns-in-Remainder-clause-cells_value c = two-work c.requires c.in-Remainder.is refl refl c.operated-in-Remainder.ensures

pub returns-in-Less-clause-cells_value : goal.returns-in-Less-clause-cells_value
unfolding operands
returns-in-Less-clause-cells_value c = two-work c.requires c.in-Less.is refl refl c.operated-in-Less.ensures

pub returns-in-Equal-clause-cells_value : goal.returns-in-Equal-clause-cells_value
unfolding operands
returns-in-Equal-clause-cells_value c = two-work c.requires c.in-Equal.is refl refl c.operated-in-Equal.ensures

pub returns-in-Absolute-clause-cells_value : goal.returns-in-Absolute-clause-cells_value
unfolding operands
returns-in-Absolute-clause-cells_value c = two-work c.requires c.in-Absolute.is refl refl c.operated-in-Absolute.ensures

pub returns-in-Negate-clause-cells_value : goal.returns-in-Negate-clause-cells_value
unfolding operands
returns-in-Negate-clause-cells_value c = two-work c.requires c.in-Negate.is refl refl c.operated-in-Negate.ensures

pub returns-in-Select-clause-cells_value : goal.returns-in-Select-clause-cells_value
returns-in-Select-clause-cells_value c = three-work c.requires c.in-Select.is refl (rw c.index-in-Select.ensures) c.operated-in-Select.ensures

pub returns-in-Skip-clause-cells_value : goal.returns-in-Skip-clause-cells_value
unfolding worked
returns-in-Skip-clause-cells_value c = let k = code_is c.requires c.in-Skip.is in rw (k, c.skips.ensures.0, c.skips.ensures.1, c.index-a.ensures, c.index-b.ensures)
