-- `cells::clamp` meets its contract.
use Prim.Native.Nat.{◌^◌, ◌<◌}
use Rattle.word.proofs.Forms.{clamp_form}
use borrow.Author.Tests.{lt-ltb, le-ltb}
use native.Mathlib.Omega.{arith}
use Rattle.cells.proofs.clamp.Goals as goal

pub returns-then-a-d : goal.returns-then-a-d
returns-then-a-d c =
    let small : c.args.amount < 2 ^ 31 = omega (arith, c.requires, c.index-a.ensures, c.if-a-d.true) in
    (rw (clamp_form, lt-ltb _ _ small) (omega (arith, c.index-a.ensures, c.if-a-d.true)), omega (arith, c.if-a-d.true))

pub returns-then-amount-lt-HALF : goal.returns-then-amount-lt-HALF
returns-then-amount-lt-HALF c = (rw (clamp_form, lt-ltb _ _ c.if-amount-lt-HALF.true) (omega (arith, c.index-a.ensures, c.if-a-d.false)), omega arith)

pub returns : goal.returns
returns c = (rw (clamp_form, le-ltb _ _ c.if-amount-lt-HALF.false), omega arith)
