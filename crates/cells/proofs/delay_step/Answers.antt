-- `cells::delay_step` meets its contract.
use Prim.Native.Nat.{ℕ}
use mathlib.Core.Path.{◌≡◌}
use mathlib.Core.List.{List}
use native.Mathlib.Omega.{arith}
use borrow.Author.Tests.{eq-eqb}
use Rattle.word.specs.Word.{clamp}
use Rattle.word.proofs.Forms.{clamp-most}
use Rattle.cells.specs.Delay.{delayed, moved}
use Rattle.cells.proofs.delay_step.Goals as goal

-- a line of 0 gives its input, and is not touched

none-delayed : (d x amount : ℕ) (cs : List ℕ) → d ≡ 0 → x ≡ delayed 0 d x amount cs
none-delayed d x amount cs e =
    let z : clamp amount d ≡ 0 = omega (arith, clamp-most amount d) in
    rw (eq-eqb _ _ z)

none-moved : (d x : ℕ) (cs : List ℕ) → d ≡ 0 → cs ≡ moved 0 d x cs
none-moved d x cs e = rw e

pub returns-then-d-eq0 : goal.returns-then-d-eq0
returns-then-d-eq0 c =
    let line : List ℕ = c.args.line.now in
    (none-delayed _ _ _ line c.if-d-eq0.true, none-moved _ _ line c.if-d-eq0.true, c.outside-clipped.ensures)
