-- `cells::load` meets its contract.
use Prim.Native.Nat.{ℕ, ◌<◌, ◌≤◌}
use mathlib.Core.Path.{◌≡◌}
use mathlib.Core.List.{List, ◌++◌}
use native.Mathlib.Omega.{arith}
use borrow.Author.Tests.{le-leb, lt-leb}
use lib.ListN.{length, drop}
use Rattle.word.specs.Tick.{zeros}
use Rattle.refusal.specs.Outcome.{outcome}
use Rattle.cells.specs.Load.{loaded}
use Rattle.refusal.specs.Answer.{count, refused_all}
use Rattle.cells.proofs.load.Goals as goal

too_many : (n : ℕ) (cs : List ℕ) → 16384 < n → outcome (refused_all 11) cs ≡ loaded n cs
unfolding loaded
too_many n cs h = rw (lt-leb n 16384 h)

too_short : (n : ℕ) (cs : List ℕ) → n ≤ 16384 → length cs < n → outcome (refused_all 12) cs ≡ loaded n cs
unfolding loaded
too_short n cs g h = rw (le-leb n 16384 g, lt-leb n (length cs) h)

cleared : (n : ℕ) (cs cs' : List ℕ) → n ≤ 16384 → n ≤ length cs → cs' ≡ zeros n ++ drop n cs → outcome (count n) cs' ≡ loaded n cs
unfolding loaded
cleared n cs cs' g h e = rw (le-leb n 16384 g, le-leb n (length cs) h, e)

pub returns-then-count-gt-CELLS : goal.returns-then-count-gt-CELLS
returns-then-count-gt-CELLS c = too_many c.args.named c.args.cells.now (omega arith)

pub returns-then-count-cells : goal.returns-then-count-cells
returns-then-count-cells c = too_short c.args.named c.args.cells.now (omega arith) (omega arith)

pub returns : goal.returns
returns c =
    let w = c.index-count.ensures in
    let e = c.clear.ensures in
    cleared c.args.named c.args.cells.now _ (omega arith) (omega arith) (rw w at e)
