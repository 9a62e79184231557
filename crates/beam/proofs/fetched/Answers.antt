-- `beam::fetched` meets its contract.
use Prim.Native.Nat.{ℕ}
use mathlib.Core.Path.{◌≡◌, sym, ◌∙◌}
use mathlib.Core.List.{List, ◌++◌}
use native.Mathlib.Omega.{arith}
use lib.ListN.{length, take}
use lib.Seq.{take_at}
use Rattle.cells.proofs.Parts.{part_length, part-take}
use Rattle.cells.proofs.Playing.{part-is}
use Rattle.beam.proofs.fetched.Goals as goal

in_front : (n : ℕ) (p ys rest : List ℕ) → ys ≡ p → length p ≡ n → take n (ys ++ rest) ≡ p
in_front n p ys rest e l = rw e (take_at p rest n l)

pub returns : goal.returns
returns c =
    in_front _ _ _ _ (c.copy_from_slice.ensures.after ∙ part-is c.args.base c.args.n c.args.cells.now ∙ sym (part-take c.args.base c.args.n c.args.cells.now (omega arith)))
    (part_length c.args.base c.args.n c.args.cells.now)
