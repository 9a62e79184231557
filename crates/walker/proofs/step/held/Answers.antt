-- `walker::step::held` meets its contract.
use native.Mathlib.Omega.{arith}
use Rattle.walker.proofs.Leaves.{outs-few, held-room}
use Rattle.walker.proofs.step.held.Goals as goal

pub fetched-requires : goal.fetched-requires
fetched-requires c = omega (arith, c.cell.ensures.value, c.outputs.ensures, outs-few c.cell.ensures.promise c.requires.demands, held-room c.cell.ensures.promise c.requires.demands c.requires.roomy)
