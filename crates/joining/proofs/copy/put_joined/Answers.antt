-- `joining::copy::put_joined` meets its contract: the first table, the second, the joining node.
use native.Mathlib.Omega.{arith}
use Rattle.drawing.proofs.Accepted.{formed}
use Rattle.joining.proofs.Copying.{all-written}
use Rattle.joining.proofs.copy.put_joined.Goals as goal

pub overflow_sub-at : goal.overflow_sub-at
overflow_sub-at c = omega (arith, (formed _ c.requires.joinable.first).least)

pub overflow_sub-last : goal.overflow_sub-last
overflow_sub-last c = omega (arith, (formed _ c.requires.joinable.first).least)

pub returns : goal.returns
returns c = all-written _ _ _ c.requires.joinable c.requires.second_in_bounds c.put_table.ensures c.put_table-2.ensures _ c.put_node.ensures
