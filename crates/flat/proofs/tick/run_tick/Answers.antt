-- `flat::tick::run_tick` meets its contract.
use native.Mathlib.Omega.{arith}
use Rattle.flat.proofs.Ports.{results-below, ticked}
use Rattle.flat.proofs.tick.run_tick.Goals as goal

pub gather-requires : goal.gather-requires
gather-requires c = (
  omega (arith, c.index.ensures, c.requires.ready.checked.head.long, c.requires.inputs_len.1),
  results-below _ c.execute-clipped.new.registers _ c.requires.ready.checked c.index.ensures (omega (arith, c.requires.ready.room, c.execute-clipped.auto.registers, c.put.auto.registers)),
)

pub returns : goal.returns
returns c =
    let e = c.put.ensures in
    let q = c.gather.ensures in
    ticked _ _ _ _ c.put.new.registers c.execute-clipped.new.registers _ _ _ c.requires.ready.checked (rw c.requires.inputs_len.0 at e) c.execute-clipped.ensures.cells_value (rw c.index.ensures at q) c.execute-clipped.ensures.value
