-- The circuit lies within what is held, the samples behind it.
use Rattle.std.proofs.Common.{sym, arith, length-take-le}
use Rattle.console.proofs.Bounds.{circuit_ends}
use Rattle.console.proofs.playing.play_input.Goals as goal

pub slice_bounds-translate_file-end : goal.slice_bounds-translate_file-end
slice_bounds-translate_file-end g c = omega (arith, circuit_ends _ c.in_ok-end.ensures c.circuit_bytes-circuit.ensures, c.in_ok-end.ensures)

pub slice_bounds-translate_file-end-2 : goal.slice_bounds-translate_file-end-2
slice_bounds-translate_file-end-2 g c = sym (length-take-le _ _ (omega (arith, circuit_ends _ c.in_ok-end.ensures c.circuit_bytes-circuit.ensures, c.in_ok-end.ensures)))

pub overflow_add-first : goal.overflow_add-first
overflow_add-first g c = omega (arith, circuit_ends _ c.in_ok-end.ensures c.circuit_bytes-circuit.ensures, c.in_ok-end.ensures)

pub new-requires : goal.new-requires
new-requires g c = c.in-Ok.ensures.head

pub play-requires : goal.play-requires
play-requires g c = record { order = omega (arith, circuit_ends _ c.in_ok-end.ensures c.circuit_bytes-circuit.ensures, c.if-circuit-end.false); within = c.in_ok-end.ensures }
