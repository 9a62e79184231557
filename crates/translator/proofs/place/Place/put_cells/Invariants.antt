-- `translator::place::Place::put_cells` meets its contract.
use Prim.Native.Nat.{◌+◌}
use mathlib.Core.List.{[]}
use Rattle.flat.specs.Codes.{number_of}
use Rattle.translator.proofs.Writing.{Going}
use Rattle.translator.specs.Emit.{emitted}
use Rattle.translator.specs.Writing.{on_cells}
use lib.ListN.{drop}
use Rattle.translator.proofs.place.Place.put_cells.Given as goal

abbrev pub invariant-loop-i : goal.invariant-loop-i
invariant-loop-i l =
    Going (emitted (on_cells (number_of l.access) l.cell l.regs) []) l.initial.q l.initial.code l.q l.code [] (emitted (on_cells (number_of l.access) (l.cell + l.i) (drop l.i l.regs)) [])
