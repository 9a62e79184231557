-- `walker::wiring::second_given` meets its contract.
use mathlib.Core.Path.{sym}
use native.Mathlib.Omega.{arith}
use Rattle.walker.proofs.Wires.{left-inputs, left-outputs, right-inputs, right-outputs, recursion-room, second-parallel, second-split, second-recursion}
use Rattle.walker.proofs.wiring.second_given.Goals as goal

pub returns-in-Parallel : goal.returns-in-Parallel
returns-in-Parallel c =
    let p = c.in-Parallel.ensures.promise in
    second-parallel p c.requires (sym c.in-Parallel.ensures.value) (left-inputs p c.requires c.left-left.ensures.value c.inputs.ensures) c.after.ensures

pub returns-in-Split : goal.returns-in-Split
returns-in-Split c =
    let p = c.in-Split.ensures.promise in
    second-split p c.requires (sym c.in-Split.ensures.value) (left-outputs p c.requires c.left-left.ensures.value c.outputs.ensures) (right-inputs p c.requires c.right-right.ensures.value c.inputs-in-Split.ensures) c.repeated.ensures

pub joined-requires : goal.joined-requires
joined-requires c =
    let p = c.in-Recursion.ensures.promise in
    let m = right-outputs p c.requires c.right-right.ensures.value c.outputs-in-Recursion.ensures in
    omega (arith, recursion-room p c.requires (sym c.in-Recursion.ensures.value), c.inputs-in-Recursion.ensures)

pub returns-in-Recursion : goal.returns-in-Recursion
returns-in-Recursion c =
    let p = c.in-Recursion.ensures.promise in
    second-recursion p c.requires (sym c.in-Recursion.ensures.value) (right-outputs p c.requires c.right-right.ensures.value c.outputs-in-Recursion.ensures) c.inputs-in-Recursion.ensures c.joined.ensures
