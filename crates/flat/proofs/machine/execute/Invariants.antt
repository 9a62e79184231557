-- `flat::machine::execute` meets its contract: executing what is left gives the machine that executing all gives.
use Prim.Native.Nat.{◌-◌}
use mathlib.Core.Path.{◌≡◌}
use lib.ListN.{length, take, drop}
use Rattle.flat.specs.Flat.{machine, execute as execute_of, execute_clips}
use Rattle.flat.specs.Code.{header, instructions_of, input_count, instruction_count}
use Rattle.flat.proofs.Executing.{Going}
use Rattle.flat.proofs.machine.execute.Given as goal

abbrev pub invariant-loop-own : goal.invariant-loop-own
invariant-loop-own l =
    Going l.code l.keys l.controls (execute_of l.controls (instructions_of (instruction_count l.code) (drop header l.code)) (machine (take (input_count l.code) l.initial.registers) 0 l.initial.cells))
    (execute_clips l.controls (instructions_of (instruction_count l.code) (drop header l.code)) (machine (take (input_count l.code) l.initial.registers) 0 l.initial.cells)) l.end l.p l.own l.told l.registers l.cells
    × ((length l.registers ≡ length l.initial.registers) × (length l.cells ≡ length l.initial.cells))

abbrev pub decreases-loop-own : goal.decreases-loop-own
decreases-loop-own l = l.end - l.own
