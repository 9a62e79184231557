-- The instructions of the table of codes by their names; a number that a code does not use is 0.
use Rattle.std.specs.Prelude.{ℕ}
use Rattle.word.specs.Operation.{operand}
use Rattle.flat.specs.Flat.{Instruction, instruction}

abbrev pub number : ℕ → Instruction
number v = instruction 1 v 0 0 0 0

abbrev pub control : ℕ → Instruction
control slot = instruction 2 slot 0 0 0 0

-- E4: "the sixth 0 except for op 10, where it is the third input register; the fifth of code 3 stays 0"
abbrev pub operation : (op x y z : ℕ) → Instruction
operation op x y z = instruction 3 op x (operand op 1 y) 0 (operand op 2 z)

abbrev pub addition : (x y : ℕ) → Instruction
addition x y = operation 1 x y 0

-- of the register x, by the amount in the register y, on the cells from a on
abbrev pub delay : (x y a d : ℕ) → Instruction
delay x y a d = instruction 4 x y a d 0

-- a code that works on the cell a, with the register x
abbrev pub on_cell : (code a x : ℕ) → Instruction
on_cell code a x = instruction code a x 0 0 0

abbrev pub read : ℕ → Instruction
read a = on_cell 5 a 0

abbrev pub write : (a x : ℕ) → Instruction
write a x = on_cell 6 a x

abbrev pub skip : (x k : ℕ) → Instruction
skip x k = instruction 7 x k 0 0 0
