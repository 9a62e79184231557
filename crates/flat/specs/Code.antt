-- Flat code as a list of numbers: the header, the instructions and the output registers.
use Rattle.std.specs.Prelude.{ℕ, zero, suc, ◌+◌, ◌*◌, List, [], ◌∷◌, ◌++◌, length, get_or, drop, take}
use Rattle.word.specs.Limits.{widest, most_instructions}
use Rattle.word.specs.Tick.{Tick, Stepped, stepped}
use Rattle.flat.specs.Flat.{Instruction, instruction, width, machine, execute, execute_clips, held}

-- a code: how many inputs and cells it has, its instructions, and the registers of its outputs
pub record Code : Type 0 where
  pub inputs : ℕ
  pub cells : ℕ
  pub instructions : List Instruction
  pub results : List ℕ

-- the numbers of an instruction
abbrev pub instruction_numbers : Instruction → List ℕ
instruction_numbers x = x.code ∷ x.a ∷ x.b ∷ x.c ∷ x.d ∷ x.e ∷ []

-- "Then c instructions": their numbers, one after another
abbrev pub numbers : List Instruction → List ℕ
numbers [] = []
numbers (x ∷ xs) = instruction_numbers x ++ numbers xs

-- "Header: inputs n, outputs m, instruction count c, cell count. Then c instructions .., then m output registers"
unfoldable pub encode : Code → List ℕ
encode k = k.inputs ∷ length k.results ∷ length k.instructions ∷ k.cells ∷ (numbers k.instructions ++ k.results)

-- the header of a list of numbers: n, m, c, and the cell count
abbrev pub input_count : List ℕ → ℕ
input_count xs = get_or xs 0 0

abbrev pub output_count : List ℕ → ℕ
output_count xs = get_or xs 1 0

abbrev pub instruction_count : List ℕ → ℕ
instruction_count xs = get_or xs 2 0

abbrev pub cell_count : List ℕ → ℕ
cell_count xs = get_or xs 3 0

-- where the instructions begin
abbrev pub header : ℕ
header = 4

-- where the output registers begin, behind c instructions
abbrev pub results_at : ℕ → ℕ
results_at c = header + width * c

-- how many registers and numbers the largest code has
abbrev pub most_registers : ℕ
most_registers = widest + most_instructions

abbrev pub most_numbers : ℕ
most_numbers = results_at most_instructions + widest

-- the instruction that stands at p
abbrev pub instruction_at : List ℕ → ℕ → Instruction
instruction_at xs p = instruction (get_or xs p 0) (get_or xs (p + 1) 0) (get_or xs (p + 2) 0) (get_or xs (p + 3) 0) (get_or xs (p + 4) 0) (get_or xs (p + 5) 0)

-- the first c instructions
abbrev pub instructions_of : ℕ → List ℕ → List Instruction
instructions_of zero xs = []
instructions_of (suc c) xs = instruction_at xs 0 ∷ instructions_of c (drop width xs)

-- the code that a list of numbers stands for
unfoldable pub decode : List ℕ → Code
decode xs = record {
  inputs = input_count xs;
  cells = cell_count xs;
  instructions = instructions_of (instruction_count xs) (drop header xs);
  results = take (output_count xs) (drop (results_at (instruction_count xs)) xs);
}

-- one tick of a code: "Registers 0 to n-1 hold the tick's inputs", then the instructions, then the output registers are read
unfoldable pub code_tick : Code → Tick → List ℕ → Stepped
code_tick k f cs =
    let start = machine f.inputs 0 cs in
    let m = execute f.controls k.instructions start in
    stepped (held m.registers k.results) m.cells (execute_clips f.controls k.instructions start)
