-- What the functions inside a run ask of each other and promise; the contract of the run itself cites none of this.
use Rattle.std.specs.Prelude.{ℕ, ◌+◌, ◌*◌, ◌≤◌, ◌<◌, ◌≡◌, true, List, ◌∷◌, ◌++◌, eqb, ltb, length, get_or, take}
use Rattle.word.specs.Choice.{pick}
use Rattle.word.specs.Operation.{operands}
use Rattle.word.specs.Limits.{widest, control_count, most_instructions, most_cells, most_ticks}
use Rattle.word.specs.Tick.{zeros}
use Rattle.flat.specs.declared.format.Instruction.{Instruction as Listed}
use Rattle.flat.specs.declared.keys.Key.{Key}
use Rattle.flat.specs.declared.keys.Key.TheVariants.{Skip, Number, Control, Delay, Read, Write, Add, Subtract, Multiply, Quotient, Remainder, Less, Equal, Absolute, Negate, Select}
use Rattle.flat.specs.Flat.{Instruction, instruction, width, effect, worked}
use Rattle.flat.specs.Code.{header, results_at, most_registers, instruction_at, input_count, output_count, instruction_count, cell_count}
use Rattle.flat.specs.Check.{instruction_ok, code_ok}

-- an instruction as the code holds it
abbrev pub listed : Listed → Instruction
listed x = instruction x.code x.a x.b x.c x.d x.e

-- what the header's check shows
pub record Header (xs : List ℕ) : Type 0 where
  pub ins : input_count xs ≤ widest
  pub outs : output_count xs ≤ widest
  pub count : instruction_count xs ≤ most_instructions
  pub cells : cell_count xs ≤ most_cells
  pub long : length xs ≡ results_at (instruction_count xs) + output_count xs

-- a code that passed the check
pub record Checked (code : List ℕ) : Type 0 where
  pub ok : code_ok code ≡ true
  pub head : Header code

-- the key that names the operation `op`
abbrev pub named_key : ℕ → Key
named_key op =
    pick (eqb op 1) Add
    (pick (eqb op 2) Subtract
    (pick (eqb op 3) Multiply
    (pick (eqb op 4) Quotient
    (pick (eqb op 5) Remainder
    (pick (eqb op 6) Less
    (pick (eqb op 7) Equal
    (pick (eqb op 8) Absolute
    (pick (eqb op 9) Negate
    (pick (eqb op 10) Select Skip)))))))))

-- the key of the operation `op`: whether there is one is for the operand table to say
abbrev pub operation_key : ℕ → Key
operation_key op = pick (ltb 0 (operands op)) (named_key op) Skip

-- what an instruction that passed the check does, its key: of an operation that one, of any other its code
abbrev pub key_of : Instruction → Key
key_of x =
    pick (eqb x.code 1) Number
    (pick (eqb x.code 2) Control
    (pick (eqb x.code 3) (operation_key x.a)
    (pick (eqb x.code 4) Delay
    (pick (eqb x.code 5) Read
    (pick (eqb x.code 6) Write Skip)))))

-- the keys of the instructions from place p on stand at the registers that these write, from r on and before `end`
pub record Keys (code : List ℕ) (keys : List Key) (end p r : ℕ) : Type 0 where
  pub room : end ≤ length keys
  pub here : (j : ℕ) → r + j < end → get_or keys (r + j) Skip ≡ key_of (instruction_at code (p + width * j))

-- an instruction of this key passed the check, and every register below its own is there
pub record Workable (key : Key) (x : Instruction) (controls registers cells : List ℕ) : Type 0 where
  pub keyed : key ≡ key_of x
  pub end : ℕ
  pub own : ℕ
  pub ok : instruction_ok (length cells) end own x ≡ true
  pub room : own ≤ length registers
  pub sixteen : length controls ≡ control_count

-- the same for its own register and those of the instructions that it may skip
pub record Steppable (key : Key) (x : Instruction) (controls : List ℕ) (own : ℕ) (registers cells : List ℕ) : Type 0 where
  pub keyed : key ≡ key_of x
  pub end : ℕ
  pub ok : instruction_ok (length cells) end own x ≡ true
  pub inside : own < end
  pub room : end ≤ length registers
  pub sixteen : length controls ≡ control_count

-- it worked on the registers below its own: they are now followed by its value and by zeros for the s that it skips
pub record Advanced (x : Instruction) (controls : List ℕ) (own : ℕ) (registers cells : List ℕ) (s : ℕ) (registers' cells' : List ℕ) : Type 0 where
  pub value : ℕ
  pub does : worked controls x (take own registers) cells ≡ effect value s cells'
  pub takes : take (own + (1 + s)) registers' ≡ take own registers ++ (value ∷ zeros s)

-- a code that passed the check, its keys, and what a tick works on
pub record Ready (code : List ℕ) (keys : List Key) (controls registers cells : List ℕ) : Type 0 where
  pub checked : Checked code
  pub keyed : Keys code keys (input_count code + instruction_count code) header (input_count code)
  pub room : most_registers ≤ length registers
  pub all : length cells ≡ cell_count code
  pub sixteen : length controls ≡ control_count

-- a call that rows 13, 14 and 12 let pass, with the cells and the outputs that it needs and no more
pub record Playable (code : List ℕ) (ticks : ℕ) (inputs controls cells outputs : List ℕ) : Type 0 where
  pub checked : Checked code
  pub few : ticks ≤ most_ticks
  pub ins : length inputs ≡ ticks * input_count code
  pub outs : length outputs ≡ ticks * output_count code
  pub all : length cells ≡ cell_count code
  pub sixteen : length controls ≡ control_count
