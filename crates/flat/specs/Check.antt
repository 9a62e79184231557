-- The check of a code, refusal 13. A negative number is a word of 2^31 or more, so each upper limit shuts it out too.
use Rattle.std.specs.Prelude.{ℕ, suc, ◌+◌, Bool, true, false, List, [], ◌∷◌, length, eqb, leb, ltb}
use Rattle.word.specs.Choice.{◌and◌, pick}
use Rattle.word.specs.Limits.{widest, control_count, longest_delay, most_instructions, most_cells}
use Rattle.word.specs.Operation.{operands}
use Rattle.flat.specs.Flat.{Instruction}
use Rattle.flat.specs.Code.{Code, decode, input_count, output_count, instruction_count, cell_count, results_at}

-- the registers are below r
abbrev pub all_below : ℕ → List ℕ → Bool
all_below r [] = true
all_below r (x ∷ xs) = ltb x r and all_below r xs

-- "unused" numbers are 0
abbrev pub unused : List ℕ → Bool
unused [] = true
unused (x ∷ xs) = eqb x 0 and unused xs

-- the number x at the input k of the operation `op`: a register below r, or unused where the operation has no such input
abbrev pub input_ok : (op k r x : ℕ) → Bool
input_ok op k r x = pick (ltb k (operands op)) (ltb x r) (eqb x 0)

-- An instruction whose own register is r, in a code with so many cells whose registers end before `end`:
-- not "a code, op, slot, D or unused number wrong; a register negative or not below the instruction's own";
-- not "a cell, each of a delay's D+1 included, outside the count; a skip count negative or past the end".
-- An op is known where the table of operand counts has it.
unfoldable pub instruction_ok : (cells end r : ℕ) → Instruction → Bool
instruction_ok cells end r x =
    pick (eqb x.code 1) (unused (x.b ∷ x.c ∷ x.d ∷ x.e ∷ []))
    (pick (eqb x.code 2) (ltb x.a control_count and unused (x.b ∷ x.c ∷ x.d ∷ x.e ∷ []))
    (pick (eqb x.code 3) (ltb 0 (operands x.a) and ltb x.b r and input_ok x.a 1 r x.c and input_ok x.a 2 r x.e and eqb x.d 0)
    (pick (eqb x.code 4) (ltb x.a r and ltb x.b r and leb x.d longest_delay and leb (x.c + suc x.d) cells and eqb x.e 0)
    (pick (eqb x.code 5) (ltb x.a cells and unused (x.b ∷ x.c ∷ x.d ∷ x.e ∷ []))
    (pick (eqb x.code 6) (ltb x.a cells and ltb x.b r and unused (x.c ∷ x.d ∷ x.e ∷ []))
    (pick (eqb x.code 7) (ltb x.a r and leb (suc (r + x.b)) end and unused (x.c ∷ x.d ∷ x.e ∷ []))
    false))))))

-- instructions from the one whose own register is r on
unfoldable pub instructions_ok : (cells end r : ℕ) → List Instruction → Bool
instructions_ok cells end r [] = true
instructions_ok cells end r (x ∷ xs) = instruction_ok cells end r x and instructions_ok cells end (suc r) xs

-- not "header negative or above 32, 32, 2,048, 16,384; length not 4+6c+m"
abbrev pub header_ok : List ℕ → Bool
header_ok xs =
    leb (input_count xs) widest and leb (output_count xs) widest and leb (instruction_count xs) most_instructions and leb (cell_count xs) most_cells
    and eqb (length xs) (results_at (instruction_count xs) + output_count xs)

-- the instructions, and the output registers "below n+c", which is `end`
abbrev pub body_ok : ℕ → Code → Bool
body_ok end k = instructions_ok k.cells end k.inputs k.instructions and all_below end k.results

-- row 13 does not apply
unfoldable pub code_ok : List ℕ → Bool
code_ok xs = header_ok xs and body_ok (input_count xs + instruction_count xs) (decode xs)
