-- Flat code: instructions, and what they do to registers and cells in one tick.
use Rattle.std.specs.Prelude.{ℕ, zero, suc, Bool, false, List, [], ◌∷◌, ◌++◌, map, get_or, set, eqb}
use Rattle.word.specs.Choice.{◌and◌, ◌or◌, pick}
use Rattle.word.specs.Word.{clipped}
use Rattle.word.specs.Operation.{operate, demand}
use Rattle.cells.specs.Delay.{delayed, moved}

-- E4: "every instruction has six numbers": the code and its operands in the table's order
pub record Instruction : Type 0 where
  pub code : ℕ
  pub a : ℕ
  pub b : ℕ
  pub c : ℕ
  pub d : ℕ
  pub e : ℕ

abbrev pub instruction : ℕ → ℕ → ℕ → ℕ → ℕ → ℕ → Instruction
instruction k x y z w v = record { code = k; a = x; b = y; c = z; d = w; e = v }

-- how many numbers an instruction has
abbrev pub width : ℕ
width = 6

-- within a tick: the registers written so far, how many instructions are still to be skipped, and the cells.
-- A register that is not yet written reads 0: "At the start of a tick those are 0".
pub record Machine : Type 0 where
  pub registers : List ℕ
  pub skip : ℕ
  pub cells : List ℕ

abbrev pub machine : List ℕ → ℕ → List ℕ → Machine
machine ρ s cs = record { registers = ρ; skip = s; cells = cs }

-- what one instruction does: the value of its register, the skip and the cells after it
pub record Effect : Type 0 where
  pub value : ℕ
  pub skip : ℕ
  pub cells : List ℕ

abbrev pub effect : ℕ → ℕ → List ℕ → Effect
effect v s cs = record { value = v; skip = s; cells = cs }

-- The table of codes, over registers ρ and cells cs, for an instruction that is not skipped:
-- 1 "number", 2 "control", 3 "operation", of op 10 the sixth "is the third input register", 4 "delay", 5 "read", 6 "write",
-- 7 "skips the next instructions, count many, unless the register" is a demand, since E1 any number but 0; "codes 6 and 7 write 0".
unfoldable pub worked : List ℕ → Instruction → List ℕ → List ℕ → Effect
worked controls x ρ cs =
    let reg : ℕ → ℕ = λ r. get_or ρ r 0 in
    pick (eqb x.code 1) (effect x.a 0 cs)
    (pick (eqb x.code 2) (effect (get_or controls x.a 0) 0 cs)
    (pick (eqb x.code 3) (effect (operate x.a (reg x.b) (reg x.c) (reg x.e)) 0 cs)
    (pick (eqb x.code 4) (effect (delayed x.c x.d (reg x.a) (reg x.b) cs) 0 (moved x.c x.d (reg x.a) cs))
    (pick (eqb x.code 5) (effect (get_or cs x.a 0) 0 cs)
    (pick (eqb x.code 6) (effect 0 0 (set cs x.a (reg x.b)))
    (effect 0 (pick (demand (reg x.a)) 0 x.b) cs))))))

-- one instruction, skipped or not; a skipped one leaves 0 in its register
abbrev pub acted : List ℕ → Instruction → List ℕ → ℕ → List ℕ → Effect
acted controls x ρ zero cs = worked controls x ρ cs
acted controls x ρ (suc s) cs = effect 0 s cs

-- "instruction i writes register n+i": each appends one register
abbrev pub execute1 : List ℕ → Instruction → Machine → Machine
execute1 controls x m =
    let e = acted controls x m.registers m.skip m.cells in
    machine (m.registers ++ (e.value ∷ [])) e.skip e.cells

-- the instructions of a tick, one after another
unfoldable pub execute : List ℕ → List Instruction → Machine → Machine
execute controls [] m = m
execute controls (x ∷ xs) m = execute controls xs (execute1 controls x m)

-- E6: an instruction that is not skipped is a delay whose amount lies outside 0 to D; a skipped one "does not count"
abbrev pub worked_clips : Instruction → List ℕ → Bool
worked_clips x ρ = eqb x.code 4 and clipped (get_or ρ x.b 0) x.d

abbrev pub acted_clips : Instruction → List ℕ → ℕ → Bool
acted_clips x ρ zero = worked_clips x ρ
acted_clips x ρ (suc s) = false

-- at least one instruction of a tick is such a delay
unfoldable pub execute_clips : List ℕ → List Instruction → Machine → Bool
execute_clips controls [] m = false
execute_clips controls (x ∷ xs) m = acted_clips x m.registers m.skip or execute_clips controls xs (execute1 controls x m)

-- what the registers rs hold: of the "output registers", the outputs of the tick
abbrev pub held : List ℕ → List ℕ → List ℕ
held ρ rs = map (λ (r : ℕ). get_or ρ r 0) rs
