-- The effect of an instruction of each kind, and of instructions one after another.
use Prim.Native.Nat.{ℕ, suc, ◌<◌}
use mathlib.Core.Path.{◌≡◌, refl, sym, ap, ap₂, ◌∙◌}
use mathlib.Core.Bool.{false}
use mathlib.Core.List.{List, [], ◌∷◌, ◌++◌, append_assoc, append-nil}
use borrow.Author.Tests.{lt-ltb}
use lib.ListN.{length, get_or, set}
use Rattle.word.specs.Choice.{◌or◌, pick}
use Rattle.word.specs.Operation.{operate, operands, operand, add, demand}
use Rattle.word.specs.Tick.{zeros}
use Rattle.word.proofs.Lists.{or_assoc}
use Rattle.word.proofs.OperandCounts.{reads_its_own}
use Rattle.cells.specs.Delay.{delayed, moved}
use Rattle.flat.specs.Flat.{Instruction, Machine, machine, Effect, effect, worked, execute, execute1, worked_clips, acted_clips, execute_clips}
use Rattle.flat.specs.Instructions as flat

module _ (controls : List ℕ) where
  -- one instruction, over registers ρ and cells cs, by the values u and v of the registers x and y
  module _ (ρ cs : List ℕ) where
    pub number_works : (v : ℕ) → worked controls (flat.number v) ρ cs ≡ effect v 0 cs
    unfolding worked
    number_works v = refl

    pub control_works : (slot : ℕ) → worked controls (flat.control slot) ρ cs ≡ effect (get_or controls slot 0) 0 cs
    unfolding worked
    control_works slot = refl

    pub operation_works : (op x y z : ℕ) {u v w : ℕ} → get_or ρ x 0 ≡ u → (1 < operands op → get_or ρ y 0 ≡ v) → (2 < operands op → get_or ρ z 0 ≡ w)
        → worked controls (flat.operation op x y z) ρ cs ≡ effect (operate op u v w) 0 cs
    unfolding worked
    operation_works op x y z {u} e f g = ap (λ v. effect v 0 cs) (rw e (reads_its_own op u (named 1 y f) (named 2 z g)))
      where
        named : (k r : ℕ) {v : ℕ} → (k < operands op → get_or ρ r 0 ≡ v) → k < operands op → get_or ρ (operand op k r) 0 ≡ v
        named k r f h = rw (lt-ltb k (operands op) h) (f h)

    pub addition_works : (x y : ℕ) {u v : ℕ} → get_or ρ x 0 ≡ u → get_or ρ y 0 ≡ v → worked controls (flat.addition x y) ρ cs ≡ effect (add u v) 0 cs
    unfolding operate
    addition_works x y e g = operation_works 1 x y 0 e (λ h. g) (λ h. refl)

    pub delay_works : (x y a d : ℕ) {u v : ℕ} → get_or ρ x 0 ≡ u → get_or ρ y 0 ≡ v → worked controls (flat.delay x y a d) ρ cs ≡ effect (delayed a d u v cs) 0 (moved a d u cs)
    unfolding worked
    delay_works x y a d e g = ap₂ (λ u v. effect (delayed a d u v cs) 0 (moved a d u cs)) e g

    pub read_works : (a : ℕ) → worked controls (flat.read a) ρ cs ≡ effect (get_or cs a 0) 0 cs
    unfolding worked
    read_works a = refl

    pub write_works : (a x : ℕ) {v : ℕ} → get_or ρ x 0 ≡ v → worked controls (flat.write a x) ρ cs ≡ effect 0 0 (set cs a v)
    unfolding worked
    write_works a x e = ap (λ v. effect 0 0 (set cs a v)) e

    pub skip_works : (x k : ℕ) {v : ℕ} → get_or ρ x 0 ≡ v → worked controls (flat.skip x k) ρ cs ≡ effect 0 (pick (demand v) 0 k) cs
    unfolding worked
    skip_works x k e = ap (λ v. effect 0 (pick (demand v) 0 k) cs) e

  -- execution, one instruction on
  pub execute-none : (m : Machine) → execute controls [] m ≡ m
  unfolding execute
  execute-none m = refl

  pub execute-first : (x : Instruction) (xs : List Instruction) (ρ cs cs' : List ℕ) (v s : ℕ) → worked controls x ρ cs ≡ effect v s cs'
      → execute controls (x ∷ xs) (machine ρ 0 cs) ≡ execute controls xs (machine (ρ ++ (v ∷ [])) s cs')
  unfolding execute
  execute-first x xs ρ cs cs' v s e = ap (λ (f : Effect). execute controls xs (machine (ρ ++ (f.value ∷ [])) f.skip f.cells)) e

  pub execute_skipped : (x : Instruction) (xs : List Instruction) (ρ cs : List ℕ) (s : ℕ)
      → execute controls (x ∷ xs) (machine ρ (suc s) cs) ≡ execute controls xs (machine (ρ ++ (0 ∷ [])) s cs)
  unfolding execute
  execute_skipped x xs ρ cs s = refl

  -- whether a delay was clipped, one instruction on: a skipped one adds nothing
  pub clips-none : (m : Machine) → execute_clips controls [] m ≡ false
  unfolding execute_clips
  clips-none m = refl

  pub clips-first : (x : Instruction) (xs : List Instruction) (ρ cs cs' : List ℕ) (v s : ℕ) → worked controls x ρ cs ≡ effect v s cs'
      → execute_clips controls (x ∷ xs) (machine ρ 0 cs) ≡ worked_clips x ρ or execute_clips controls xs (machine (ρ ++ (v ∷ [])) s cs')
  unfolding execute_clips
  clips-first x xs ρ cs cs' v s e = ap (λ (f : Effect). worked_clips x ρ or execute_clips controls xs (machine (ρ ++ (f.value ∷ [])) f.skip f.cells)) e

  pub clips_skipped : (x : Instruction) (xs : List Instruction) (ρ cs : List ℕ) (s : ℕ)
      → execute_clips controls (x ∷ xs) (machine ρ (suc s) cs) ≡ execute_clips controls xs (machine (ρ ++ (0 ∷ [])) s cs)
  unfolding execute_clips
  clips_skipped x xs ρ cs s = refl

  pub execute_append : (xs ys : List Instruction) (m : Machine) → execute controls (xs ++ ys) m ≡ execute controls ys (execute controls xs m)
  unfolding execute
  execute_append [] ys m = refl
  execute_append (x ∷ xs) ys m = execute_append xs ys (execute1 controls x m)

  -- a skip over exactly these instructions
  pub execute_all_skipped : (xs : List Instruction) (ρ cs : List ℕ) → execute controls xs (machine ρ (length xs) cs) ≡ machine (ρ ++ zeros (length xs)) 0 cs
  unfolding execute
  execute_all_skipped [] ρ cs = rw append-nil
  execute_all_skipped (x ∷ xs) ρ cs = execute_all_skipped xs (ρ ++ (0 ∷ [])) cs ∙ rw append_assoc

  pub clips_append : (xs ys : List Instruction) (m : Machine) → execute_clips controls (xs ++ ys) m ≡ (execute_clips controls xs m or execute_clips controls ys (execute controls xs m))
  unfolding execute execute_clips
  clips_append [] ys m = refl
  clips_append (x ∷ xs) ys m =
      ap (λ b. acted_clips x m.registers m.skip or b) (clips_append xs ys (execute1 controls x m))
      ∙ sym (or_assoc (acted_clips x m.registers m.skip) (execute_clips controls xs (execute1 controls x m)) _)

  pub clips_all_skipped : (xs : List Instruction) (ρ cs : List ℕ) → execute_clips controls xs (machine ρ (length xs) cs) ≡ false
  unfolding execute_clips
  clips_all_skipped [] ρ cs = refl
  clips_all_skipped (x ∷ xs) ρ cs = clips_all_skipped xs (ρ ++ (0 ∷ [])) cs
