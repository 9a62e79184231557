-- What was encoded is decoded; the code check of what was encoded.
use Prim.Native.Nat.{ℕ, suc, ◌+◌, ◌*◌, ◌≤◌}
use mathlib.Core.Path.{◌≡◌, refl, ap, ap₂}
use mathlib.Core.Bool.{true}
use mathlib.Core.List.{List, [], ◌∷◌, ◌++◌}
use native.Mathlib.Omega.{arith}
use lib.ListN.{length, length-append}
use lib.Seq.{take-length, drop-append_seam}
use Rattle.word.proofs.Lists.{both_true, is-most, same_number}
use Rattle.flat.specs.Flat.{Instruction, width}
use Rattle.flat.specs.Code.{Code, results_at, instruction_numbers, numbers, encode, instructions_of, decode}
use Rattle.flat.specs.Check.{header_ok, body_ok, code_ok}

pub numbers-length : (is : List Instruction) → length (numbers is) ≡ width * length is
numbers-length [] = refl
numbers-length (x ∷ is) = omega (arith, numbers-length is)

pub numbers_append : (is js : List Instruction) → numbers (is ++ js) ≡ numbers is ++ numbers js
numbers_append [] js = refl
numbers_append (x ∷ is) js = ap (λ l. instruction_numbers x ++ l) (numbers_append is js)

instructions_back : (is : List Instruction) (rs : List ℕ) → instructions_of (length is) (numbers is ++ rs) ≡ is
instructions_back [] rs = refl
instructions_back (x ∷ is) rs = ap {B = List Instruction} (λ xs. x ∷ xs) (instructions_back is rs)

pub encode-length : (k : Code) → length (encode k) ≡ results_at (length k.instructions) + length k.results
unfolding encode
encode-length k = omega (arith, length-append (numbers k.instructions) k.results, numbers-length k.instructions)

pub decode-encode : (k : Code) → decode (encode k) ≡ k
unfolding encode decode
decode-encode k =
    let is : List Instruction = k.instructions in
    let e : results_at (length is) ≡ suc (suc (suc (suc (length (numbers is))))) = omega (arith, numbers-length is) in
    ap₂ {C = Code} (λ js rs. record { inputs = k.inputs; cells = k.cells; instructions = js; results = rs })
    (instructions_back is k.results)
    (rw (e, drop-append_seam, take-length))

-- the same for a code that was encoded
pub encoded-ok : (k : Code) → k.inputs ≤ 32 → length k.results ≤ 32 → length k.instructions ≤ 2048 → k.cells ≤ 16384
    → body_ok (k.inputs + length k.instructions) k ≡ true → code_ok (encode k) ≡ true
unfolding code_ok encode
encoded-ok k n m c s b =
    both_true (header_ok (encode k)) _
    (both_true _ _ (is-most _ 32 n) (both_true _ _ (is-most _ 32 m) (both_true _ _ (is-most _ 2048 c) (both_true _ _ (is-most _ 16384 s) (rw (encode-length k) (same_number (results_at (length k.instructions) + length k.results)))))))
    (rw (decode-encode k) b)
