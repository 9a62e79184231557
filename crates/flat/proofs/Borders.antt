-- The check of an instruction at its borders, in E4's words: a check that let more pass, or less, would fail here.
use Prim.Native.Nat.{ℕ, suc, ◌<◌}
use mathlib.Core.Path.{◌≡◌}
use mathlib.Core.Bool.{true}
use native.Mathlib.Omega.{arith}
use lib.Dec.{lit<}
use Rattle.word.specs.Operation.{operands}
use Rattle.word.proofs.Selector.{selector_alone}
use Rattle.flat.specs.Flat.{Instruction, instruction}
use Rattle.flat.specs.Check.{instruction_ok}
use Rattle.flat.proofs.Passing.{operation-ok}
use Rattle.flat.proofs.Working.{says3, fifth_unused, sixth_unused}

module _ (cells end r : ℕ) (x : Instruction) (ok : instruction_ok cells end r x ≡ true) where
  -- "the sixth 0 except for op 10"
  sixth_of_others : (x.code ≡ 3 → x.a ≡ 10 → ⊥) → x.e ≡ 0
  sixth_of_others n = sixth_unused cells end r x ok (λ e. selector_alone x.a (n e))

  -- "the fifth of code 3 stays 0"
  fifth_of_3 : x.code ≡ 3 → x.d ≡ 0
  fifth_of_3 e = fifth_unused cells end r x ok e

  -- "where it is the third input register"
  third_below : x.code ≡ 3 → x.e < r
  third_below e = (says3 cells end r x ok e).1.1

-- the registers just below its own
selector_passes : (cells end r : ℕ) → instruction_ok cells end (suc r) (instruction 3 10 r r 0 r) ≡ true
unfolding operands
selector_passes cells end r = operation-ok cells end (suc r) 10 r r r (lit< tt) (omega arith) (λ h. omega arith) (λ h. omega arith)
