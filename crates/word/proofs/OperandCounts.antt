-- The rules of the table of operand counts: which numbers are operations, how many inputs they have at most, and that they read no others. One test
-- over the table shows the most of every entry.
use Rattle.std.proofs.Common.{◌≡◌, ℕ, zero, suc, ◌<◌, ◌≤◌, true, false, eqb, ltb, leb, length, refl, arith, lit≤, ltb-true, ne_eqb, leb-true}
use native.Mathlib.Decide.{dec_lt}
use lib.ListN.{get_or-eq_default}
use Rattle.word.specs.Operation.{operate, operand_table, operands}
use Rattle.word.proofs.Each.{each_at, each-every}

pub operands-most : (o : ℕ) → operands o ≤ 3
unfolding operands
operands-most o = each_at (λ x. x ≤ 3) 0 operand_table o (lit≤ tt) (each-every (λ x. x ≤ 3) (λ x. leb x 3) (λ x h. leb-true x 3 h) operand_table refl)

-- an operation stands in the table, behind its first entry
pub in_table : (o : ℕ) → 0 < operands o → (0 < o) × (o < length operand_table)
unfolding operands
in_table zero h = absurd (omega arith)
in_table (suc o) h = (omega arith, go (dec_lt (suc o) (length operand_table)))
  where
    go : Dec (suc o < length operand_table) → suc o < length operand_table
    go (yes l) = l
    go (no l) = let m : length operand_table ≤ suc o = omega arith in absurd (omega (arith, get_or-eq_default operand_table 0 m))

module _ (op : ℕ) where
  -- an operation with at most n inputs is none of those with more
  other : (n k : ℕ) → operands op ≤ n → ltb n (operands k) ≡ true → eqb op k ≡ false
  other n k l t = ne_eqb op k (λ e. omega (arith, rw e at l, ltb-true n (operands k) t))

  -- where the inputs that it has are the same, it gives the same
  pub reads_its_own : (x : ℕ) {y z y' z' : ℕ} → (1 < operands op → y ≡ y') → (2 < operands op → z ≡ z') → operate op x y z ≡ operate op x y' z'
  unfolding operate operands
  reads_its_own x {y} {z} {y'} {z'} f g = go (dec_lt 1 (operands op)) (dec_lt 2 (operands op))
    where
      go : Dec (1 < operands op) → Dec (2 < operands op) → operate op x y z ≡ operate op x y' z'
      go (yes b) (yes c) = rw (f b, g c)
      go (yes b) (no c) = rw (f b) (simp (other 2 10 (omega arith) refl))
      go (no b) c = let l : operands op ≤ 1 = omega arith in simp (other 1 1 l refl, other 1 2 l refl, other 1 3 l refl, other 1 4 l refl, other 1 5 l refl, other 1 6 l refl, other 1 7 l refl, other 1 10 l refl)
