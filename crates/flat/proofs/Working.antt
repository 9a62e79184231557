-- One instruction: what its check says of it, row by row of the table, and what follows for its effect.
use Prim.Native.Nat.{ℕ, suc, ◌+◌, ◌≤◌, ◌<◌}
use mathlib.Core.Path.{◌≡◌, refl, sym, ap, ◌∙◌, subst}
use mathlib.Core.Bool.{Bool, true, false, false≢true}
use mathlib.Core.List.{List, [], ◌∷◌}
use native.Mathlib.Omega.{arith}
use borrow.Author.Tests.{leb-true, eqb-true, eqb-false, ltb-true, ltb-false, le-ltb, lt-ltb}
use lib.Dec.{eqb, leb, ltb}
use lib.ListN.{length, get_or, take}
use lib.Seq.{get_or-take}
use Rattle.word.specs.Choice.{◌and◌, pick}
use Rattle.word.specs.Word.{clipped}
use Rattle.word.specs.Operation.{operate, operands, demand}
use Rattle.word.specs.Tick.{Each}
use Rattle.word.proofs.Lists.{first-true, second-true}
use Rattle.word.proofs.OperandCounts.{in_table, reads_its_own}
use Rattle.flat.specs.declared.keys.Key.{Key}
use Rattle.flat.specs.declared.keys.Key.TheVariants.{Skip, Number, Control, Delay, Read, Write, Add, Subtract, Multiply, Quotient, Remainder, Less, Equal, Absolute, Negate, Select}
use Rattle.flat.specs.Flat.{Instruction, effect, worked, worked_clips}
use Rattle.flat.specs.Check.{unused, input_ok, instruction_ok}
use Rattle.flat.specs.Steps.{named_key, key_of, Workable}
use Rattle.flat.proofs.Decoded.{two, four}

-- the rows of the table, by their codes
pub data Row : ℕ → Type 0 where
  number : Row 1
  control : Row 2
  operation : Row 3
  delay : Row 4
  read : Row 5
  write : Row 6
  skip : Row 7

either : (k n : ℕ) → Row n → (eqb k n ≡ false → Row k) → Row k
either k n p q = go (eqb k n) refl
  where
    go : (t : Bool) → eqb k n ≡ t → Row k
    go true e = subst Row (sym (eqb-true k n e)) p
    go false e = q e

-- a code that passes is one of the table's
pub row : (cells end r : ℕ) (x : Instruction) → instruction_ok cells end r x ≡ true → Row x.code
unfolding instruction_ok
row cells end r x h =
    let k : ℕ = x.code in
    either k 1 number (λ n1. either k 2 control (λ n2. either k 3 operation (λ n3. either k 4 delay (λ n4. either k 5 read (λ n5. either k 6 write (λ n6. either k 7 skip (λ n7.
    absurd (false≢true (simp (n1, n2, n3, n4, n5, n6, n7) at h)))))))))

-- what the check says, row by row
module _ (cells end r : ℕ) (x : Instruction) (h : instruction_ok cells end r x ≡ true) where
  says2 : x.code ≡ 2 → x.a < 16
  unfolding instruction_ok
  says2 e = ltb-true _ _ (first-true (ltb x.a 16) _ (rw e at h))

  -- an operation: it is known, its first input, its second, its third, and the fifth number
  row3 : x.code ≡ 3 → (0 < operands x.a) × ((x.b < r) × ((input_ok x.a 1 r x.c ≡ true) × ((input_ok x.a 2 r x.e ≡ true) × (x.d ≡ 0))))
  unfolding instruction_ok
  row3 e =
      let q = four (ltb 0 (operands x.a)) (ltb x.b r) (input_ok x.a 1 r x.c) (input_ok x.a 2 r x.e and eqb x.d 0) (rw e at h) in
      let t = q.1.1.1 in
      (ltb-true _ _ q.0, (ltb-true _ _ q.1.0, (q.1.1.0, (first-true (input_ok x.a 2 r x.e) _ t, eqb-true x.d 0 (second-true (input_ok x.a 2 r x.e) _ t)))))

  says_op : x.code ≡ 3 → 0 < operands x.a
  says_op e = (row3 e).0

  pub says3 : x.code ≡ 3 → (x.b < r) × ((x.c < r) × (x.e < r))
  says3 e = let (o, (l, (y, (z, d)))) = row3 e in (l, (go (ltb 1 (operands x.a)) x.c l y, go (ltb 2 (operands x.a)) x.e l z))
    where
      -- an unused number is 0, and there is a register below
      go : (has : Bool) (y : ℕ) → x.b < r → pick has (ltb y r) (eqb y 0) ≡ true → y < r
      go true y l e = ltb-true y r e
      go false y l e = omega (arith, eqb-true y 0 e)

  pub fifth_unused : x.code ≡ 3 → x.d ≡ 0
  fifth_unused e = (row3 e).1.1.1.1

  says4 : x.code ≡ 4 → (x.a < r) × ((x.b < r) × ((x.d ≤ 4095) × (x.c + suc x.d ≤ cells)))
  unfolding instruction_ok
  says4 e =
      let q = four (ltb x.a r) (ltb x.b r) (leb x.d 4095) (leb (x.c + suc x.d) cells and eqb x.e 0) (rw e at h) in
      (ltb-true _ _ q.0, (ltb-true _ _ q.1.0, (leb-true _ _ q.1.1.0, leb-true _ _ (first-true (leb (x.c + suc x.d) cells) _ q.1.1.1))))

  says5 : x.code ≡ 5 → x.a < cells
  unfolding instruction_ok
  says5 e = ltb-true _ _ (first-true (ltb x.a cells) _ (rw e at h))

  says6 : x.code ≡ 6 → (x.a < cells) × (x.b < r)
  unfolding instruction_ok
  says6 e =
      let q = two (ltb x.a cells) (ltb x.b r) _ (rw e at h) in
      (ltb-true _ _ q.0, ltb-true _ _ q.1)

  says7 : x.code ≡ 7 → (x.a < r) × (suc (r + x.b) ≤ end)
  unfolding instruction_ok
  says7 e =
      let q = two (ltb x.a r) (leb (suc (r + x.b)) end) _ (rw e at h) in
      (ltb-true _ _ q.0, leb-true _ _ q.1)

-- "unused" numbers are 0
zero_of : (xs : List ℕ) → unused xs ≡ true → Each (λ y. y ≡ 0) xs
zero_of [] h = tt
zero_of (y ∷ xs) h = (eqb-true y 0 (first-true (eqb y 0) (unused xs) h), zero_of xs (second-true (eqb y 0) (unused xs) h))

-- the sixth is one of them, but of an operation with a third input
pub sixth_unused : (cells end r : ℕ) (x : Instruction) → instruction_ok cells end r x ≡ true → (x.code ≡ 3 → operands x.a ≤ 2) → x.e ≡ 0
unfolding instruction_ok
sixth_unused cells end r x h f = go refl (row cells end r x h)
  where
    go : {k : ℕ} → x.code ≡ k → Row k → x.e ≡ 0
    go e number = (zero_of (x.b ∷ x.c ∷ x.d ∷ x.e ∷ []) (rw e at h)).1.1.1.0
    go e control = (zero_of (x.b ∷ x.c ∷ x.d ∷ x.e ∷ []) (second-true (ltb x.a 16) _ (rw e at h))).1.1.1.0
    go e operation = eqb-true x.e 0 (rw (le-ltb 2 (operands x.a) (f e)) at (row3 cells end r x h e).1.1.1.0)
    go e delay =
        let q = four (ltb x.a r) (ltb x.b r) (leb x.d 4095) (leb (x.c + suc x.d) cells and eqb x.e 0) (rw e at h) in
        eqb-true x.e 0 (second-true (leb (x.c + suc x.d) cells) _ q.1.1.1)
    go e read = (zero_of (x.b ∷ x.c ∷ x.d ∷ x.e ∷ []) (second-true (ltb x.a cells) _ (rw e at h))).1.1.1.0
    go e write = (zero_of (x.c ∷ x.d ∷ x.e ∷ []) (second-true (ltb x.b r) _ (second-true (ltb x.a cells) _ (rw e at h)))).1.1.0
    go e skip = (zero_of (x.c ∷ x.d ∷ x.e ∷ []) (second-true (leb (suc (r + x.b)) end) _ (second-true (ltb x.a r) _ (rw e at h)))).1.1.0

-- "a register .. not below the instruction's own": what lies from there on makes no difference
pub works_below : (cells end r : ℕ) (controls : List ℕ) (x : Instruction) (ρ cs : List ℕ) → instruction_ok cells end r x ≡ true → worked controls x (take r ρ) cs ≡ worked controls x ρ cs
unfolding worked
works_below cells end r controls x ρ cs h = go refl (row cells end r x h)
  where
    go : {k : ℕ} → x.code ≡ k → Row k → worked controls x (take r ρ) cs ≡ worked controls x ρ cs
    go e number = rw e
    go e control = rw e
    go e operation = let o = says3 cells end r x h e in rw (e, get_or-take r ρ x.b 0 o.0, get_or-take r ρ x.c 0 o.1.0, get_or-take r ρ x.e 0 o.1.1)
    go e delay = let o = says4 cells end r x h e in rw (e, get_or-take r ρ x.a 0 o.0, get_or-take r ρ x.b 0 o.1.0)
    go e read = rw e
    go e write = rw (e, get_or-take r ρ x.b 0 (says6 cells end r x h e).1)
    go e skip = rw (e, get_or-take r ρ x.a 0 (says7 cells end r x h e).0)

pub clips-below : (cells end r : ℕ) (x : Instruction) (ρ : List ℕ) → instruction_ok cells end r x ≡ true → worked_clips x (take r ρ) ≡ worked_clips x ρ
clips-below cells end r x ρ h = go (eqb x.code 4) refl
  where
    go : (t : Bool) → eqb x.code 4 ≡ t → t and clipped (get_or (take r ρ) x.b 0) x.d ≡ t and clipped (get_or ρ x.b 0) x.d
    go true e = ap (λ v. clipped v x.d) (get_or-take r ρ x.b 0 (says4 cells end r x h (eqb-true x.code 4 e)).1.0)
    go false e = refl

-- not "past the end": what it skips lies before the end
pub skips_inside : (cells end r : ℕ) (controls : List ℕ) (x : Instruction) (ρ cs : List ℕ) → instruction_ok cells end r x ≡ true → r < end → r + (1 + (worked controls x ρ cs).skip) ≤ end
unfolding worked
skips_inside cells end r controls x ρ cs h l = go refl (row cells end r x h)
  where
    either_way : (t : Bool) → suc (r + x.b) ≤ end → r + (1 + pick t 0 x.b) ≤ end
    either_way true m = omega arith
    either_way false m = omega arith

    go : {k : ℕ} → x.code ≡ k → Row k → r + (1 + (worked controls x ρ cs).skip) ≤ end
    go e number = rw e (omega arith)
    go e control = rw e (omega arith)
    go e operation = rw e (omega arith)
    go e delay = rw e (omega arith)
    go e read = rw e (omega arith)
    go e write = rw e (omega arith)
    go e skip = rw e (either_way (demand (get_or ρ x.a 0)) (says7 cells end r x h e).1)

-- the code of an instruction, and the number of an operation, by the key
abbrev pub code_of : Key → ℕ
code_of Skip = 7
code_of Number = 1
code_of Control = 2
code_of Delay = 4
code_of Read = 5
code_of Write = 6
code_of Add = 3
code_of Subtract = 3
code_of Multiply = 3
code_of Quotient = 3
code_of Remainder = 3
code_of Less = 3
code_of Equal = 3
code_of Absolute = 3
code_of Negate = 3
code_of Select = 3

abbrev pub op_of : Key → ℕ
op_of Add = 1
op_of Subtract = 2
op_of Multiply = 3
op_of Quotient = 4
op_of Remainder = 5
op_of Less = 6
op_of Equal = 7
op_of Absolute = 8
op_of Negate = 9
op_of Select = 10
op_of _ = 0

abbrev OpKept : ℕ → Type 0
OpKept a = (3 ≡ code_of (named_key a)) × (a ≡ op_of (named_key a))

try : (a n : ℕ) → OpKept n → ((a ≡ n → ⊥) → OpKept a) → OpKept a
try a n p q = go (eqb a n) refl
  where
    go : (t : Bool) → eqb a n ≡ t → OpKept a
    go true e = subst OpKept (sym (eqb-true a n e)) p
    go false e = q (eqb-false a n e)

-- an operation keeps its number in its key
op_kept : (a : ℕ) → 0 < operands a → OpKept a
op_kept a h =
    let (l, m) = in_table a h in
    try a 1 (refl, refl) (λ n1. try a 2 (refl, refl) (λ n2. try a 3 (refl, refl) (λ n3. try a 4 (refl, refl) (λ n4. try a 5 (refl, refl) (λ n5. try a 6 (refl, refl) (λ n6. try a 7 (refl, refl) (λ n7. try a 8 (refl, refl) (λ n8. try a 9 (refl, refl) (λ n9. try a 10 (refl, refl) (λ n10. absurd (omega arith)))))))))))

-- and an instruction its code
code_kept : (x : Instruction) → Row x.code → (x.code ≡ 3 → 0 < operands x.a) → x.code ≡ code_of (key_of x)
code_kept x w o = go refl w
  where
    go : {k : ℕ} → x.code ≡ k → Row k → x.code ≡ code_of (key_of x)
    go e number = rw e
    go e control = rw e
    go e operation = rw (e, lt-ltb 0 (operands x.a) (o e)) (op_kept x.a (o e)).0
    go e delay = rw e
    go e read = rw e
    go e write = rw e
    go e skip = rw e

-- the same where it is worked, by its key: the places that it reads and writes are there
module _ {key : Key} {x : Instruction} {controls ρ cs : List ℕ} (w : Workable key x controls ρ cs) where
  pub code_is : {k : Key} → key ≡ k → x.code ≡ code_of k
  code_is e = code_kept x (row _ _ _ _ w.ok) (says_op _ _ _ _ w.ok) ∙ ap code_of (sym w.keyed ∙ e)

  op_is : {k : Key} → key ≡ k → x.code ≡ 3 → x.a ≡ op_of k
  op_is e o =
      let known = says_op _ _ _ _ w.ok o in
      let z : named_key x.a ≡ key_of x = rw (o, lt-ltb 0 (operands x.a) known) in
      (op_kept x.a known).1 ∙ ap op_of (z ∙ sym w.keyed ∙ e)

  -- an operation, of the key k
  module _ {k : Key} (e : key ≡ k) (o : code_of k ≡ 3) where
    named : (x.b < length ρ) × ((x.c < length ρ) × (x.e < length ρ))
    named = let s = says3 _ _ _ _ w.ok (code_is e ∙ o) in (omega (arith, s.0, w.room), (omega (arith, s.1.0, w.room), omega (arith, s.1.1, w.room)))

    pub op_there : (x.b < length ρ) × (x.c < length ρ)
    op_there = (named.0, named.1.0)

    pub third_there : x.e < length ρ
    third_there = named.1.1

    -- with the third register's number t; of an operation that has no third input, with 0
    op_works : {v s t : ℕ} → (2 < operands (op_of k) → t ≡ get_or ρ x.e 0) → (v ≡ operate (op_of k) (get_or ρ x.b 0) (get_or ρ x.c 0) t) × (s ≡ 0)
        → worked controls x ρ cs ≡ effect v s cs
    unfolding worked
    op_works g h = let c = code_is e ∙ o in rw (c, op_is e c, h.0, h.1) (ap (λ (v : ℕ). effect v 0 cs) (sym (reads_its_own (op_of k) _ (λ l. refl) g)))

    pub two-work : {v s : ℕ} → ltb 2 (operands (op_of k)) ≡ false → (v ≡ operate (op_of k) (get_or ρ x.b 0) (get_or ρ x.c 0) 0) × (s ≡ 0)
        → worked controls x ρ cs ≡ effect v s cs
    two-work f = op_works (λ l. omega (arith, ltb-false 2 (operands (op_of k)) f))

    pub three-work : {v s t : ℕ} → t ≡ get_or ρ x.e 0 → (v ≡ operate (op_of k) (get_or ρ x.b 0) (get_or ρ x.c 0) t) × (s ≡ 0)
        → worked controls x ρ cs ≡ effect v s cs
    three-work f = op_works (λ l. f)

  pub control_there : key ≡ Control → x.a < length controls
  control_there e = omega (arith, says2 _ _ _ _ w.ok (code_is e), w.sixteen)

  pub delay_there : key ≡ Delay → (x.a < length ρ) × ((x.b < length ρ) × ((x.d ≤ 4095) × (x.c + suc x.d ≤ length cs)))
  delay_there e = let o = says4 _ _ _ _ w.ok (code_is e) in (omega (arith, o.0, w.room), (omega (arith, o.1.0, w.room), o.1.1))

  pub cell_there : key ≡ Read → x.a < length cs
  cell_there e = says5 _ _ _ _ w.ok (code_is e)

  pub write_there : key ≡ Write → (x.a < length cs) × (x.b < length ρ)
  write_there e = let o = says6 _ _ _ _ w.ok (code_is e) in (o.0, omega (arith, o.1, w.room))

  pub clock_there : key ≡ Skip → x.a < length ρ
  clock_there e = omega (arith, (says7 _ _ _ _ w.ok (code_is e)).0, w.room)
