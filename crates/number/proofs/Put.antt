-- A column put into a line: the digits from the last to the first, a minus, then the spaces.
use Prim.Native.Nat.{ℕ, suc, ◌+◌, ◌-◌, ◌/◌, ◌%◌, ◌^◌, ◌≤◌, ◌<◌}
use mathlib.Core.Path.{◌≡◌, sym, ap, ◌∙◌}
use mathlib.Core.List.{List, [], ◌∷◌}
use native.Mathlib.Numerals.{add-one}
use native.Mathlib.Omega.{arith}
use lib.IntN.{ℤ}
use lib.ListN.{length, set, replicate, length-set, length-append, length-replicate}
use lib.Seq.{sets}
use Rattle.word.specs.Word.{value}
use Rattle.word.proofs.Low.{value-small, value_large}
use Rattle.number.specs.Number.{space, minus, digit, decimal, numeral, column}
use Rattle.number.proofs.Decimal.{decimal-small, decimal-last}
use Rattle.number.proofs.Stores.{set-sets, sets_back}

-- `rest` is to be put before `at`: then the digits of n stand before `end`
pub record Putting (line₀ : List ℕ) (end n : ℕ) (line : List ℕ) (at rest : ℕ) : Type 0 where
  pub room : length (decimal rest) ≤ at
  pub within : at ≤ length line
  pub long : length line ≡ length line₀
  pub begin : at - length (decimal rest) ≡ end - length (decimal n)
  pub done : sets line (at - length (decimal rest)) (decimal rest) ≡ sets line₀ (end - length (decimal n)) (decimal n)

pub decimal_longer : (n : ℕ) → 9 < n → length (decimal n) ≡ suc (length (decimal (n / 10)))
decimal_longer n h = ap length (decimal-last n h) ∙ length-append (decimal (n / 10)) (digit (n % 10) ∷ []) ∙ add-one (length (decimal (n / 10)))

pub putting_next : (line₀ : List ℕ) (end n : ℕ) (line : List ℕ) (at rest : ℕ) → 9 < rest → Putting line₀ end n line at rest → Putting line₀ end n (set line (at - 1) (digit (rest % 10))) (at - 1) (rest / 10)
putting_next line₀ end n line at rest h p =
    let l : length (decimal rest) ≡ suc (length (decimal (rest / 10))) = decimal_longer rest h in
    let b : at - 1 - length (decimal (rest / 10)) ≡ at - length (decimal rest) = omega arith in
    let s : length (set line (at - 1) (digit (rest % 10))) ≡ length line = length-set line (at - 1) (digit (rest % 10)) in
    record {
      room = omega arith;
      within = omega arith;
      long = omega arith;
      begin = omega arith;
      done =
          rw b
          (sym (sets_back (decimal (rest / 10)) (digit (rest % 10) ∷ []) line (at - length (decimal rest)) (at - 1) (omega (arith, p.room)))
          ∙ ap (λ (t : List ℕ). sets line (at - length (decimal rest)) t) (sym (decimal-last rest h))
          ∙ p.done);
    }

pub putting_last : (line₀ : List ℕ) (end n : ℕ) (line : List ℕ) (at rest : ℕ) → rest ≤ 9 → Putting line₀ end n line at rest →
    (at - 1 ≡ end - length (decimal n)) × (set line (at - 1) (digit rest) ≡ sets line₀ (end - length (decimal n)) (decimal n))
putting_last line₀ end n line at rest h p =
    let l : length (decimal rest) ≡ 1 = ap length (decimal-small rest (omega arith)) in
    (omega (arith, p.begin), ap (λ (t : List ℕ). sets line (at - 1) t) (sym (decimal-small rest (omega arith))) ∙ (rw l at p.done))

pub put-column : (line : List ℕ) (from w : ℕ) (z : ℤ) → length (numeral z) ≤ w →
    sets line from (column w z) ≡ sets (sets line (from + w - length (numeral z)) (numeral z)) from (replicate (from + w - length (numeral z) - from) space)
unfolding column
put-column line from w z h =
    let e : from + w - length (numeral z) - from ≡ w - length (numeral z) = omega arith in
    rw e (sets_back (replicate (w - length (numeral z)) space) (numeral z) line from (from + w - length (numeral z)) (rw (length-replicate (w - length (numeral z)) space) (omega arith)))

pub spaces_last : (line : List ℕ) (from at : ℕ) (done : List ℕ) → at ≤ from → sets line from (replicate (at - from) space) ≡ done → line ≡ done
spaces_last line from at done h e = let z : at - from ≡ 0 = omega arith in rw z at e

-- the numeral of a word
pub numeral-small : (w : ℕ) → w < 2 ^ 31 → numeral (value w) ≡ decimal w
unfolding numeral
numeral-small w h = rw (value-small w h)

pub numeral_large : (w m : ℕ) → 2 ^ 31 ≤ w → w < 2 ^ 32 → m + w ≡ 2 ^ 32 → numeral (value w) ≡ minus ∷ decimal m
unfolding numeral
numeral_large w m h b s = let e : suc (2 ^ 32 - suc w) ≡ m = omega arith in rw (value_large w h, e)

minus-first : (line ds : List ℕ) (k n : ℕ) → suc k ≡ n → set (sets line n ds) k minus ≡ sets line k (minus ∷ ds)
minus-first line ds k n e = sym (set-sets line ds k minus n (omega arith)) ∙ rw (← e)

module _ (line line₁ line₂ : List ℕ) (from w word at : ℕ) (room : length (numeral (value word)) ≤ w) where
  pub put_small :
      word < 2 ^ 31 → at ≡ from + w - length (decimal word) → line₁ ≡ sets line (from + w - length (decimal word)) (decimal word) → line₂ ≡ sets line₁ from (replicate (at - from) space) →
      line₂ ≡ sets line from (column w (value word))
  put_small s a p q =
      let e : numeral (value word) ≡ decimal word = numeral-small word s in
      let c = put-column line from w (value word) room in
      q ∙ rw (a, p) (sym (rw e at c))

  pub put-large :
      (m : ℕ) → 2 ^ 31 ≤ word → word < 2 ^ 32 → m + word ≡ 2 ^ 32 → at ≡ from + w - length (decimal m) →
      line₁ ≡ sets line (from + w - length (decimal m)) (decimal m) →
      line₂ ≡ sets (set line₁ (at - 1) minus) from (replicate (at - 1 - from) space) → line₂ ≡ sets line from (column w (value word))
  put-large m l b s a p q =
      let e : numeral (value word) ≡ minus ∷ decimal m = numeral_large word m l b s in
      let c = put-column line from w (value word) room in
      let d : List ℕ = decimal m in
      let r : suc (length d) ≤ w = rw e at room in
      let k : at - 1 ≡ from + w - suc (length d) = omega arith in
      q
      ∙ rw (k, p)
      (ap (λ (l : List ℕ). sets l from (replicate (from + w - suc (length d) - from) space)) (minus-first line d (from + w - suc (length d)) (from + w - length d) (omega arith))
      ∙ sym (rw e at c))
