-- The sums of a merge: a term more of one sum, and a sum more.
use Prim.Native.Nat.{ℕ, suc, ◌+◌, ◌-◌, ◌<◌}
use mathlib.Core.Path.{◌≡◌, sym, ap, ◌∙◌}
use mathlib.Core.List.{List, ◌++◌, append_assoc}
use native.Mathlib.Omega.{arith}
use native.Mathlib.Numerals.{add-one}
use lib.ListN.{length, get_or, set, take}
use lib.Seq.{take-suc-set}
use Rattle.word.specs.Operation.{add}
use Rattle.signal.specs.Signal.{sum_from, sums_from}

pub sum-next : (k i b total next v s : ℕ) (xs : List ℕ) → i < k → v ≡ get_or xs next 0 → s ≡ add total v → sum_from (k - (i + 1)) b s (next + b) xs ≡ sum_from (k - i) b total next xs
sum-next k i b total next v s xs h e f =
    let l : ℕ = k - (i + 1) in
    let z : k - i ≡ suc l = omega arith in
    ap (λ (w : ℕ). sum_from l b w (next + b) xs) (f ∙ ap (add total) e) ∙ ap (λ (n : ℕ). sum_from n b total next xs) (sym z)

pub sum_done : (left b total next : ℕ) (xs : List ℕ) → left ≡ 0 → sum_from left b total next xs ≡ total
sum_done left b total next xs e = rw e

-- the sums that stand in r, and those that are still to come
pub sums_next : (r xs all : List ℕ) (b k i v : ℕ) → i < b → i < length r → v ≡ sum_from k b (get_or xs i 0) (i + b) xs → take i r ++ sums_from (b - i) k b i xs ≡ all
    → take (i + 1) (set r i v) ++ sums_from (b - (i + 1)) k b (i + 1) xs ≡ all
sums_next r xs all b k i v l h e s =
    let z : b - i ≡ suc (b - suc i) = omega arith in
    let t : take i r ++ sums_from (suc (b - suc i)) k b i xs ≡ all = rw z at s in
    rw (add-one i, take-suc-set r i v h, append_assoc, e) t
