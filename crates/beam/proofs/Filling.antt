-- A list that is kept entry by entry.
use Prim.Native.Nat.{ℕ, suc, ◌+◌, ◌≤◌, ◌<◌}
use mathlib.Core.Path.{◌≡◌}
use mathlib.Core.List.{List}
use native.Mathlib.Omega.{arith}
use native.Mathlib.Numerals.{add-one}
use lib.ListN.{length, get_or, set, drop, drop_of_length-le}
use lib.Seq.{drop-cons}
use Rattle.cells.specs.Cells.{store}

-- what is still to be stored, from place i of the list ys on
pub store-next : (a i v : ℕ) (ys cs : List ℕ) → i < length ys → v ≡ get_or ys i 0 → store (a + (i + 1)) (drop (i + 1) ys) (set cs (a + i) v) ≡ store (a + i) (drop i ys) cs
store-next a i v ys cs h e =
    let z : a + (i + 1) ≡ suc (a + i) = omega arith in
    rw (z, add-one i, drop-cons ys i 0 h, e)

-- nothing is left to be stored
pub store_done : (a n : ℕ) (ys cs : List ℕ) → length ys ≤ n → store a (drop n ys) cs ≡ cs
store_done a n ys cs h = rw (drop_of_length-le ys {i = n} h)
