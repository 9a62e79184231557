-- What is read into the free part of a buffer stands behind what the buffer held.
use Rattle.std.proofs.Common.{◌≡◌, ℕ, ◌-◌, ◌≤◌, List, ◌++◌, Option, take, drop, sym, ap, subst, ◌∙◌, arith}
use Rattle.std.specs.Io.KnownBytes.{Consumes}
use Rattle.std.proofs.KnownBytes.{Consumes-trans}
use lib.Seq.{take-add}

pub read_further : (a b c : Option (List ℕ)) (xs ys : List ℕ) (end next : ℕ) → end ≤ next → take end ys ≡ take end xs → Consumes a b (take end xs) → Consumes b c (take (next - end) (drop end ys)) → Consumes a c (take next ys)
read_further a b c xs ys end next h front before read =
    let joined = ap (λ l. l ++ take (next - end) (drop end ys)) (sym front) ∙ sym (take-add end (next - end) ys) ∙ ap (λ n. take n ys) (omega arith) in
    subst (Consumes a c) joined (Consumes-trans a b c _ _ before read)
