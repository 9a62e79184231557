-- Lists, and Boolean tests: what several crates need.
use Rattle.std.proofs.Common.{◌≡◌, ℕ, suc, ◌<◌, ◌≤◌, Bool, true, false, T, eqb, ltb, leb, ◌≢◌, List, [], ◌∷◌, ◌++◌, length, sym, refl, ap, ◌∙◌, append_assoc, append-nil, arith, le→leb, eqb→eq, lt→ltb}
use mathlib.Core.Bool.{false≢true}
use mathlib.Core.List.{flatten}
use lib.Dec.{eqb_refl}
use Rattle.word.specs.Choice.{◌and◌, ◌or◌, bit}
use Rattle.word.specs.Tick.{tail_of}

pub passed : (b : Bool) → T b → b ≡ true
passed true t = refl
passed false t = absurd t

pub length_tail : (n : ℕ) (xs : List ℕ) → length xs ≡ suc n → length (tail_of xs) ≡ n
length_tail n [] e = omega arith
length_tail n (x ∷ xs) e = omega arith

pub same_number : (m : ℕ) → eqb m m ≡ true
same_number m = passed (eqb m m) (eqb_refl m)

pub other-number : (m j : ℕ) → j ≢ m → eqb m j ≡ false
other-number m j n = go (eqb m j) refl
  where
    go : (b : Bool) → eqb m j ≡ b → b ≡ false
    go true e = absurd (n (sym (eqb→eq m j (rw e tt))))
    go false e = refl

pub both_true : (a b : Bool) → a ≡ true → b ≡ true → a and b ≡ true
both_true a b p q = rw (p, q)

pub first-true : (a b : Bool) → a and b ≡ true → a ≡ true
first-true true b p = refl
first-true false b p = p

pub second-true : (a b : Bool) → a and b ≡ true → b ≡ true
second-true true b p = p
second-true false b p = absurd (false≢true p)

pub is_below : (m n : ℕ) → m < n → ltb m n ≡ true
is_below m n h = passed (ltb m n) (lt→ltb m n h)

pub is-most : (m n : ℕ) → m ≤ n → leb m n ≡ true
is-most m n h = passed (leb m n) (le→leb m n h)

pub flatten_append : {A : Type 0} (xs ys : List (List A)) → flatten (xs ++ ys) ≡ flatten xs ++ flatten ys
unfolding flatten
flatten_append [] ys = refl
flatten_append (x ∷ xs) ys = ap (λ l. x ++ l) (flatten_append xs ys) ∙ sym (append_assoc x (flatten xs) (flatten ys))

pub flatten-last : {A : Type 0} (xs : List (List A)) (y : List A) → flatten (xs ++ (y ∷ [])) ≡ flatten xs ++ y
flatten-last xs y = flatten_append xs (y ∷ []) ∙ ap (λ l. flatten xs ++ l) (unfold flatten in append-nil y)

-- two tests that hold of the same
pub same_test : (a b : Bool) → (T a → T b) → (T b → T a) → a ≡ b
same_test true true f g = refl
same_test true false f g = absurd (f tt)
same_test false true f g = absurd (g tt)
same_test false false f g = refl

pub holds : (b : Bool) → b ≡ true → T b
holds b e = rw e tt

-- one of two
pub or_second : (a b : Bool) → b ≡ true → true ≡ a or b
or_second true b e = refl
or_second false b e = sym e

pub or_first : (a b : Bool) → b ≡ false → a ≡ a or b
or_first true b e = refl
or_first false b e = sym e

pub or_none : (a : Bool) → a or false ≡ a
or_none true = refl
or_none false = refl

pub or_assoc : (a b c : Bool) → (a or b) or c ≡ a or (b or c)
or_assoc true b c = refl
or_assoc false b c = refl

pub or_either_way : (a b : Bool) → a or b ≡ b or a
or_either_way true true = refl
or_either_way true false = refl
or_either_way false true = refl
or_either_way false false = refl

pub bit-few : (b : Bool) → bit b ≤ 1
bit-few true = omega arith
bit-few false = omega arith
