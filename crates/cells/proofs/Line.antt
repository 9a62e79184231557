-- A delay's line as a part of the cells: the step on the line is the step on the cells.
use Prim.Native.Nat.{ℕ, zero, suc, ◌+◌, ◌-◌, ◌%◌, ◌≤◌, ◌<◌}
use mathlib.Core.Path.{◌≡◌, refl, sym, ap, ◌∙◌}
use mathlib.Core.List.{List, [], ◌∷◌, ◌++◌}
use native.Mathlib.Nat.{zero-add, add-zero, suc-add}
use native.Mathlib.Omega.{arith}
use mathlib.Core.Bool.{Bool, true, false}
use native.Mathlib.Nat.{mod-lt}
use borrow.Author.Tests.{eqb-false, ltb-true}
use lib.Dec.{eqb, ltb}
use lib.ListN.{length, length-set, length-drop, get_or, set, take, drop, take-append-drop, get_or-append}
use lib.Seq.{get_or-append-add, set-append_left, length-take-le}
use Rattle.word.specs.Choice.{pick}
use Rattle.word.specs.Word.{clamp}
use Rattle.word.proofs.Forms.{clamp-most}
use Rattle.cells.specs.Delay.{moved, delayed, position}

pub set_append_right : (xs ys : List ℕ) (i v : ℕ) → set (xs ++ ys) (length xs + i) v ≡ xs ++ set ys i v
set_append_right [] ys i v = rw zero-add
set_append_right (x ∷ xs) ys i v = rw suc-add (ap {B = List ℕ} (λ l. x ∷ l) (set_append_right xs ys i v))

module _ (A L R : List ℕ) (a d : ℕ) (before : length A ≡ a) (long : length L ≡ suc d) where
  line_get : (i : ℕ) → i ≤ d → get_or (A ++ (L ++ R)) (a + i) 0 ≡ get_or L i 0
  line_get i h = rw (← before) (get_or-append-add A (L ++ R) i 0 ∙ get_or-append L R 0 i (omega arith))

  line_set : (i v : ℕ) → i ≤ d → set (A ++ (L ++ R)) (a + i) v ≡ A ++ (set L i v ++ R)
  line_set i v h = rw (← before) (set_append_right A (L ++ R) i v ∙ ap (λ l. A ++ l) (set-append_left L R i v (omega arith)))

  line_first : get_or (A ++ (L ++ R)) a 0 ≡ get_or L 0 0
  line_first = rw add-zero at (line_get 0 (omega arith))

pub line-delayed : (A L R : List ℕ) (a d x m : ℕ) → length A ≡ a → length L ≡ suc d → delayed a d x m (A ++ (L ++ R)) ≡ delayed 0 d x m L
line-delayed A L R a d x m before long = rw (line_first A L R a d before long) (go (eqb (clamp m d) 0) refl)
  where
    k : ℕ
    k = (position d (get_or L 0 0) + d - clamp m d) % d

    go : (b : Bool) → eqb (clamp m d) 0 ≡ b → pick b x (get_or (A ++ (L ++ R)) (a + 1 + k) 0) ≡ pick b x (get_or L (1 + k) 0)
    go true e = refl
    go false e =
        let l : clamp m d ≤ d = clamp-most m d in
        let some : 0 < d = pos (clamp m d) l (eqb-false _ _ e) in
        let b : k < d = mod-lt _ some in
        let z : a + 1 + k ≡ a + (1 + k) = omega arith in
        rw z (line_get A L R a d before long (1 + k) (omega arith))
      where
        pos : (q : ℕ) → q ≤ d → (q ≡ 0 → ⊥) → 0 < d
        pos q l n = omega arith

pub line-moved : (A L R : List ℕ) (a d x : ℕ) → length A ≡ a → length L ≡ suc d → moved a d x (A ++ (L ++ R)) ≡ A ++ (moved 0 d x L ++ R)
line-moved A L R a zero x before long = refl
line-moved A L R a (suc d) x before long =
    rw (line_first A L R a (suc d) before long)
    (ap (λ l. set l a q) second ∙ first)
  where
    p : ℕ
    p = position (suc d) (get_or L 0 0)

    q : ℕ
    q = (p + 1) % suc d

    z : a + 1 + p ≡ a + (1 + p)
    z = omega arith

    second : set (A ++ (L ++ R)) (a + 1 + p) x ≡ A ++ (set L (1 + p) x ++ R)
    second = rw z (line_set A L R a (suc d) before long (1 + p) x (rise (suc d) (get_or L 0 0) (omega arith)))
      where
        rise : (e w : ℕ) → 0 < e → 1 + position e w ≤ e
        rise e w h = go (ltb w e) refl
          where
            go : (b : Bool) → ltb w e ≡ b → 1 + pick b w 0 ≤ e
            go true t = omega (arith, ltb-true w e t)
            go false t = omega arith

    first : set (A ++ (set L (1 + p) x ++ R)) a q ≡ A ++ (set (set L (1 + p) x) 0 q ++ R)
    first = rw add-zero at (line_set A (set L (1 + p) x) R a (suc d) before (length-set L (1 + p) x ∙ long) 0 q (omega arith))

in_parts : (a n : ℕ) (cs : List ℕ) → take a cs ++ (take n (drop a cs) ++ drop n (drop a cs)) ≡ cs
in_parts a n cs = rw (take-append-drop n (drop a cs), take-append-drop a cs)

-- the line of d from a on as a part of its own
module _ (a d n x : ℕ) (cs : List ℕ) (size : n ≡ suc d) (fits : a + n ≤ length cs) where
  lengths : (length (take a cs) ≡ a) × (length (take n (drop a cs)) ≡ suc d)
  lengths = (length-take-le a cs (omega arith), length-take-le n (drop a cs) (rw length-drop (omega arith)) ∙ size)

  pub delayed-part : (m : ℕ) → delayed a d x m cs ≡ delayed 0 d x m (take n (drop a cs))
  delayed-part m =
      ap (λ l. delayed a d x m l) (sym (in_parts a n cs))
      ∙ line-delayed (take a cs) (take n (drop a cs)) (drop n (drop a cs)) a d x m lengths.0 lengths.1

  pub moved-part : moved a d x cs ≡ take a cs ++ (moved 0 d x (take n (drop a cs)) ++ drop n (drop a cs))
  moved-part =
      ap (λ l. moved a d x l) (sym (in_parts a n cs))
      ∙ line-moved (take a cs) (take n (drop a cs)) (drop n (drop a cs)) a d x lengths.0 lengths.1
