-- Runs of stores: side by side in either order, into a part that is lent, and from the front of a buffer.
use Prim.Native.Nat.{ℕ, suc, ◌+◌, ◌-◌, ◌≤◌, ◌<◌}
use mathlib.Core.Path.{◌≡◌, refl, sym, ap, ◌∙◌}
use mathlib.Core.List.{List, [], ◌∷◌, ◌++◌, append_assoc}
use native.Mathlib.Nat.{zero-add, add-zero}
use native.Mathlib.Omega.{arith}
use lib.ListN.{length, set, take, drop, length-append}
use lib.Seq.{sets, sets-eq, set_comm, drop-drop}
use Rattle.number.specs.Put.{Put, Begins}

pub set-sets : (l ys : List ℕ) (a v b : ℕ) → a < b → sets (set l a v) b ys ≡ set (sets l b ys) a v
set-sets l [] a v b h = refl
set-sets l (y ∷ ys) a v b h = ap (λ (k : List ℕ). sets k (suc b) ys) (set_comm l a b v y (omega arith)) ∙ set-sets (set l b y) ys a v (suc b) (omega arith)

pub sets_append : (xs ys l : List ℕ) (a : ℕ) → sets l a (xs ++ ys) ≡ sets (sets l a xs) (a + length xs) ys
sets_append [] ys l a = rw add-zero
sets_append (x ∷ xs) ys l a = sets_append xs ys (set l a x) (suc a) ∙ (let e : suc a + length xs ≡ a + suc (length xs) = omega arith in rw e)

sets-apart : (xs ys l : List ℕ) (a b : ℕ) → a + length xs ≤ b → sets (sets l a xs) b ys ≡ sets (sets l b ys) a xs
sets-apart [] ys l a b h = refl
sets-apart (x ∷ xs) ys l a b h =
    sets-apart xs ys (set l a x) (suc a) b (omega arith)
    ∙ ap (λ (k : List ℕ). sets k (suc a) xs) (set-sets l ys a x b (omega arith))

-- the later part may be stored first
pub sets_back : (xs ys l : List ℕ) (a b : ℕ) → a + length xs ≡ b → sets l a (xs ++ ys) ≡ sets (sets l b ys) a xs
sets_back xs ys l a b e = sets_append xs ys l a ∙ rw e (sets-apart xs ys l a b (omega arith))

pub sets-front : (vs l : List ℕ) → length vs ≤ length l → sets l 0 vs ≡ vs ++ drop (length vs) l
sets-front vs l h = sets-eq vs l 0 (omega arith) ∙ rw zero-add

-- what is written into a part that is lent
pub part-put : (shown text part : List ℕ) (from next : ℕ) → next ≡ from + length shown → next ≤ length text → part ≡ shown → Put shown text from next (take from text ++ (part ++ drop (next - from) (drop from text)))
part-put shown text part from next e h p =
    let k : from + (next - from) ≡ from + length shown = omega arith in
    record {
      next-is = e;
      within = h;
      put =
          rw (p, drop-drop (next - from) from text, k)
          (sym (append_assoc (take from text) shown (drop (from + length shown) text)) ∙ sym (sets-eq shown text from (omega arith)));
    }

-- what is put at the front
pub begins_of : (shown text : List ℕ) (n : ℕ) (text' : List ℕ) → Put shown text 0 n text' → Begins shown text n text'
begins_of shown text n text' p =
    let e : n ≡ length shown = omega (arith, p.next-is) in
    record { bytes = e; put = p.put ∙ sets-front shown text (omega (arith, p.within)) ∙ ap (λ (k : ℕ). shown ++ drop k text) (sym e) }

pub begins_within : {shown text : List ℕ} {n : ℕ} {text' : List ℕ} → Begins shown text n text' → n ≤ length text'
begins_within {shown} {text} {n} p =
    let l : length (shown ++ drop n text) ≡ length shown + length (drop n text) = length-append shown (drop n text) in
    rw p.put (omega (arith, p.bytes))
