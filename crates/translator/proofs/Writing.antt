-- Laws of code that is written piece by piece: one piece after another, and what is still to be written.
use Prim.Native.Nat.{ℕ, suc, ◌+◌}
use mathlib.Core.Path.{◌≡◌, refl, sym, ap, ap₂, subst₂, ◌∙◌}
use mathlib.Core.List.{List, [], ◌∷◌, ◌++◌, append_assoc, append-nil}
use native.Mathlib.Omega.{arith}
use native.Mathlib.Nat.{add-zero}
use lib.ListN.{length, take, set, length-append}
use lib.Seq.{sets, length-sets}
use Rattle.cells.specs.Cells.{store}
use Rattle.flat.specs.Flat.{Instruction}
use Rattle.flat.specs.Code.{numbers}
use Rattle.flat.proofs.Encoding.{numbers-length, numbers_append}
use Rattle.translator.specs.Emit.{Emitted, emitted}
use Rattle.translator.specs.Writing.{Room, Written, Puts, follow}
use Rattle.translator.specs.declared.place.Place.{Place}
use Rattle.translator.specs.declared.place.Progress.{Progress}

pub sets_append : (xs ys c : List ℕ) (a : ℕ) → sets (sets c a xs) (a + length xs) ys ≡ sets c a (xs ++ ys)
sets_append [] ys c a = rw add-zero
sets_append (x ∷ xs) ys c a = let e : a + suc (length xs) ≡ suc a + length xs = omega arith in rw e (sets_append xs ys (set c a x) (suc a))

pub written_none : {p : Place} {c : List ℕ} → Written [] p c p c
written_none {p} = record { code = refl; next = sym (add-zero p.next); at = sym (add-zero p.at) }

pub written_then : {p q s : Place} {c c₁ c₂ : List ℕ} (is js : List Instruction) → Written is p c q c₁ → Written js q c₁ s c₂ → Written (is ++ js) p c s c₂
written_then {p} {q} {s} {c} is js a b =
    let e : q.at ≡ p.at + length (numbers is) = omega (arith, numbers-length is, a.at) in
    record {
      code =
          b.code ∙ ap₂ (λ (n : ℕ) (l : List ℕ). store n (numbers js) l) e a.code ∙ sets_append (numbers is) (numbers js) c p.at
          ∙ ap (λ l. store p.at l c) (sym (numbers_append is js));
      next = omega (arith, length-append is js, a.next, b.next);
      at = omega (arith, length-append is js, a.at, b.at);
    }

-- room for the first of two pieces, and for the second once the first is written
room-first : {p : Place} {c : List ℕ} (is js : List Instruction) → Room (is ++ js) p c → Room is p c
room-first is js r = record { places = omega (arith, length-append is js, r.places); registers = omega (arith, length-append is js, r.registers) }

room-rest : {p q : Place} {c c' : List ℕ} (is js : List Instruction) → Room (is ++ js) p c → Written is p c q c' → Room js q c'
room-rest {p} {q} {c} {c'} is js r w =
    let l : length c' ≡ length c = ap length w.code ∙ length-sets c p.at (numbers is) in
    record { places = omega (arith, length-append is js, r.places, w.at); registers = omega (arith, length-append is js, r.registers, w.next) }

-- On the way through a translation e that began at p with the code c: its results so far are ys, and the rest is to be written at q
pub record Going (e : Emitted) (p : Place) (c : List ℕ) (q : Place) (c' : List ℕ) (ys : List ℕ) (rest : Emitted) : Type 0 where
  pub done : List Instruction
  pub code : e.code ≡ done ++ rest.code
  pub results : e.results ≡ ys ++ rest.results
  pub written : Written done p c q c'
  pub room : Room rest.code q c'

pub start : {p : Place} {c : List ℕ} (e : Emitted) → Room e.code p c → Going e p c p c [] e
start e r = record { done = []; code = refl; results = refl; written = written_none; room = r }

module _ {e : Emitted} {p q : Place} {c c₁ ys : List ℕ} where
  pub first-room : (is js : List Instruction) {rs : List ℕ} → Going e p c q c₁ ys (emitted (is ++ js) rs) → Room is q c₁
  first-room is js g = room-first is js g.room

  -- a piece more
  pub go_on : {s : Place} {c₂ : List ℕ} (is js : List Instruction) {rs : List ℕ} → Going e p c q c₁ ys (emitted (is ++ js) rs) → Written is q c₁ s c₂ → Going e p c s c₂ ys (emitted js rs)
  go_on is js g w =
      record {
        done = g.done ++ is;
        code = g.code ∙ sym (append_assoc g.done is js);
        results = g.results;
        written = written_then g.done is g.written w;
        room = room-rest is js g.room w;
      }

  pub same-room : {rs : List ℕ} {is : List Instruction} → Going e p c q c₁ ys (emitted is rs) → length c₁ ≡ length c
  same-room g = ap length g.written.code ∙ length-sets c p.at (numbers g.done)

  -- a result more
  pub one_more : (is : List Instruction) {r : ℕ} {rs : List ℕ} → Going e p c q c₁ ys (emitted is (r ∷ rs)) → Going e p c q c₁ (ys ++ (r ∷ [])) (emitted is rs)
  one_more is {r} {rs} g =
      record { done = g.done; code = g.code; results = g.results ∙ sym (append_assoc ys (r ∷ []) rs); written = g.written; room = g.room }

  pub all-written : {rs : List ℕ} → Going e p c q c₁ ys (emitted [] rs) → Written e.code p c q c₁
  all-written g = rw (g.code, append-nil) g.written

module _ {e : Emitted} {p q : Place} {c c₁ : List ℕ} where
  -- the rest is one more translation
  pub last : {s : Progress} {c₂ : List ℕ} {a : Emitted} {n : ℕ} → Going e p c q c₁ [] a → Puts a n q c₁ s c₂ → Puts e n p c s c₂
  last {a = a} g w =
      record { written = rw g.code (written_then g.done a.code g.written w.written); results = w.results ∙ sym g.results }

  -- a translation more, and what follows it
  pub next : {s : Progress} {c₂ : List ℕ} (a : Emitted) (k : List ℕ → ℕ → Emitted) {n : ℕ} → Going e p c q c₁ [] (follow a k q.next) → Puts a n q c₁ s c₂
      → Going e p c s.place c₂ [] (k (take n s.regs) s.place.next)
  next {s} {c₂} a k {n} g w =
      subst₂ (λ (l : List ℕ) (j : ℕ). Going e p c s.place c₂ [] (k l j)) (sym w.results) (sym w.written.next)
      (go_on a.code (k a.results (q.next + length a.code)).code g w.written)

  pub next-room : (a : Emitted) (k : List ℕ → ℕ → Emitted) (n : ℕ) → Going e p c q c₁ [] (follow a k n) → Room a.code q c₁
  next-room a k n g = room-first a.code (k a.results (n + length a.code)).code g.room
