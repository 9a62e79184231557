-- A node's translation, part by part: a composition's opening, first side, middle, second side and closing; an ondemand's skip, body and what holds its outputs.
use Prim.Native.Nat.{ℕ, ◌+◌}
use mathlib.Core.Path.{◌≡◌, sym, ap, ap₂, subst, ◌∙◌}
use mathlib.Core.List.{List, [], ◌∷◌, ◌++◌, append_assoc, append-nil}
use native.Mathlib.Omega.{arith}
use native.Mathlib.Nat.{add-zero}
use lib.ListN.{length, length-append}
use Rattle.word.specs.Tick.{head_or, tail_of}
use Rattle.arity.specs.Tree.{Tree, Composition, outs, need}
use Rattle.arity.specs.Tree.Tree.{join, ondemand}
use Rattle.arity.specs.Tree.Composition.{sequence, parallel, split, merge, recursion}
use Rattle.arity.specs.Table.{tree, first_at}
use Rattle.arity.specs.WellFormed.{WellFormed}
use Rattle.arity.specs.Promise.{Node}
use Rattle.arity.specs.Ready.{Promising}
use Rattle.calls.specs.Wiring.{first_side, second_side}
use Rattle.walker.specs.Ready.{base, Joins, Demands, joining, left_tree, right_tree, first_child, second_child, ins_of, outs_of}
use Rattle.walker.proofs.Joining.{first-tree, second-tree}
use Rattle.flat.specs.Flat.{Instruction}
use Rattle.flat.specs.Instructions as flat
use Rattle.translator.specs.Emit.{Emitted, emitted, emit, reads, writes, up_from}
use Rattle.translator.specs.Writing.{Room, follow}
use Rattle.translator.specs.Parts.{opening, middle, closing, skipping, holding, emission, opening_of, middle_of, closing_of, skipping_of, holding_of, Emits, Opens, Links, Closes, Skips, Holds}
use Rattle.translator.specs.declared.place.Progress.{Progress}
use Rattle.translator.proofs.Pieces.{length-reads, length-writes}
use Rattle.translator.proofs.Count.{emit-outs, emit-need}
use Rattle.translator.proofs.Writing.{Going, start, next, next-room, last}

-- what follows from each part on, for a node whose sides are the trees f and s
module _ (base : ℕ → ℕ) (i : ℕ) (c : Composition) (l r f s : Tree) (xs : List ℕ) where
  abbrev from_closing : List ℕ → List ℕ → ℕ → Emitted
  from_closing ys zs n = closing c (base i) r ys zs

  abbrev from_second : List ℕ → List ℕ → ℕ → Emitted
  from_second ys us n = follow (emit base s us n) (from_closing ys) n

  abbrev from_middle : List ℕ → ℕ → Emitted
  from_middle ys n = follow (middle c l r xs ys n) (from_second ys) n

  abbrev from_first : List ℕ → ℕ → Emitted
  from_first us n = follow (emit base f us n) from_middle n

-- a composition is one side and then the other, whichever of the five it is
emit-join : (base : ℕ → ℕ) (i : ℕ) (c : Composition) (l r : Tree) (xs : List ℕ) (n : ℕ)
    → emit base (join i c l r) xs n ≡ follow (opening c (base i) l r xs n) (from_first base i c l r (first_side c l r) (second_side c l r) xs) n
unfolding emit
emit-join base i sequence l r xs n = simp (add-zero, append-nil)
emit-join base i parallel l r xs n = simp (add-zero, append-nil)
emit-join base i split l r xs n = simp (add-zero, append-nil)
emit-join base i merge l r xs n = simp (add-zero, append-nil)
emit-join base i recursion l r xs n = simp (add-zero, length-reads)

-- an ondemand, whose skip goes over its body and its writes
abbrev from_holding : (ℕ → ℕ) → ℕ → Tree → List ℕ → ℕ → Emitted
from_holding base i b ys n = holding (base i) (outs b) ys n

abbrev from_body : (ℕ → ℕ) → ℕ → Tree → List ℕ → ℕ → Emitted
from_body base i b us n = follow (emit base b us n) (from_holding base i b) n

emit-ondemand : (base : ℕ → ℕ) (i : ℕ) (b : Tree) (xs : List ℕ) (n : ℕ) → WellFormed b → emit base (ondemand i b) xs n ≡ follow (skipping b xs) (from_body base i b) n
unfolding emit
emit-ondemand base i b xs n w =
    let a = emit base b (tail_of xs) (n + 1) in
    let o = writes (base i) a.results in
    let over : length (a.code ++ o) ≡ need b + outs b =
    length-append a.code o ∙ ap₂ ◌+◌ (emit-need base b (tail_of xs) (n + 1) w) (length-writes (base i) a.results ∙ emit-outs base b (tail_of xs) (n + 1) w) in
    let behind : n + 1 + length (a.code ++ o) ≡ n + 1 + length a.code + length a.results = omega (arith, length-append a.code o, length-writes (base i) a.results) in
    ap₂ {C = Emitted} (λ is k. emitted is (up_from k (outs b)))
    (ap₂ {C = List Instruction} (λ k is. flat.skip (head_or 0 xs) k ∷ is) over (append_assoc a.code o (reads (base i) (outs b)))) behind

-- The stages of a composition: what is still to be written after its opening, its first side, its middle and its second side.
module _ (table : List ℕ) (i : ℕ) (p : Progress) where
  abbrev first : ℕ
  first = first_child table i

  abbrev second : ℕ
  second = second_child table i

  abbrev after_opening : List ℕ → ℕ → Emitted
  after_opening = from_first (base table) i (joining table i) (left_tree table i) (right_tree table i) (tree table first) (tree table second) (ins_of table i p.regs)

  abbrev after_first : List ℕ → ℕ → Emitted
  after_first = from_middle (base table) i (joining table i) (left_tree table i) (right_tree table i) (tree table first) (tree table second) (ins_of table i p.regs)

  abbrev after_middle : List ℕ → List ℕ → ℕ → Emitted
  after_middle = from_second (base table) i (joining table i) (left_tree table i) (right_tree table i) (tree table first) (tree table second) (ins_of table i p.regs)

  abbrev after_second : List ℕ → List ℕ → ℕ → Emitted
  after_second = from_closing (base table) i (joining table i) (left_tree table i) (right_tree table i) (tree table first) (tree table second) (ins_of table i p.regs)

  abbrev Stage : List ℕ → Progress → List ℕ → Emitted → Type 0
  Stage c q c₁ rest = Going (emission table i p) p.place c q.place c₁ [] rest

pub record Opened (table : List ℕ) (i : ℕ) (p : Progress) (c : List ℕ) (o : Progress) (c₁ : List ℕ) : Type 0 where
  pub going : Stage table i p c o c₁ (after_opening table i p (ins_of table (first_child table i) o.regs) o.place.next)

pub record Halved (table : List ℕ) (i : ℕ) (p : Progress) (c : List ℕ) (q : Progress) (c₁ : List ℕ) : Type 0 where
  pub going : Stage table i p c q c₁ (after_first table i p (outs_of table (first_child table i) q.regs) q.place.next)

pub record Linked (table : List ℕ) (i : ℕ) (p : Progress) (c : List ℕ) (q m : Progress) (c₁ : List ℕ) : Type 0 where
  pub going : Stage table i p c m c₁ (after_middle table i p (outs_of table (first_child table i) q.regs) (ins_of table (second_child table i) m.regs) m.place.next)

pub record Ending (table : List ℕ) (i : ℕ) (p : Progress) (c : List ℕ) (q r : Progress) (c₁ : List ℕ) : Type 0 where
  pub going : Stage table i p c r c₁ (closing_of table i q r)

-- and of an ondemand, after its skip and its body
pub record Skipped (table : List ℕ) (i : ℕ) (p : Progress) (c : List ℕ) (o : Progress) (c₁ : List ℕ) : Type 0 where
  pub going : Stage table i p c o c₁ (from_body (base table) i (left_tree table i) (ins_of table (first_at table i) o.regs) o.place.next)

pub record Held (table : List ℕ) (i : ℕ) (p : Progress) (c : List ℕ) (q : Progress) (c₁ : List ℕ) : Type 0 where
  pub going : Stage table i p c q c₁ (holding_of table i q)

module _ {table : List ℕ} {i : ℕ} (t : Promising table) (j : Joins table i) where
  emission-join : (p : Progress) → emission table i p ≡ follow (opening_of table i p) (after_opening table i p) p.place.next
  emission-join p =
      ap (λ (x : Tree). emit (base table) x (ins_of table i p.regs) p.place.next) ((t.node i j.inside).is_join j.least j.most)
      ∙ emit-join (base table) i (joining table i) (left_tree table i) (right_tree table i) (ins_of table i p.regs) p.place.next
      ∙ ap₂ (λ (f s : Tree). follow (opening_of table i p) (from_first (base table) i (joining table i) (left_tree table i) (right_tree table i) f s (ins_of table i p.regs)) p.place.next)
      (sym (first-tree table i j)) (sym (second-tree table i j))

  module _ (p : Progress) {c : List ℕ} (room : Room (emission table i p).code p.place c) where
    begun : Stage table i p c p c (follow (opening_of table i p) (after_opening table i p) p.place.next)
    begun = subst (λ (e : Emitted). Stage table i p c p c e) (emission-join p) (start (emission table i p) room)

    pub opening-room : Room (opening_of table i p).code p.place c
    opening-room = next-room (opening_of table i p) (after_opening table i p) p.place.next begun

    pub opened : {o : Progress} {c₁ : List ℕ} → Opens table i p c o c₁ → Opened table i p c o c₁
    opened w = record { going = next (opening_of table i p) (after_opening table i p) begun w.is }

module _ {table : List ℕ} {i : ℕ} {p : Progress} {c : List ℕ} where
  pub first-room : {f : ℕ} {o : Progress} {c₁ : List ℕ} → Opened table i p c o c₁ → f ≡ first_child table i → Room (emission table f o).code o.place c₁
  first-room {o = o} g e = rw e (next-room (emission table (first_child table i) o) (after_first table i p) o.place.next g.going)

  pub halved : {f : ℕ} {o q : Progress} {c₁ c₂ : List ℕ} → Opened table i p c o c₁ → f ≡ first_child table i → Emits table f o c₁ q c₂ → Halved table i p c q c₂
  halved {o = o} {q} {c₁} {c₂} g e w =
      record { going = next (emission table (first_child table i) o) (after_first table i p) g.going (subst (λ (k : ℕ). Emits table k o c₁ q c₂) e w).is }

  pub middle-room : {q : Progress} {c₁ : List ℕ} → Halved table i p c q c₁ → Room (middle_of table i p q).code q.place c₁
  middle-room {q} g = next-room (middle_of table i p q) (after_middle table i p (outs_of table (first_child table i) q.regs)) q.place.next g.going

  pub linked : {q m : Progress} {c₁ c₂ : List ℕ} → Halved table i p c q c₁ → Links table i p q c₁ m c₂ → Linked table i p c q m c₂
  linked {q} g w = record { going = next (middle_of table i p q) (after_middle table i p (outs_of table (first_child table i) q.regs)) g.going w.is }

  pub second-room : {s : ℕ} {q m : Progress} {c₁ : List ℕ} → Linked table i p c q m c₁ → s ≡ second_child table i → Room (emission table s m).code m.place c₁
  second-room {q = q} {m} g e = rw e (next-room (emission table (second_child table i) m) (after_second table i p (outs_of table (first_child table i) q.regs)) m.place.next g.going)

  pub ending : {s : ℕ} {q m r : Progress} {c₁ c₂ : List ℕ} → Linked table i p c q m c₁ → s ≡ second_child table i → Emits table s m c₁ r c₂ → Ending table i p c q r c₂
  ending {q = q} {m} {r} {c₁} {c₂} g e w =
      record {
        going =
            next (emission table (second_child table i) m) (after_second table i p (outs_of table (first_child table i) q.regs)) g.going
            (subst (λ (k : ℕ). Emits table k m c₁ r c₂) e w).is;
      }

  pub closed : {q r z : Progress} {c₁ c₂ : List ℕ} → Ending table i p c q r c₁ → Closes table i q r c₁ z c₂ → Emits table i p c z c₂
  closed g w = record { is = last g.going w.is }

module _ {table : List ℕ} {i : ℕ} (t : Promising table) (d : Demands table i) where
  own : Node table i
  own = t.node i d.inside

  emission-demand : (p : Progress) → emission table i p ≡ follow (skipping_of table i p) (from_body (base table) i (left_tree table i)) p.place.next
  emission-demand p =
      ap (λ (x : Tree). emit (base table) x (ins_of table i p.regs) p.place.next) (own.is_ondemand (omega (arith, d.kind)))
      ∙ emit-ondemand (base table) i (left_tree table i) (ins_of table i p.regs) p.place.next
      (t.node (first_at table i) (omega (arith, own.left (omega (arith, d.kind)), d.inside))).well_formed

  module _ (p : Progress) {c : List ℕ} (room : Room (emission table i p).code p.place c) where
    begun_demand : Stage table i p c p c (follow (skipping_of table i p) (from_body (base table) i (left_tree table i)) p.place.next)
    begun_demand = subst (λ (e : Emitted). Stage table i p c p c e) (emission-demand p) (start (emission table i p) room)

    pub skip-room : Room (skipping_of table i p).code p.place c
    skip-room = next-room (skipping_of table i p) (from_body (base table) i (left_tree table i)) p.place.next begun_demand

    pub skipped : {o : Progress} {c₁ : List ℕ} → Skips table i p c o c₁ → Skipped table i p c o c₁
    skipped w = record { going = next (skipping_of table i p) (from_body (base table) i (left_tree table i)) begun_demand w.is }

module _ {table : List ℕ} {i : ℕ} {p : Progress} {c : List ℕ} where
  pub body-room : {b : ℕ} {o : Progress} {c₁ : List ℕ} → Skipped table i p c o c₁ → b ≡ first_at table i → Room (emission table b o).code o.place c₁
  body-room {o = o} g e = rw e (next-room (emission table (first_at table i) o) (from_holding (base table) i (left_tree table i)) o.place.next g.going)

  pub held : {b : ℕ} {o q : Progress} {c₁ c₂ : List ℕ} → Skipped table i p c o c₁ → b ≡ first_at table i → Emits table b o c₁ q c₂ → Held table i p c q c₂
  held {o = o} {q} {c₁} {c₂} g e w =
      record { going = next (emission table (first_at table i) o) (from_holding (base table) i (left_tree table i)) g.going (subst (λ (k : ℕ). Emits table k o c₁ q c₂) e w).is }

  pub demanded : {q r : Progress} {c₁ c₂ : List ℕ} → Held table i p c q c₁ → Holds table i q c₁ r c₂ → Emits table i p c r c₂
  demanded g w = record { is = last g.going w.is }
