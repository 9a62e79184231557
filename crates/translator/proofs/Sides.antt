-- The parts of a composition, from what the functions that write them leave.
use Prim.Native.Nat.{ℕ, ◌+◌, ◌≤◌}
use mathlib.Core.Path.{◌≡◌, refl, sym, ap, ◌∙◌}
use mathlib.Core.List.{List, []}
use native.Mathlib.Omega.{arith}
use lib.ListN.{take}
use lib.Seq.{take-take}
use Rattle.arity.specs.Tree.{Tree, ins, outs}
use Rattle.arity.specs.Table.{kind_at, composition_of}
use Rattle.arity.specs.Ready.{Promising}
use Rattle.calls.specs.Wiring.{first_inputs, second_inputs}
use Rattle.walker.specs.Ready.{base, Joins, left_tree, right_tree, first_child, ins_of, outs_of, SecondGiven, Finished}
use Rattle.walker.proofs.Joining.{Kind, kind_of_lem}
use Rattle.walker.proofs.Joining.Kind.{sequences, parallels, splits, merges as mergings, recursions}
use Rattle.walker.proofs.Wires.{right_few_inputs, first-same, finished_recursion}
use Rattle.translator.specs.Emit.{Emitted, emitted, reads, writes}
use Rattle.translator.specs.Writing.{Room, Written, Puts}
use Rattle.translator.specs.Parts.{reads_of, writes_of, middle, opening_of, closing_of, Opens, Links, Closes}
use Rattle.translator.specs.declared.place.Place.{Place}
use Rattle.translator.specs.declared.place.Progress.{Progress}
use Rattle.translator.proofs.Pieces.{length-reads}
use Rattle.translator.proofs.Writing.{written_none}

-- what only a recursion has, and only a merge
no_reads : (k : ℕ) → Kind k → (k ≡ 11 → ⊥) → (a q : ℕ) → reads_of (composition_of k) a q ≡ []
no_reads k sequences n a q = refl
no_reads k parallels n a q = refl
no_reads k splits n a q = refl
no_reads k mergings n a q = refl
no_reads k recursions n a q = absurd (n refl)

not_fed : (k : ℕ) → Kind k → (k ≡ 11 → ⊥) → (l : Tree) (xs ys zs : List ℕ) → first_inputs (composition_of k) l xs ys ≡ first_inputs (composition_of k) l xs zs
not_fed k sequences n l xs ys zs = refl
not_fed k parallels n l xs ys zs = refl
not_fed k splits n l xs ys zs = refl
not_fed k mergings n l xs ys zs = refl
not_fed k recursions n l xs ys zs = absurd (n refl)

no_writes : (k : ℕ) → Kind k → (k ≡ 11 → ⊥) → (a q : ℕ) (zs : List ℕ) → writes_of (composition_of k) a q zs ≡ []
no_writes k sequences n a q zs = refl
no_writes k parallels n a q zs = refl
no_writes k splits n a q zs = refl
no_writes k mergings n a q zs = refl
no_writes k recursions n a q zs = absurd (n refl)

no_sums : (k : ℕ) → Kind k → (k ≡ 10 → ⊥) → (l r : Tree) (xs ys : List ℕ) (n : ℕ) → middle (composition_of k) l r xs ys n ≡ emitted [] (second_inputs (composition_of k) l r xs ys)
no_sums k sequences h l r xs ys n = refl
no_sums k parallels h l r xs ys n = refl
no_sums k splits h l r xs ys n = refl
no_sums k mergings h l r xs ys n = absurd (h refl)
no_sums k recursions h l r xs ys n = refl

-- nothing was written, and the registers are others
rewired : {e : Emitted} {k : ℕ} {p : Place} {c zs : List ℕ} → e.code ≡ [] → take k zs ≡ e.results → Puts e k p c (record { regs = zs; place = p }) c
rewired h r = record { written = rw h written_none; results = r }

module _ {table : List ℕ} {i : ℕ} (t : Promising table) (j : Joins table i) where
  kind : Kind (kind_at table i)
  kind = kind_of_lem (kind_at table i) j.least j.most

  -- the cells of a recursion
  module _ {a q : ℕ} (e : kind_at table i ≡ 11) (ea : a ≡ base table i) (eq : q ≡ ins (right_tree table i)) where
    fed-few : q ≤ 32
    fed-few = omega (arith, right_few_inputs t j)

    pub fed_room : (p : Progress) {c : List ℕ} → Room (opening_of table i p).code p.place c → Room (reads a q) p.place c
    fed_room p r = rw (ea, eq) (rw e at r)

    pub fed_ascends : (p : Progress) {c : List ℕ} → Room (opening_of table i p).code p.place c → (q ≤ 32) × (p.place.next + q ≤ 65536)
    fed_ascends p r = (fed-few, omega (arith, (fed_room p r).registers, length-reads a q))

    writes_are : (q' r : Progress) → (closing_of table i q' r).code ≡ writes a (take q r.regs)
    writes_are q' r =
        let h : q ≤ outs (left_tree table i) = omega (arith, ((t.node i j.inside).recursion e).0) in
        rw (e, ← ea, ← eq, take-take q (outs (left_tree table i)) r.regs h)

    pub closes_recursion : {q' r : Progress} {s : Place} {c c₁ : List ℕ} → Written (writes a (take q r.regs)) r.place c s c₁
        → Closes table i q' r c (record { regs = r.regs; place = s }) c₁
    closes_recursion {q'} {r} w =
        record { is = record { written = rw (writes_are q' r) w; results = (finished_recursion t j {ys = q'.regs} {zs = r.regs} {cs = []} e refl refl refl).outputs } }

  pub opens_other : {p : Progress} {c : List ℕ} → (kind_at table i ≡ 11 → ⊥) → Opens table i p c p c
  opens_other {p} {c} n =
      record {
        is = rewired (no_reads _ kind n _ _) ((first-same t j {xs = p.regs} {cs = []} n).is ∙ not_fed _ kind n _ _ _ _);
      }

  pub links_other : {p q : Progress} {c zs : List ℕ} → (kind_at table i ≡ 10 → ⊥) → SecondGiven table i p.regs q.regs zs → Links table i p q c (record { regs = zs; place = q.place }) c
  links_other {p} {q} n s =
      let e = no_sums _ kind n (left_tree table i) (right_tree table i) (ins_of table i p.regs) (outs_of table (first_child table i) q.regs) q.place.next in
      record { is = rewired (ap (λ (x : Emitted). x.code) e) (s.is ∙ sym (ap (λ (x : Emitted). x.results) e)) }

  pub closes_other : {q r : Progress} {c cs cs' os : List ℕ} → (kind_at table i ≡ 11 → ⊥) → Finished table i q.regs r.regs cs os cs' → Closes table i q r c (record { regs = os; place = r.place }) c
  closes_other n f = record { is = rewired (no_writes _ kind n _ _ _) f.outputs }
