-- The marks of the probes, one probe after another.
use Prim.Native.Nat.{ℕ, suc, ◌+◌, ◌-◌, ◌*◌, ◌≤◌, ◌<◌}
use mathlib.Core.Path.{◌≡◌, refl, sym, ap, subst, ◌∙◌}
use mathlib.Core.Bool.{Bool, true, false}
use mathlib.Core.List.{List}
use native.Mathlib.Omega.{arith}
use native.Mathlib.Decide.{dec_le}
use lib.Dec.{eqb}
use lib.ListN.{length, get_or, set, length-set, replicate, length-replicate, get_or-replicate}
use lib.Seq.{get_or-set_same, get_or-set_other}
use borrow.Author.Tests.{eqb-true, eqb-false}
use Rattle.word.specs.Choice.{pick}
use Rattle.probes.specs.Marks.{node_of, output_of, mark_of, row_at, count_at, probe_at, output_at, Clear, entered, Enters, Entry, Row, Listed, Probing, Marked}

-- the marks of the first k probes; the rows of the others are still empty
pub record Marking (xs : List ℕ) (k : ℕ) (marks : List ℕ) : Type 0 where
  pub marked : Marked xs k marks
  pub long : length marks ≡ 1040
  pub empty : (i : ℕ) → row_at k ≤ i → i < 1040 → get_or marks i 0 ≡ 0

empty_marks : (xs : List ℕ) → Marking xs 0 (replicate 1040 0)
empty_marks xs =
    record {
      marked = record { rows = λ j f l h. absurd (let z = get_or-replicate {A = ℕ} 1040 j 0 0 (omega arith) in omega arith); listed = λ i h. absurd (omega arith) };
      long = length-replicate {A = ℕ} 1040 0;
      empty = λ i l h. get_or-replicate {A = ℕ} 1040 i 0 0 h;
    }

pub none-marked : (xs : List ℕ) {ms : List ℕ} → Clear ms → Marking xs 0 ms
none-marked xs c = rw c.is (empty_marks xs)

-- a mark is a probe
pub mark-most : {xs : List ℕ} {k : ℕ} {ms : List ℕ} → Marked xs k ms → (j : ℕ) → j < 512 → mark_of ms j ≤ k
mark-most {xs} {k} {ms} m j low = go (dec_le (mark_of ms j) 0)
  where
    go : Dec (mark_of ms j ≤ 0) → mark_of ms j ≤ k
    go (yes z) = omega arith
    go (no z) = omega (arith, (m.rows j (mark_of ms j - 1) low (omega (arith, z))).known)

-- the row of probe f, the first on node j, has room for probe k
pub record Room (xs : List ℕ) (k : ℕ) (marks : List ℕ) (j f : ℕ) : Type 0 where
  pub known : f ≤ k
  pub on : node_of xs f ≡ j
  pub few : f + count_at marks (row_at f) ≤ k
  pub entry : (i : ℕ) → i < count_at marks (row_at f) → Entry xs k marks j (row_at f) i
  pub is : (g : ℕ) → mark_of marks j ≡ g + 1 → g ≡ f

-- the first probe on the node of probe k: the one that is marked, or else k
pub has_room : {xs : List ℕ} {c k : ℕ} {ms : List ℕ} {j f : ℕ} → Probing xs c → k < c → Marking xs k ms → j ≡ node_of xs k
    → f ≡ pick (eqb (mark_of ms j) 0) k (mark_of ms j - 1) → Room xs k ms j f
has_room {xs} {c} {k} {ms} {j} {f} p h m on e = go (eqb (mark_of ms j) 0) refl e
  where
    go : (b : Bool) → eqb (mark_of ms j) 0 ≡ b → f ≡ pick b k (mark_of ms j - 1) → Room xs k ms j f
    go true t a =
        let z : count_at ms (row_at f) ≡ 0 = m.empty (row_at f) (omega arith) (omega (arith, p.few)) in
        let y = eqb-true (mark_of ms j) 0 t in
        record { known = omega arith; on = ap (node_of xs) a ∙ sym on; few = omega arith; entry = λ i l. absurd (omega arith); is = λ g l. absurd (omega arith) }
    go false t a =
        let n : mark_of ms j ≡ 0 → ⊥ = eqb-false (mark_of ms j) 0 t in
        let r = m.marked.rows j f (omega (arith, p.nodes k h)) (omega (arith, n)) in
        record { known = omega (arith, r.known); on = r.on; few = r.few; entry = r.entry; is = λ g l. omega arith }

pub room_enters : {xs : List ℕ} {c k : ℕ} {ms : List ℕ} {j f : ℕ} → Probing xs c → k < c → j ≡ node_of xs k → Room xs k ms j f
    → Enters j f (count_at ms (row_at f)) k (output_of xs k)
room_enters {xs} {c} {k} p h on r =
    record {
      node = omega (arith, on, p.nodes k h);
      first = omega (arith, r.known, p.few);
      entry = omega (arith, r.few, p.few);
      probe = omega (arith, p.few);
      output = p.outputs k h;
    }

-- probe k, on node j, whose first probe is f
module _ {xs : List ℕ} {c k : ℕ} {ms : List ℕ} {j f : ℕ} (p : Probing xs c) (h₀ : k < c) (m : Marking xs k ms) (on' : j ≡ node_of xs k) (room : Room xs k ms j f) where
  on : node_of xs k ≡ j
  on = sym on'

  few : k < 16
  few = omega (arith, p.few)

  low : j < 512
  low = omega (arith, on', p.nodes k h₀)

  low' : (i : ℕ) → i < k → node_of xs i < 512
  low' i l = p.nodes i (omega arith)

  abbrev at : ℕ
  at = row_at f

  abbrev n : ℕ
  n = count_at ms at

  abbrev o : ℕ
  o = output_of xs k

  abbrev begun : List ℕ
  begun = set ms j (f + 1)

  abbrev named : List ℕ
  named = set begun (at + 1 + 2 * n) k

  abbrev shown : List ℕ
  shown = set named (at + 1 + 2 * n + 1) o

  abbrev all : List ℕ
  all = set shown at (suc n)

  begun_long : length begun ≡ 1040
  begun_long = length-set ms j (f + 1) ∙ m.long

  named-long : length named ≡ 1040
  named-long = length-set begun (at + 1 + 2 * n) k ∙ begun_long

  shown-long : length shown ≡ 1040
  shown-long = length-set named (at + 1 + 2 * n + 1) o ∙ named-long

  inside : (at + 1 + 2 * n + 1 < 1040) × (n ≤ 15) × (j < 512)
  inside = (omega (arith, few, room.few), omega (arith, few, room.few), low)

  -- a place that is none of the four
  other : (i : ℕ) → (i ≡ j → ⊥) → (i ≡ at + 1 + 2 * n → ⊥) → (i ≡ at + 1 + 2 * n + 1 → ⊥) → (i ≡ at → ⊥) → get_or all i 0 ≡ get_or ms i 0
  other i a b c d =
      get_or-set_other shown at i (suc n) 0 d ∙ get_or-set_other named (at + 1 + 2 * n + 1) i o 0 c ∙ get_or-set_other begun (at + 1 + 2 * n) i k 0 b
      ∙ get_or-set_other ms j i (f + 1) 0 a

  mark-here : mark_of all j ≡ f + 1
  mark-here =
      get_or-set_other shown at j (suc n) 0 (λ e. omega (arith, inside)) ∙ get_or-set_other named (at + 1 + 2 * n + 1) j o 0 (λ e. omega (arith, inside))
      ∙ get_or-set_other begun (at + 1 + 2 * n) j k 0 (λ e. omega (arith, inside)) ∙ get_or-set_same ms j (f + 1) 0 (omega (arith, inside, m.long))

  count-here : count_at all at ≡ suc n
  count-here = get_or-set_same shown at (suc n) 0 (omega (arith, inside, shown-long))

  probe-here : probe_at all at n ≡ k
  probe-here =
      get_or-set_other shown at (at + 1 + 2 * n) (suc n) 0 (λ e. omega arith) ∙ get_or-set_other named (at + 1 + 2 * n + 1) (at + 1 + 2 * n) o 0 (λ e. omega arith)
      ∙ get_or-set_same begun (at + 1 + 2 * n) k 0 (omega (arith, inside, begun_long))

  output-here : output_at all at n ≡ o
  output-here =
      get_or-set_other shown at (at + 1 + 2 * n + 1) (suc n) 0 (λ e. omega arith) ∙ get_or-set_same named (at + 1 + 2 * n + 1) o 0 (omega (arith, inside, named-long))

  -- the entries that the row had
  probe-kept : (i : ℕ) → i < n → probe_at all at i ≡ probe_at ms at i
  probe-kept i h = other (at + 1 + 2 * i) (λ e. omega (arith, inside)) (λ e. omega arith) (λ e. omega arith) (λ e. omega arith)

  output-kept : (i : ℕ) → i < n → output_at all at i ≡ output_at ms at i
  output-kept i h = other (at + 1 + 2 * i + 1) (λ e. omega (arith, inside)) (λ e. omega arith) (λ e. omega arith) (λ e. omega arith)

  row_here : Row xs (suc k) all j f
  row_here =
      record { known = omega (arith, room.known); on = room.on; few = omega (arith, count-here, room.few); entry = λ i h. go i (eqb i n) refl h }
    where
      go : (i : ℕ) (b : Bool) → eqb i n ≡ b → i < count_at all at → Entry xs (suc k) all j at i
      go i true t h =
          let z : i ≡ n = eqb-true i n t in
          rw z (record { known = omega (arith, probe-here); on = rw probe-here on; output = rw (output-here, probe-here) })
      go i false t h =
          let l : i < n = omega (arith, eqb-false i n t, count-here) in
          let e = room.entry i l in
          record { known = omega (arith, probe-kept i l, e.known); on = rw (probe-kept i l) e.on; output = rw (output-kept i l, probe-kept i l) e.output }

  -- another node's mark and its row, that of probe g, are as they were
  module _ (j' : ℕ) (l' : j' < 512) (apart : j' ≡ j → ⊥) where
    mark_else : mark_of all j' ≡ mark_of ms j'
    mark_else = other j' apart (λ e. omega (arith, inside)) (λ e. omega (arith, inside)) (λ e. omega (arith, inside))

    module _ {g : ℕ} (r : Row xs k ms j' g) where
      rows_apart : g ≡ f → ⊥
      rows_apart e = apart (sym r.on ∙ ap (node_of xs) e ∙ room.on)

      else : (i : ℕ) → i ≤ 32 → get_or all (row_at g + i) 0 ≡ get_or ms (row_at g + i) 0
      else i h =
          other (row_at g + i) (λ e. omega (arith, inside)) (λ e. omega (arith, inside, rows_apart)) (λ e. omega (arith, inside, rows_apart))
          (λ e. omega (arith, rows_apart))

      count_else : count_at all (row_at g) ≡ count_at ms (row_at g)
      count_else = let z : row_at g + 0 ≡ row_at g = omega arith in subst (λ (a : ℕ). get_or all a 0 ≡ get_or ms a 0) z (else 0 (omega arith))

      probe_else : (i : ℕ) → i < count_at ms (row_at g) → probe_at all (row_at g) i ≡ probe_at ms (row_at g) i
      probe_else i h =
          let z : row_at g + (1 + 2 * i) ≡ row_at g + 1 + 2 * i = omega arith in
          subst (λ (a : ℕ). get_or all a 0 ≡ get_or ms a 0) z (else (1 + 2 * i) (omega (arith, few, r.few)))

      output_else : (i : ℕ) → i < count_at ms (row_at g) → output_at all (row_at g) i ≡ output_at ms (row_at g) i
      output_else i h =
          let z : row_at g + (1 + 2 * i + 1) ≡ row_at g + 1 + 2 * i + 1 = omega arith in
          subst (λ (a : ℕ). get_or all a 0 ≡ get_or ms a 0) z (else (1 + 2 * i + 1) (omega (arith, few, r.few)))

      row_else : Row xs (suc k) all j' g
      row_else =
          record {
            known = omega (arith, r.known);
            on = r.on;
            few = omega (arith, count_else, r.few);
            entry = λ i h.
                let l : i < count_at ms (row_at g) = omega (arith, count_else) in
                let e = r.entry i l in
                record { known = omega (arith, probe_else i l, e.known); on = rw (probe_else i l) e.on; output = rw (output_else i l, probe_else i l) e.output };
          }

  rows_more : (j' g : ℕ) → j' < 512 → mark_of all j' ≡ g + 1 → Row xs (suc k) all j' g
  rows_more j' g l e = go (eqb j' j) refl
    where
      go : (b : Bool) → eqb j' j ≡ b → Row xs (suc k) all j' g
      go true t =
          let z : j' ≡ j = eqb-true j' j t in
          let y : g ≡ f = omega (arith, mark-here, ap (mark_of all) z) in
          rw (z, y) row_here
      go false t =
          let apart : j' ≡ j → ⊥ = eqb-false j' j t in
          row_else j' l apart (m.marked.rows j' g l (sym (mark_else j' l apart) ∙ e))

  listed_more : (i : ℕ) → i < suc k → Listed xs all i
  listed_more i h = go (eqb i k) refl
    where
      -- probe i of the same node, or of another
      earlier : (l : i < k) (b : Bool) → eqb (node_of xs i) j ≡ b → Listed xs ms i → Listed xs all i
      earlier l true t q =
          let z : node_of xs i ≡ j = eqb-true (node_of xs i) j t in
          let a : q.first ≡ f = room.is q.first (ap (mark_of ms) (sym z) ∙ q.mark) in
          let w : q.entry < n = subst (λ (x : ℕ). q.entry < count_at ms (row_at x)) a q.within in
          record {
            first = f;
            mark = ap (mark_of all) z ∙ mark-here;
            entry = q.entry;
            within = omega (arith, count-here);
            is = probe-kept q.entry w ∙ ap (λ x. probe_at ms (row_at x) q.entry) (sym a) ∙ q.is;
          }
      earlier l false t q =
          let apart : node_of xs i ≡ j → ⊥ = eqb-false (node_of xs i) j t in
          let r = m.marked.rows (node_of xs i) q.first (low' i l) q.mark in
          record {
            first = q.first;
            mark = mark_else (node_of xs i) (low' i l) apart ∙ q.mark;
            entry = q.entry;
            within = omega (arith, count_else (node_of xs i) (low' i l) apart r, q.within);
            is = probe_else (node_of xs i) (low' i l) apart r q.entry q.within ∙ q.is;
          }

      go : (b : Bool) → eqb i k ≡ b → Listed xs all i
      go true t =
          let z : i ≡ k = eqb-true i k t in
          record { first = f; mark = ap (λ x. mark_of all (node_of xs x)) z ∙ ap (mark_of all) on ∙ mark-here; entry = n; within = omega (arith, count-here); is = probe-here ∙ sym z }
      go false t =
          let l : i < k = omega (arith, eqb-false i k t) in
          earlier l (eqb (node_of xs i) j) refl (m.marked.listed i l)

  one-marked : Marking xs (suc k) all
  one-marked =
      record {
        marked = record { rows = rows_more; listed = listed_more };
        long = length-set shown at (suc n) ∙ shown-long;
        empty = λ i l h.
            other i (λ e. omega (arith, inside)) (λ e. omega (arith, room.known, room.few)) (λ e. omega (arith, room.known, room.few)) (λ e. omega (arith, room.known))
            ∙ m.empty i (omega arith) h;
      }

  pub one_more : Marking xs (k + 1) (entered ms j f n k o)
  one_more =
      let y : k + 1 ≡ suc k = omega arith in
      let z : n + 1 ≡ suc n = omega arith in
      rw (y, z) one-marked
