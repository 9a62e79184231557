-- The translation of a primitive, and the parts of an ondemand's.
use Prim.Native.Nat.{ℕ, suc, ◌+◌, ◌-◌, ◌^◌, ◌≤◌, ◌<◌}
use mathlib.Core.Path.{◌≡◌, refl, sym, ap, ap₂, subst, ◌∙◌}
use mathlib.Core.List.{List, [], ◌∷◌, ◌++◌}
use native.Mathlib.Omega.{arith}
use lib.ListN.{length, get_or, take, drop}
use lib.Seq.{take-take, take-nil}
use Rattle.word.specs.Tick.{head_or, tail_of}
use Rattle.arity.specs.Tree.{Tree, ins, outs, need}
use Rattle.arity.specs.Tree.Tree.{leaf, ondemand}
use Rattle.arity.specs.Table.{nodes, kind_at, first_at, primitive_of, tree}
use Rattle.arity.specs.Promise.{Node}
use Rattle.arity.specs.Ready.{Promising}
use Rattle.walker.specs.Ready.{base, Demands, left_tree, ins_of, outs_of}
use Rattle.flat.specs.Instructions as flat
use Rattle.translator.specs.Emit.{Emitted, emitted, single, emit, reads, writes, up_from}
use Rattle.translator.specs.Writing.{Room, Written, Puts}
use Rattle.translator.specs.Parts.{emission, outs_at, ins_at, skipping_of, holding_of, Emits, Skips, Holds}
use Rattle.translator.specs.declared.place.Place.{Place}
use Rattle.translator.specs.declared.place.Progress.{Progress}
use Rattle.translator.proofs.Pieces.{length-reads, length-writes}
use Rattle.translator.proofs.Writing.{Going, start, first-room, go_on, last, written_none}

-- node i is translated to e, with m results
pub record Leaf (table : List ℕ) (i : ℕ) (p : Progress) (e : Emitted) (m : ℕ) : Type 0 where
  pub is : emission table i p ≡ e
  pub width : outs_at table i ≡ m

pub leaf_room : {table : List ℕ} {i : ℕ} {p : Progress} {e : Emitted} {m : ℕ} {c : List ℕ} → Leaf table i p e m → Room (emission table i p).code p.place c → Room e.code p.place c
leaf_room {p = p} {c = c} l r = subst (λ (x : Emitted). Room x.code p.place c) l.is r

pub leaf_emits : {table : List ℕ} {i : ℕ} {p : Progress} {e : Emitted} {m : ℕ} {c : List ℕ} {q : Progress} {c' : List ℕ} → Leaf table i p e m → Puts e m p.place c q c' → Emits table i p c q c'
leaf_emits l w = record { is = rw (l.is, l.width) w }

module _ {table : List ℕ} {i : ℕ} (t : Promising table) (inside : i < nodes table) where
  node : Node table i
  node = t.node i inside

  leaf-is : (k : ℕ) → kind_at table i ≡ k → k ≤ 6 → tree table i ≡ leaf i (primitive_of k (first_at table i))
  leaf-is k e l = node.is_leaf (omega arith) ∙ ap (λ (m : ℕ). leaf i (primitive_of m (first_at table i))) e

  leaf_by : {e : Emitted} {m : ℕ} (k : ℕ) (p : Progress) → kind_at table i ≡ k → k ≤ 6
      → emit (base table) (leaf i (primitive_of k (first_at table i))) (ins_of table i p.regs) p.place.next ≡ e → outs (leaf i (primitive_of k (first_at table i))) ≡ m → Leaf table i p e m
  leaf_by k p e l h w =
      record {
        is = ap (λ (x : Tree). emit (base table) x (ins_of table i p.regs) p.place.next) (leaf-is k e l) ∙ h;
        width = ap outs (leaf-is k e l) ∙ w;
      }

  module _ (p : Progress) {v : ℕ} (ev : v ≡ first_at table i) where
    pub number-leaf : kind_at table i ≡ 1 → Leaf table i p (single (flat.number v) p.place.next) 1
    unfolding emit outs
    number-leaf e = leaf_by 1 p e (omega arith) (rw ev) refl

    pub control-leaf : kind_at table i ≡ 2 → Leaf table i p (single (flat.control v) p.place.next) 1
    unfolding emit outs
    control-leaf e = leaf_by 2 p e (omega arith) (rw ev) refl

  -- the inputs are the first n registers, the first of them x
  module _ (p : Progress) {n x : ℕ} (en : n ≡ ins (tree table i)) (ex : x ≡ get_or (take n p.regs) 0 0) where
    pub operation-leaf : {v y z : ℕ} → kind_at table i ≡ 3 → v ≡ first_at table i → y ≡ get_or (take n p.regs) 1 0 → z ≡ get_or (take n p.regs) 2 0
        → Leaf table i p (single (flat.operation v x y z) p.place.next) 1
    unfolding emit outs
    operation-leaf e ev ey ez = leaf_by 3 p e (omega arith) (rw (ez, ey, ex, en, ev)) refl

    pub delay-leaf : {v y a : ℕ} → kind_at table i ≡ 4 → v ≡ first_at table i → y ≡ get_or (take n p.regs) 1 0 → a ≡ base table i
        → Leaf table i p (single (flat.delay x y a v) p.place.next) 1
    unfolding emit outs
    delay-leaf e ev ey ea = leaf_by 4 p e (omega arith) (rw (ea, ey, ex, en, ev)) refl

    pub cable_emits : {c zs : List ℕ} → kind_at table i ≡ 5 → take 1 zs ≡ x ∷ [] → Emits table i p c (record { regs = zs; place = p.place }) c
    unfolding emit outs
    cable_emits e h =
        let l : Leaf table i p (emitted [] (x ∷ [])) 1 = leaf_by 5 p e (omega arith) (rw (ex, en)) refl in
        leaf_emits l (record { written = written_none; results = h })

  pub cut_emits : (p : Progress) {c : List ℕ} → kind_at table i ≡ 6 → Emits table i p c p c
  unfolding emit outs
  cut_emits p e =
      let l : Leaf table i p (emitted [] []) 0 = leaf_by 6 p e (omega arith) refl refl in
      leaf_emits l (record { written = written_none; results = refl })

head_of : (n : ℕ) (xs : List ℕ) → head_or 0 (take (suc n) xs) ≡ get_or xs 0 0
head_of n [] = refl
head_of n (x ∷ xs) = refl

tail_of_lem : (n : ℕ) (xs : List ℕ) → tail_of (take (suc n) xs) ≡ take n (drop 1 xs)
tail_of_lem n [] = simp take-nil
tail_of_lem n (x ∷ xs) = refl

module _ {table : List ℕ} {i : ℕ} (t : Promising table) (d : Demands table i) where
  own : Node table i
  own = t.node i d.inside

  demand-is : tree table i ≡ ondemand i (left_tree table i)
  demand-is = own.is_ondemand (omega (arith, d.kind))

  pub body_below : first_at table i < i
  body_below = own.left (omega (arith, d.kind))

  body : Node table (first_at table i)
  body = t.node (first_at table i) (omega (arith, body_below, d.inside))

  outs-same : outs_at table i ≡ outs (left_tree table i)
  unfolding outs
  outs-same = ap outs demand-is

  ins-more : ins_at table i ≡ suc (ins (left_tree table i))
  unfolding ins
  ins-more = ap ins demand-is

  -- the skip goes over the body's instructions and its writes
  module _ {k m : ℕ} (ek : k ≡ need (left_tree table i)) (em : m ≡ outs (left_tree table i)) where
    pub over-few : k + m < 2 ^ 32
    unfolding need
    over-few = omega (arith, ek, em, ap need demand-is, t.fits i d.inside)

    skip_is : (p : Progress) → (skipping_of table i p).code ≡ flat.skip (get_or p.regs 0 0) (k + m) ∷ []
    skip_is p = rw (ins-more, head_of (ins (left_tree table i)) p.regs, ek, em)

    pub skips : {p : Progress} {s : Place} {c c₁ us : List ℕ} → Written (flat.skip (get_or p.regs 0 0) (k + m) ∷ []) p.place c s c₁
        → take (32 - 1) us ≡ drop 1 p.regs → Skips table i p c (record { regs = us; place = s }) c₁
    skips {p} {us = us} w h =
        let few : ins (left_tree table i) ≤ 31 = omega (arith, ins-more, own.inputs) in
        record {
          is = record {
            written = rw (skip_is p) w;
            results =
                sym (take-take (ins (left_tree table i)) 31 us few) ∙ ap (take (ins (left_tree table i))) h ∙ sym (tail_of_lem (ins (left_tree table i)) p.regs)
                ∙ ap (λ (n : ℕ). tail_of (take n p.regs)) (sym ins-more);
          };
        }

  -- behind the body: the writes, then the reads
  module _ {a m : ℕ} (ea : a ≡ base table i) (em : m ≡ outs (tree table i)) where
    wide : m ≡ outs (left_tree table i)
    wide = em ∙ outs-same

    wide-few : m ≤ 32
    wide-few = omega (arith, wide, body.outputs)

    module _ (q : Progress) {c : List ℕ} (room : Room (holding_of table i q).code q.place c) where
      begun : Going (holding_of table i q) q.place c q.place c [] (emitted (writes a (take m q.regs) ++ reads a m) (holding_of table i q).results)
      begun = rw (ea, wide) (start (holding_of table i q) room)

      pub writes_fit : Room (writes a (take m q.regs)) q.place c
      writes_fit = first-room (writes a (take m q.regs)) (reads a m) begun

      module _ {w : Place} {c₁ : List ℕ} (written : Written (writes a (take m q.regs)) q.place c w c₁) where
        halfway : Going (holding_of table i q) q.place c w c₁ [] (emitted (reads a m) (holding_of table i q).results)
        halfway = go_on (writes a (take m q.regs)) (reads a m) begun written

        pub reads_fit : Room (reads a m) w c₁
        reads_fit = halfway.room

        pub results_fit : (m ≤ 32) × (w.next + m ≤ 65536)
        results_fit = (wide-few, omega (arith, reads_fit.registers, length-reads a m))

        pub holds : {s : Place} {c₂ us : List ℕ} → Written (reads a m) w c₁ s c₂ → take m us ≡ up_from w.next m → Holds table i q c (record { regs = us; place = s }) c₂
        holds {us = us} then h =
            let behind : w.next ≡ q.place.next + length (outs_of table (first_at table i) q.regs) =
            written.next ∙ ap (λ (k : ℕ). q.place.next + k) (length-writes a (take m q.regs) ∙ ap (λ (k : ℕ). length (take k q.regs)) wide) in
            let given : take (outs_at table i) us ≡ (holding_of table i q).results =
            ap (λ (k : ℕ). take k us) (outs-same ∙ sym wide) ∙ h ∙ ap₂ up_from behind wide in
            record { is = last halfway (record { written = then; results = given }) }
