-- Row 15: the probes one after another, and what it says once they pass.
use Prim.Native.Nat.{ℕ, zero, suc, ◌+◌, ◌*◌, ◌/◌, ◌%◌, ◌≤◌, ◌<◌}
use mathlib.Core.Path.{◌≡◌, refl, sym, ap, ap₂, subst, ◌∙◌}
use mathlib.Core.Bool.{Bool, true, false}
use mathlib.Core.List.{List, [], ◌∷◌}
use native.Mathlib.Omega.{arith}
use native.Mathlib.Numerals.{add-one}
use lib.Dec.{eqb, leb, ltb}
use lib.ListN.{length, get_or, drop, length-drop}
use lib.Seq.{drop-cons}
use borrow.Author.Tests.{lt-ltb, le-ltb, ltb-true, leb-true, eqb-true}
use denote.Ref.{Bor}
use denote.Param.Members.{Mut, Called}
use Rattle.std.specs.Prelude.{IsTrue, MatchBool, Option, Some, None, slice_index_or}
use Rattle.std.specs.Option.{option_map}
use Rattle.std.specs.Iterator.Runs.{Run, IsChunksExactRun, CallKeepsClosure, AllItemsGive, AnyItemGives}
use Rattle.word.specs.Choice.{◌and◌}
use Rattle.word.specs.Tick.{Each}
use Rattle.word.proofs.Lists.{first-true, second-true}
use Rattle.arity.specs.Tree.{Tree, outs}
use Rattle.arity.specs.Table.{nodes, tree, circuit}
use Rattle.arity.specs.Nodes.{subtree}
use Rattle.signal.specs.Wire.{Probe}
use Rattle.calls.specs.Probed.{probes_of, names, all_named, probes_ok}
use Rattle.arity.specs.Ready.{Promising}
use Rattle.walker.specs.Ready.{}
use Rattle.walker.specs.Probing.{Names, Named}

-- is it an output of the table?
abbrev test : List ℕ → ℕ → ℕ → Bool
test table j o = names (nodes table) (circuit table) (record { node = j; output = o })

pub named_in : {table : List ℕ} {at j o o' m : ℕ} → Promising table → at ≡ j → at < nodes table → o' ≡ o → m ≡ outs (tree table at) → ltb o' m ≡ test table j o
named_in {table} {at} {j} {o} {o'} {m} promise ej inside eo em =
    ap₂ ltb eo (em ∙ ap outs (sym (promise.node at inside).part) ∙ ap (λ i. outs (subtree (circuit table) i)) ej)
    ∙ ap (λ (b : Bool). b and ltb o (outs (subtree (circuit table) j))) (sym (lt-ltb j (nodes table) (subst (λ (i : ℕ). i < nodes table) ej inside)))

pub named_out : (table : List ℕ) (o : ℕ) {at j : ℕ} → at ≡ j → nodes table ≤ at → false ≡ test table j o
named_out table o {at} {j} ej outside =
    ap (λ (b : Bool). b and ltb o (outs (subtree (circuit table) j))) (sym (le-ltb j (nodes table) (subst (λ (i : ℕ). nodes table ≤ i) ej outside)))

-- the probe that stands at place a
probe-here : (xs : List ℕ) (a : ℕ) → a + 1 < length xs → probes_of (drop a xs) ≡ record { node = get_or xs a 0; output = get_or xs (a + 1) 0 } ∷ probes_of (drop (a + 2) xs)
probe-here xs a h =
    let z : a + 2 ≡ suc (a + 1) = omega arith in
    ap probes_of (drop-cons xs a 0 (omega arith) ∙ ap (λ l. get_or xs a 0 ∷ l) (ap (λ k. drop k xs) (sym (add-one a)) ∙ drop-cons xs (a + 1) 0 h ∙ ap (λ k. get_or xs (a + 1) 0 ∷ drop k xs) (sym z)))

-- the probes from place a on
abbrev pub all_from : List ℕ → List ℕ → ℕ → Bool
all_from table xs a = all_named (nodes table) (circuit table) (probes_of (drop a xs))

pub all_here : (table xs : List ℕ) (a : ℕ) {b : Bool} → a + 1 < length xs → b ≡ test table (get_or xs a 0) (get_or xs (a + 1) 0) → all_from table xs a ≡ b and all_from table xs (a + 2)
all_here table xs a h e = ap (all_named (nodes table) (circuit table)) (probe-here xs a h) ∙ ap (λ (x : Bool). x and all_from table xs (a + 2)) (sym e)

few-none : (l : List ℕ) → length l ≤ 1 → probes_of l ≡ []
few-none [] h = refl
few-none (x ∷ []) h = refl
few-none (x ∷ y ∷ l) h = absurd (omega arith)

pub all_none : (table xs : List ℕ) (a : ℕ) → length xs ≤ a + 1 → all_from table xs a ≡ true
all_none table xs a h = ap (all_named (nodes table) (circuit table)) (few-none (drop a xs) (rw length-drop (omega arith)))

-- they pass if each passes, and not if one does not
all-pass : (table xs : List ℕ) (n a : ℕ) → a + n * 2 ≤ length xs → length xs ≤ a + n * 2 + 1 → ((j : ℕ) → j < n → test table (get_or xs (a + j * 2) 0) (get_or xs (a + j * 2 + 1) 0) ≡ true) → all_from table xs a ≡ true
all-pass table xs zero a h l f = all_none table xs a (omega arith)
all-pass table xs (suc n) a h l f =
    let z : a ≡ a + 0 * 2 = omega arith in
    let first : test table (get_or xs a 0) (get_or xs (a + 1) 0) ≡ true = ap (λ i. test table (get_or xs i 0) (get_or xs (i + 1) 0)) z ∙ f 0 (omega arith) in
    all_here table xs a (omega arith) (sym first)
    ∙ all-pass table xs n (a + 2) (omega arith) (omega arith) (λ j k. let e : a + 2 + j * 2 ≡ a + suc j * 2 = omega arith in rw e (f (suc j) (omega arith)))

one-fails : (table xs : List ℕ) (j a : ℕ) → a + j * 2 + 1 < length xs → test table (get_or xs (a + j * 2) 0) (get_or xs (a + j * 2 + 1) 0) ≡ false → all_from table xs a ≡ false
one-fails table xs zero a h e =
    let z : a ≡ a + 0 * 2 = omega arith in
    all_here table xs a (omega arith) (sym (ap (λ i. test table (get_or xs i 0) (get_or xs (i + 1) 0)) z ∙ e))
one-fails table xs (suc j) a h e =
    let z : a + 2 + j * 2 ≡ a + suc j * 2 = omega arith in
    all_here table xs a (omega arith) refl
    ∙ rest (test table (get_or xs a 0) (get_or xs (a + 1) 0)) (one-fails table xs j (a + 2) (omega arith) (ap (λ i. test table (get_or xs i 0) (get_or xs (i + 1) 0)) z ∙ e))
  where
    rest : (b : Bool) {d : Bool} → d ≡ false → (b and d) ≡ false
    rest true e = e
    rest false e = refl

item : {S A : Type 0} {steps : S → Option A → S → Type 0} (p : Run steps) (k : ℕ) → k < p.len → (x : A) × (p.at k ≡ Some x)
item {A = A} p k h = some (p.at k) (λ d. p.reads k d h) (head p.items (omega (arith, p.long)))
  where
    head : (l : List A) → k < length l → A
    head [] h = absurd (omega arith)
    head (x ∷ l) h = x

    some : (o : Option A) → ((d : A) → option_map (λ y. y) o ≡ Some (slice_index_or p.items k d)) → A → (x : A) × (o ≡ Some x)
    some None f d = absurd (cc (f d))
    some (Some x) f d = (x, refl)

-- in a run over the pairs, where the test of a pair is that of its probe
module _ {S F : Type 0} {steps : S → Option (Bor (List ℕ)) → S → Type 0} (p : Run steps) (table xs : List ℕ) {g : Mut F (Bor (List ℕ) × Unit {0}) Bool} {f : F}
    (run : IsChunksExactRun p 2 xs) (keeps : CallKeepsClosure g f) (tests : (x : Bor (List ℕ)) (b : Bool) → Called g f (x, tt) b f → b ≡ test table (get_or x.now 0 0) (get_or x.now 1 0)) where
  gives : (j : ℕ) (x : Bor (List ℕ)) (b : Bool) → p.at j ≡ Some x → Called g f (x, tt) b f → test table (get_or xs (0 + j * 2) 0) (get_or xs (0 + j * 2 + 1) 0) ≡ b
  gives j x b e h =
      let part = rw e at (run.2 j) in
      let z : 0 + j * 2 ≡ j * 2 + 0 = omega arith in
      let s : 0 + j * 2 + 1 ≡ j * 2 + 1 = omega arith in
      sym (tests x b h ∙ ap₂ (test table) (part.2.2 0 0 (omega arith) ∙ ap (λ i. get_or xs i 0) (sym z)) (part.2.2 1 0 (omega arith) ∙ ap (λ i. get_or xs i 0) (sym s)))

  pub pairs_named : (r : Bool) → MatchBool r (IsTrue p.whole × AllItemsGive p g f true) (AnyItemGives p g f false) → r ≡ all_from table xs 0
  pairs_named true h =
      sym (all-pass table xs p.len 0 (omega (arith, run.0)) (omega (arith, run.1 h.0)) (λ j k. let x = item p j k in gives j x.0 true x.1 (rw x.1 at (h.1 keeps j))))
  pairs_named false h =
      let i = h keeps in
      let x = item p i.0 i.1 in
      sym (one-fails table xs i.0 0 (omega (arith, run.0, i.1)) (gives i.0 x.0 false x.1 (rw x.1 at i.2)))

-- two numbers a probe
pub count-is : (xs : List ℕ) → length (probes_of xs) ≡ length xs / 2
count-is [] = omega arith
count-is (x ∷ []) = omega arith
count-is (x ∷ y ∷ l) = omega (arith, count-is l)

each-named : {table : List ℕ} → Promising table → (ps : List Probe) → all_named (nodes table) (circuit table) ps ≡ true → Each (Names table) ps
each-named promise [] e = tt
each-named {table} promise (p ∷ ps) e =
    let a = first-true (names (nodes table) (circuit table) p) (all_named (nodes table) (circuit table) ps) e in
    let inside = ltb-true p.node (nodes table) (first-true (ltb p.node (nodes table)) _ a) in
    let within = ltb-true p.output _ (second-true (ltb p.node (nodes table)) _ a) in (
      record { node = inside; output = subst (λ (t : Tree). p.output < outs t) (promise.node p.node inside).part within },
      each-named promise ps (second-true (names (nodes table) (circuit table) p) (all_named (nodes table) (circuit table) ps) e),
    )

-- probes that pass
pub passed : {table xs : List ℕ} → Promising table → probes_ok (nodes table) (circuit table) xs ≡ true → Named table xs (length xs / 2)
passed {table} {xs} promise e =
    let even = eqb-true (length xs % 2) 0 (first-true (eqb (length xs % 2) 0) _ e) in
    let rest = second-true (eqb (length xs % 2) 0) _ e in
    record {
      two = omega arith;
      few = omega (arith, leb-true (length (probes_of xs)) 16 (first-true (leb (length (probes_of xs)) 16) _ rest), count-is xs);
      each = each-named promise (probes_of xs) (second-true (leb (length (probes_of xs)) 16) _ rest);
    }
