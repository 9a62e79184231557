-- The probes on a node, one after another: what they show, and that the others show what they did.
use Prim.Native.Nat.{ℕ, ◌+◌, ◌-◌, ◌*◌, ◌≤◌, ◌<◌}
use mathlib.Core.Path.{◌≡◌, refl, sym, ap, subst, ◌∙◌}
use mathlib.Core.Bool.{Bool, true, false}
use mathlib.Core.List.{List}
use native.Mathlib.Omega.{arith}
use lib.Dec.{eqb}
use lib.ListN.{length, get_or, set, length-set}
use lib.Seq.{get_or-set_same, get_or-set_other, ext_get_or}
use borrow.Author.Tests.{eq-eqb, ne_eqb, eqb-true, eqb-false}
use Rattle.word.specs.Tick.{Beam}
use Rattle.calls.specs.Probes.{noted, zip_with}
use Rattle.calls.specs.Probed.{probes_of}
use Rattle.probes.specs.Marks.{node_of, output_of, mark_of, row_at, count_at, probe_at, output_at, Shows, Entry, Row, Listed, Probing, Marked, MarksOf}
use Rattle.probes.proofs.Zips.{probe, zip_at, zip_long}

-- the row of a node that is marked lies within the marks, and so does each of its entries
module _ {k : ℕ} {marks : List ℕ} {j mark : ℕ} (low : j < 512) (e : mark ≡ mark_of marks j) (some : mark ≡ 0 → ⊥) where
  pub row_of : {xs : List ℕ} → Marked xs k marks → Row xs k marks j (mark - 1)
  row_of m = m.rows j (mark - 1) low (omega (arith, some))

  pub row_fits : MarksOf k marks → (mark - 1 < 16) × (count_at marks (row_at (mark - 1)) ≤ 16)
  row_fits m = let r = row_of m.marked in (omega (arith, r.known, m.probing.few), omega (arith, r.few, m.probing.few))

  pub entry_shows : MarksOf k marks → (i : ℕ) → i < count_at marks (row_at (mark - 1)) → Shows marks (row_at (mark - 1) + 1 + 2 * i) k
  entry_shows m i h =
      let r = row_of m.marked in
      let y = r.entry i h in
      record {
        fits = omega (arith, r.few, m.probing.few);
        probe = y.known;
        output = omega (arith, y.output, m.probing.outputs (probe_at marks (row_at (mark - 1)) i) y.known);
      }

-- node j has given ys; the first i entries of its row, which begins at `at`, are done
pub record Noting (xs marks : List ℕ) (j at : ℕ) (ys : Beam) (vs₀ : List ℕ) (i : ℕ) (vs : List ℕ) : Type 0 where
  pub long : length vs ≡ length vs₀
  pub kept : (k : ℕ) → (node_of xs k ≡ j → ⊥) → get_or vs k 0 ≡ get_or vs₀ k 0
  pub done : (p : ℕ) → p < i → get_or vs (probe_at marks at p) 0 ≡ get_or ys (output_of xs (probe_at marks at p)) 0

pub noting_starts : (xs marks : List ℕ) (j at : ℕ) (ys : Beam) (vs : List ℕ) → Noting xs marks j at ys vs 0 vs
noting_starts xs marks j at ys vs = record { long = refl; kept = λ k n. refl; done = λ p h. absurd (omega arith) }

-- entry i of the row: its probe, and its output
module _ {xs marks : List ℕ} {j at : ℕ} {ys : Beam} {vs₀ : List ℕ} {i : ℕ} {vs : List ℕ} (e : Entry xs (length vs₀) marks j at i) where
  pub noting_next : Noting xs marks j at ys vs₀ i vs → Noting xs marks j at ys vs₀ (i + 1) (set vs (probe_at marks at i) (get_or ys (output_at marks at i) 0))
  noting_next p =
      record {
        long = length-set vs k v ∙ p.long;
        kept = λ m n. get_or-set_other vs k m v 0 (λ z. n (ap (node_of xs) z ∙ e.on)) ∙ p.kept m n;
        done = λ q h. go q (eqb (probe_at marks at q) k) refl h;
      }
    where
      k : ℕ
      k = probe_at marks at i

      v : ℕ
      v = get_or ys (output_at marks at i) 0

      go : (q : ℕ) (b : Bool) → eqb (probe_at marks at q) k ≡ b → q < i + 1 → get_or (set vs k v) (probe_at marks at q) 0 ≡ get_or ys (output_of xs (probe_at marks at q)) 0
      go q true t h =
          let z : probe_at marks at q ≡ k = eqb-true (probe_at marks at q) k t in
          rw z (get_or-set_same vs k v 0 (omega (arith, e.known, p.long)) ∙ ap (λ o. get_or ys o 0) e.output)
      go q false t h =
          let n : probe_at marks at q ≡ k → ⊥ = eqb-false (probe_at marks at q) k t in
          let u : q ≡ i → ⊥ = λ z. n (ap (probe_at marks at) z) in
          get_or-set_other vs k (probe_at marks at q) v 0 n ∙ p.done q (omega (arith, u))

-- each probe on the node shows its output, and the others show what they did
shows_all : (xs : List ℕ) (j : ℕ) (ys : Beam) (vs₀ : List ℕ) {vs : List ℕ} → length xs ≡ 2 * length vs₀ → length vs ≡ length vs₀
    → ((k : ℕ) → (node_of xs k ≡ j → ⊥) → get_or vs k 0 ≡ get_or vs₀ k 0)
    → ((k : ℕ) → k < length vs₀ → node_of xs k ≡ j → get_or vs k 0 ≡ get_or ys (output_of xs k) 0)
    → vs ≡ zip_with (noted j ys) (probes_of xs) vs₀
shows_all xs j ys vs₀ {vs} two long kept on =
    ext_get_or 0 vs (zip_with (noted j ys) (probes_of xs) vs₀) (long ∙ sym (zip_long (noted j ys) xs vs₀ two))
    (λ k h. let l : k < length vs₀ = omega (arith, long) in each k l (eqb (node_of xs k) j) refl ∙ sym (zip_at (noted j ys) xs vs₀ two k l))
  where
    each : (k : ℕ) → k < length vs₀ → (b : Bool) → eqb (node_of xs k) j ≡ b → get_or vs k 0 ≡ noted j ys (probe xs k) (get_or vs₀ k 0)
    each k l true t = let z = eqb-true (node_of xs k) j t in rw (eq-eqb j (node_of xs k) (sym z)) (on k l z)
    each k l false t = let n = eqb-false (node_of xs k) j t in rw (ne_eqb j (node_of xs k) (λ z. n (sym z))) (kept k n)

module _ {xs marks vs₀ : List ℕ} (p : Probing xs (length vs₀)) (m : Marked xs (length vs₀) marks) (j : ℕ) (ys : Beam) where
  -- a node that is not marked has no probe
  pub none-noted : mark_of marks j ≡ 0 → vs₀ ≡ zip_with (noted j ys) (probes_of xs) vs₀
  none-noted e =
      shows_all xs j ys vs₀ p.two refl (λ k n. refl) (λ k l z. absurd (let w = (m.listed k l).mark in let y : mark_of marks (node_of xs k) ≡ 0 = ap (mark_of marks) z ∙ e in omega arith))

  -- once its row is done, all of its probes are
  pub all_noted : {vs : List ℕ} {i : ℕ} (f : ℕ) → mark_of marks j ≡ f + 1 → Noting xs marks j (row_at f) ys vs₀ i vs → count_at marks (row_at f) ≤ i
      → vs ≡ zip_with (noted j ys) (probes_of xs) vs₀
  all_noted {vs} {i} f e q h = shows_all xs j ys vs₀ p.two q.long q.kept (λ k l z. on k z (m.listed k l))
    where
      on : (k : ℕ) → node_of xs k ≡ j → Listed xs marks k → get_or vs k 0 ≡ get_or ys (output_of xs k) 0
      on k z w =
          let y : f + 1 ≡ w.first + 1 = sym e ∙ ap (mark_of marks) (sym z) ∙ w.mark in
          let a : w.first ≡ f = omega arith in
          let is : probe_at marks (row_at f) w.entry ≡ k = ap (λ x. probe_at marks (row_at x) w.entry) (sym a) ∙ w.is in
          let l : w.entry < count_at marks (row_at f) = subst (λ (x : ℕ). w.entry < count_at marks (row_at x)) a w.within in
          subst (λ (x : ℕ). get_or vs x 0 ≡ get_or ys (output_of xs x) 0) is (q.done w.entry (omega arith))
