-- From the answers of the crates below to the numbers that stand for them.
use Prim.Native.Nat.{ℕ, ◌<◌, ◌≤◌}
use mathlib.Core.Path.{◌≡◌, sym, ap, ◌∙◌}
use mathlib.Core.List.{List, [], ◌∷◌}
use lib.ListN.{length}
use borrow.Author.Tests.{le-leb, lt-leb}
use Rattle.std.specs.Prelude.{ℤ}
use Rattle.refusal.specs.Answer.{Answer, count, refused_all}
use Rattle.refusal.specs.Outcome.{Outcome, outcome}
use Rattle.cells.specs.Cells.{store}
use Rattle.cells.specs.Block.{Ran, ran_as}
use Rattle.cells.proofs.Parts.{store_parts}
use Rattle.calls.specs.Probed.{Probed, probed_as}
use Rattle.refusal.specs.Answer.Answer.{counts, refused}
use Rattle.arity.specs.Check.{checked}
use Rattle.circuit.specs.Encoded.{encoded}
use Rattle.circuit.specs.Report.{reported_by, reporting}

-- From the number that encodes a call's answer: the result of each kind of call, part by part.
module _ {a : Answer} {n : ℕ} (h : n ≡ encoded a) where
  pub outcome-gives : {buffer : List ℕ} (x : Outcome) → outcome a buffer ≡ x → (n ≡ encoded x.answer) × (buffer ≡ x.buffer)
  outcome-gives x f = (h ∙ ap (λ (y : Outcome). encoded y.answer) f, ap (λ (y : Outcome). y.buffer) f)

  pub ran-gives : {cells outputs : List ℕ} (x : Ran) → ran_as a cells outputs ≡ x → (n ≡ encoded x.answer) × ((cells ≡ x.cells) × (outputs ≡ x.outputs))
  ran-gives x f = (h ∙ ap (λ (y : Ran). encoded y.answer) f, (ap (λ (y : Ran). y.cells) f, ap (λ (y : Ran). y.outputs) f))

  pub probed-gives : {cells outputs latest recording : List ℕ} (x : Probed) → probed_as (ran_as a cells outputs) latest recording ≡ x
      → (n ≡ encoded x.ran.answer) × ((cells ≡ x.ran.cells) × ((outputs ≡ x.ran.outputs) × ((latest ≡ x.latest) × (recording ≡ x.recording))))
  probed-gives x f =
      let g = ran-gives x.ran (ap (λ (y : Probed). y.ran) f) in
      (g.0, (g.1.0, (g.1.1, (ap (λ (y : Probed). y.latest) f, ap (λ (y : Probed). y.recording) f))))

-- the check's report, by the case that its answer is
module _ (table buffer : List ℕ) where
  pub refused-report : {n : ℕ} {p : ℤ} → refused n p ≡ checked table → outcome (refused n p) buffer ≡ reporting table buffer
  unfolding reporting
  refused-report e = ap (λ (a : Answer). reported_by a buffer) e

  pub short-report : {ks : List ℕ} → counts ks ≡ checked table → length buffer < 4 → outcome (refused_all 12) buffer ≡ reporting table buffer
  unfolding reporting
  short-report {ks = ks} e h = by_case ∙ ap (λ (a : Answer). reported_by a buffer) e
    where
      by_case : outcome (refused_all 12) buffer ≡ reported_by (counts ks) buffer
      by_case = rw (lt-leb 4 (length buffer) h)

  pub whole-report : {n m c d : ℕ} → counts (n ∷ m ∷ c ∷ d ∷ []) ≡ checked table → 4 ≤ length buffer
      → outcome (count 4) (store 0 (n ∷ m ∷ c ∷ d ∷ []) buffer) ≡ reporting table buffer
  unfolding reporting
  whole-report {n = n} {m = m} {c = c} {d = d} e h = by_case ∙ ap (λ (a : Answer). reported_by a buffer) e
    where
      by_case : outcome (count 4) (store 0 (n ∷ m ∷ c ∷ d ∷ []) buffer) ≡ reported_by (counts (n ∷ m ∷ c ∷ d ∷ [])) buffer
      by_case = rw (le-leb 4 (length buffer) h) (ap (outcome (count 4)) (store_parts 0 (n ∷ m ∷ c ∷ d ∷ []) buffer h))
