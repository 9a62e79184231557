-- The print of a table, by what the translator answered.
use Prim.Native.Nat.{ℕ, ◌^◌, ◌≤◌, ◌<◌}
use mathlib.Core.Path.{◌≡◌, sym, ap}
use mathlib.Core.Bool.{true}
use mathlib.Core.List.{List}
use native.Mathlib.Omega.{arith}
use lib.ListN.{length, get_or, take}
use Rattle.word.specs.Tick.{Words, zeros}
use Rattle.word.proofs.Each.{words_of}
use Rattle.refusal.specs.declared.Refusal.{Refusal}
use Rattle.refusal.specs.Refusals.{number_of, place_of}
use Rattle.number.specs.Put.{Put, Begins}
use Rattle.number.proofs.Stores.{begins_of}
use Rattle.flat.specs.Code.{most_numbers}
use Rattle.flat.specs.Check.{code_ok}
use Rattle.flat.proofs.Decoded.{code-header}
use Rattle.std.specs.Prelude.{Result, Ok, Err}
use Rattle.refusal.specs.Answer.{count, answer_of}
use Rattle.refusal.specs.Outcome.{outcome}
use Rattle.translator.specs.Translate.{translated_table}
use Rattle.translator.proofs.Delivered.{is_delivered, delivered_passes}
use Rattle.listing.specs.Print.{code_text, refusal_text, most_bytes, outcome_text, table_text}
use Rattle.listing.specs.Steps.{Listable}

module _ (table code : List ℕ) {a : Result ℕ Refusal} {code' : List ℕ} (t : outcome (answer_of a) code' ≡ translated_table table code) where
  pub refused-text : (r : Refusal) → a ≡ Err r → outcome_text (translated_table table code) ≡ refusal_text (number_of r) (place_of r)
  refused-text r e = sym (rw e at (ap outcome_text t))

  module _ (n : ℕ) (e : a ≡ Ok n) where
    counted : outcome (count n) code' ≡ translated_table table code
    counted = rw e at t

    pub code-text : outcome_text (translated_table table code) ≡ code_text (take n code')
    code-text = sym (ap outcome_text counted)

    pub is_within : n ≤ length code
    is_within = let d = is_delivered table code counted in omega (arith, d.counted, d.within)

    pub code_passes : Words table → code_ok (take n code') ≡ true
    code_passes = delivered_passes table code counted

    pub is_listable : ((k : ℕ) → get_or table k 0 < 2 ^ 32) → (text : List ℕ) → most_bytes ≤ length text → Listable (take n code') text
    is_listable entries text h = record { head = code-header (take n code') (code_passes (words_of table entries)); room = h }

-- the whole call on a table
module _ (table : List ℕ) {a : Result ℕ Refusal} {code' : List ℕ} (t : outcome (answer_of a) code' ≡ translated_table table (zeros most_numbers)) {text : List ℕ} {n : ℕ} {text' : List ℕ} where
  pub table-refused : (r : Refusal) → a ≡ Err r → Put (refusal_text (number_of r) (place_of r)) text 0 n text' → Begins (table_text table) text n text'
  unfolding table_text
  table-refused r e p = rw (refused-text table (zeros most_numbers) t r e) (begins_of (refusal_text (number_of r) (place_of r)) text n text' p)

  pub table-listed : (k c : ℕ) → a ≡ Ok k → c ≡ k → Put (code_text (take c code')) text 0 n text' → Begins (table_text table) text n text'
  unfolding table_text
  table-listed k c e f p = rw (code-text table (zeros most_numbers) t k e, ← f) (begins_of (code_text (take c code')) text n text' p)
