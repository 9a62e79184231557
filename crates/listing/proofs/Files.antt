-- The print of a file, by what the reader answered.
use Prim.Native.Nat.{ℕ, ◌*◌, ◌≤◌}
use mathlib.Core.Path.{◌≡◌, refl, sym, ap, ◌∙◌}
use mathlib.Core.List.{List, ◌++◌}
use mathlib.Core.Option.{Option, none, some}
use native.Mathlib.Omega.{arith}
use borrow.Author.Tests.{le-ltb}
use lib.ListN.{length, take, drop, length-append}
use lib.Seq.{take_at}
use Rattle.refusal.specs.declared.Refusal.{Refusal}
use Rattle.refusal.specs.Refusals.{number_of, place_of}
use Rattle.std.specs.Prelude.{Result, Ok, Err}
use Rattle.refusal.specs.Answer.{Answer, count, refusal_of, answer_of}
use Rattle.refusal.specs.Outcome.{Outcome, outcome}
use Rattle.column.specs.Line.{lines}
use Rattle.column.specs.File.{file_refusal, table_of, reading}
use Rattle.column.proofs.Refusing.{read-counted}
use Rattle.column.proofs.Storing.{file_right, numbers-length}
use Rattle.column.proofs.FileText.{lines-few}
use Rattle.number.specs.Put.{Put, Begins}
use Rattle.number.proofs.Stores.{begins_of}
use Rattle.listing.specs.Print.{refusal_text, table_text, file_text}

module _ (file table : List ℕ) (a : Result ℕ Refusal) (table' : List ℕ) (q : outcome (answer_of a) table' ≡ reading file table) where
  answered : answer_of a ≡ (reading file table).answer
  answered = ap (λ (c : Outcome). c.answer) q

  -- where the table is long enough, only the lines are refused
  lines-refused : 1536 ≤ length table → (r : Refusal) → a ≡ Err r → file_refusal file ≡ some (refusal_of r)
  unfolding reading
  lines-refused h r e = go (file_refusal file) refl
    where
      go : (x : Option Answer) → file_refusal file ≡ x → file_refusal file ≡ some (refusal_of r)
      go none f =
          let few : length (lines file) ≤ 512 = omega (arith, lines-few 0 (lines file) (omega arith) (file_right file f)) in
          let s : refusal_of r ≡ count (length (lines file)) = rw (e, f, le-ltb (length table) (3 * length (lines file)) (omega arith)) at answered in
          absurd (let z : ◌≡◌ {A = ℕ} 0 1 = cc s in omega arith)
      go (some x) f = let s : refusal_of r ≡ x = rw (e, f) at answered in f ∙ ap (λ (y : Answer). some y) (sym s)

  pub file_refused : 1536 ≤ length table → (r : Refusal) → a ≡ Err r → {text : List ℕ} {n : ℕ} {text' : List ℕ} → Put (refusal_text (number_of r) (place_of r)) text 0 n text' → Begins (file_text file) text n text'
  unfolding file_text
  file_refused h r e {text} {n} {text'} p = rw (lines-refused h r e) (begins_of (refusal_text (number_of r) (place_of r)) text n text' p)

  module _ (k : ℕ) (e : a ≡ Ok k) where
    read : (file_refusal file ≡ none) × ((length (lines file) ≡ k) × ((reading file table).buffer ≡ table_of (lines file) ++ drop (3 * k) table))
    read = read-counted file table k (sym answered ∙ ap answer_of e)

    filled : table' ≡ table_of (lines file) ++ drop (3 * k) table
    filled = ap (λ (c : Outcome). c.buffer) q ∙ read.1.1

    counted : length (table_of (lines file)) ≡ 3 * k
    counted = numbers-length (lines file) ∙ ap (λ (n : ℕ). 3 * n) read.1.0

    pub read-within : 3 * k ≤ length table'
    read-within = let l : length (table_of (lines file) ++ drop (3 * k) table) ≡ _ = length-append (table_of (lines file)) (drop (3 * k) table) in rw filled (omega (arith, counted))

    pub file_printed : (c : ℕ) → c ≡ 3 * k → {text : List ℕ} {n : ℕ} {text' : List ℕ} → Begins (table_text (take c table')) text n text' → Begins (file_text file) text n text'
    unfolding file_text
    file_printed c f {text} {n} {text'} p =
        let t : take c table' ≡ table_of (lines file) = rw (f, filled) (take_at (table_of (lines file)) (drop (3 * k) table) (3 * k) counted) in
        rw (read.0, ← t) p
