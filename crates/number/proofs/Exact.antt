-- A numeral without spaces, which is a column of its own length, and the byte behind it.
use Prim.Native.Nat.{ℕ, ◌+◌, ◌^◌, ◌≤◌, ◌<◌}
use mathlib.Core.Path.{◌≡◌, sym, ap, ◌∙◌}
use mathlib.Core.List.{List, [], ◌∷◌, ◌++◌}
use native.Mathlib.Omega.{arith}
use lib.ListN.{length, set, length-append}
use lib.Seq.{sets}
use Rattle.word.specs.Word.{value}
use Rattle.number.specs.Number.{numeral}
use Rattle.number.specs.Laws.{ColumnWritten}
use Rattle.number.specs.Put.{Put}
use Rattle.number.proofs.Texts.{column-full}
use Rattle.number.proofs.Written.{word_stored}
use Rattle.number.proofs.Stores.{sets_append}

pub numeral-put : (word behind : ℕ) (text text₁ : List ℕ) (from width : ℕ) → word < 2 ^ 32 → width ≡ length (numeral (value word)) → from + (length (numeral (value word)) + 1) ≤ length text →
    ColumnWritten text from width (value word) text₁ → Put (numeral (value word) ++ (behind ∷ [])) text from (from + width + 1) (set text₁ (from + width) behind)
numeral-put word behind text text₁ from width b w h c =
    let n : length (numeral (value word) ++ (behind ∷ [])) ≡ length (numeral (value word)) + 1 = length-append (numeral (value word)) (behind ∷ []) in
    let f : text₁ ≡ sets text from (numeral (value word)) = word_stored (omega arith) (omega arith) b c ∙ ap (sets text from) (column-full width (value word) (omega arith)) in
    record {
      next-is = omega arith;
      within = omega arith;
      put = rw (f, w) (sym (sets_append (numeral (value word)) (behind ∷ []) text from));
    }
