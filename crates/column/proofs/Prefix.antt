-- The beginning of a file: behind 512 lines and a byte more nothing is looked at.
use Prim.Native.Nat.{ℕ, zero, suc, ◌+◌, ◌-◌, ◌*◌, ◌≤◌, ◌<◌}
use mathlib.Core.Path.{◌≡◌, refl, sym, ap, ap₂, ◌∙◌}
use mathlib.Core.Bool.{Bool, true, false}
use mathlib.Core.List.{List, [], ◌∷◌, ◌++◌}
use mathlib.Core.Option.{Option, none, some}
use native.Mathlib.Decide.{dec_le}
use native.Mathlib.Omega.{arith}
use borrow.Author.Tests.{ne_eqb}
use lib.ListN.{length, take, drop, length-take, length-append, length-replicate}
use lib.Seq.{take_all, take-nil, take-take, take-append-le}
use Rattle.refusal.specs.Answer.{Answer}
use Rattle.word.specs.Tick.{Words, zeros}
use Rattle.word.proofs.Each.{words-zeros}
use Rattle.column.specs.Checks.{◌or◌}
use Rattle.column.specs.Line.{lines, whole, line_refusal}
use Rattle.column.specs.File.{lines_refusal, file_refusal, reading, lines_from}
use Rattle.column.specs.Laws.{PrefixDecides, PrefixReads}
use Rattle.column.specs.Promises.{first_line}
use Rattle.column.proofs.Lines.{first_prefix, not-whole}
use Rattle.column.proofs.Judged.{drop-take, whole-line, one_line_more, line_not_whole}
use Rattle.column.proofs.Checking.{checking_starts, file_judged}
use Rattle.column.proofs.Storing.{file_right}
use Rattle.column.proofs.FileText.{lines_join, lines-few, lines-bytes, texts_lines, texts_length, texts_right}
use Rattle.column.proofs.Writes.{lines-length}

-- a line that is cut behind its 41st byte has more than 41 bytes before and after
whole_prefix : (k : ℕ) (l : List ℕ) → 41 < k → whole (take k l) ≡ whole l
whole_prefix k l h = go (dec_le (length l) k)
  where
    go : Dec (length l ≤ k) → whole (take k l) ≡ whole l
    go (yes g) = ap whole (take_all k l g)
    go (no g) = sym (not-whole (take k l) (λ e. omega (arith, length-take k l))) ∙ not-whole l (λ e. omega arith)

-- the lines from line i on are judged alike in the first k bytes
abbrev Alike : ℕ → ℕ → List ℕ → Type 0
Alike i k file = lines_refusal i (lines (take k file)) ≡ lines_refusal i (lines file)

where_some : (i k : ℕ) (file : List ℕ) → (0 < length file → Alike i k file) → Alike i k file
where_some i k [] f = rw (take-nil {A = ℕ} k)
where_some i k (b ∷ bs) f = f (omega arith)

by_first_line : (i k : ℕ) (file : List ℕ) → i < 512 → 41 < k → Alike (suc i) (k - 41) (drop 41 file) → 0 < length file → Alike i k file
by_first_line i k file f g rest h = go (whole (first_line file)) refl
  where
    alike : whole (first_line (take k file)) ≡ whole (first_line file)
    alike = ap whole (first_prefix k file) ∙ whole_prefix k (first_line file) g

    behind : drop 41 (take k file) ≡ take (k - 41) (drop 41 file)
    behind = let q : 41 + (k - 41) ≡ k = omega arith in ap (λ (m : ℕ). drop 41 (take m file)) (sym q) ∙ drop-take 41 (k - 41) file

    go : (t : Bool) → whole (first_line file) ≡ t → Alike i k file
    go false w = line_not_whole (take k file) 0 i (omega (arith, length-take k file)) f (alike ∙ w) ∙ sym (line_not_whole file 0 i h f w)
    go true w =
        ap (lines_refusal i) (whole-line (take k file) 0 (alike ∙ w)).1.1
        ∙ ap₂ (λ (l : List ℕ) (r : Option Answer). line_refusal i l or r) (take-take 41 k file (omega arith)) (ap (λ (l : List ℕ). lines_refusal (suc i) (lines l)) behind ∙ rest)
        ∙ sym (ap (lines_refusal i) (whole-line file 0 w).1.1)

-- where n lines more are allowed
prefix_lines : (n i k : ℕ) (file : List ℕ) → i + n ≡ 512 → 41 * n < k → Alike i k file
prefix_lines zero i k file e h =
    where_some i k file (λ s. one_line_more (take k file) 0 i (omega (arith, length-take k file)) (omega arith) ∙ sym (one_line_more file 0 i s (omega arith)))
prefix_lines (suc n) i k file e h =
    where_some i k file (by_first_line i k file (omega arith) (omega arith) (prefix_lines n (suc i) (k - 41) (drop 41 file) (omega arith) (omega arith)))

judged : (file : List ℕ) → 0 < length file → file_refusal file ≡ lines_refusal 0 (lines file)
judged file h = file_judged file file 0 (λ e. omega arith) (checking_starts file)

pub refused-alike : (k : ℕ) (file : List ℕ) → 20993 ≤ k → file_refusal (take k file) ≡ file_refusal file
refused-alike k [] h = ap file_refusal (take-nil {A = ℕ} k)
refused-alike k (b ∷ bs) h =
    judged (take k (b ∷ bs)) (omega (arith, length-take k (b ∷ bs))) ∙ prefix_lines 512 0 k (b ∷ bs) refl (omega arith) ∙ sym (judged (b ∷ bs) (omega arith))

-- a file that is right has no more than 512 lines of 41 bytes
right-length : (file : List ℕ) → file_refusal file ≡ none → length file ≤ 20992
right-length file e =
    let r : lines_refusal 0 (lines file) ≡ none = file_right file e in
    let n : length file ≡ 41 * length (lines file) = sym (ap length (lines_join file)) ∙ lines-bytes 0 (lines file) r in
    omega (arith, lines-few 0 (lines file) (omega arith) r)

pub right_prefix : (k : ℕ) (file : List ℕ) → 20993 ≤ k → file_refusal file ≡ none → take k file ≡ file
right_prefix k file h e = take_all k file (omega (arith, right-length file e))

-- the lines of a table's nodes
nodes-right : (table : List ℕ) (n : ℕ) → Words table → 0 < n → n ≤ 512 → 3 * n ≤ length table → file_refusal (lines_from table 0 n) ≡ none
unfolding file_refusal
nodes-right table n w h f l = rw (texts_lines table 0 n, texts_length table 0 n, ne_eqb n 0 (omega arith)) (texts_right table 0 n w (omega arith) (omega arith))

-- fewer bytes do not tell 512 lines from 512 lines and a byte
too_few : (n k : ℕ) → n ≡ 512 → k ≤ 41 * n → ((file : List ℕ) → file_refusal (take k file) ≡ file_refusal file) → ⊥
too_few n k e h f =
    let t : List ℕ = zeros (3 * n) in
    let file : List ℕ = lines_from t 0 n in
    let z : length t ≡ 3 * n = length-replicate (3 * n) 0 in
    let ok : file_refusal file ≡ none = nodes-right t n (words-zeros (3 * n)) (omega arith) (omega arith) (omega arith) in
    let l : length file ≡ 41 * n = lines-length t 0 n (words-zeros (3 * n)) (omega arith) (omega arith) in
    let more : file_refusal (file ++ (0 ∷ [])) ≡ none = sym (f (file ++ (0 ∷ []))) ∙ ap file_refusal (take-append-le k file (0 ∷ []) (omega arith)) ∙ f file ∙ ok in
    omega (arith, right-length (file ++ (0 ∷ [])) more, length-append file (0 ∷ []))

pub prefix_decides : PrefixDecides
prefix_decides k = (λ f. omega (arith, go f (dec_le 20993 k)), λ h file. refused-alike k file (omega arith))
  where
    go : ((file : List ℕ) → file_refusal (take k file) ≡ file_refusal file) → Dec (20993 ≤ k) → 20993 ≤ k
    go f (yes h) = h
    go f (no h) = absurd (too_few 512 k refl (omega arith) f)

pub prefix_reads : PrefixReads
unfolding reading
prefix_reads k file table h = go (file_refusal file) refl
  where
    go : (x : Option Answer) → file_refusal file ≡ x → reading (take k file) table ≡ reading file table
    go none e = ap (λ (f : List ℕ). reading f table) (right_prefix k file (omega arith) e)
    go (some a) e = rw (refused-alike k file (omega arith), e)
