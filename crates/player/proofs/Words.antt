-- The words of a line, one after another.
use Prim.Native.Nat.{ℕ, zero, suc, ◌+◌, ◌≤◌, ◌<◌}
use mathlib.Core.Path.{◌≡◌, refl, ap, ◌∙◌}
use mathlib.Core.Bool.{Bool, true, false}
use mathlib.Core.List.{List, [], ◌∷◌}
use mathlib.Core.Logic.{◌≢◌}
use native.Mathlib.Omega.{arith}
use borrow.Author.Tests.{eq-eqb, ne_eqb}
use lib.Dec.{eqb}
use lib.ListN.{length, get_or, take, drop, length-drop}
use lib.Seq.{drop-length}
use Rattle.number.specs.Number.{space}
use Rattle.column.specs.Line.{before}
use Rattle.number.proofs.Scan.{drop_at}
use Rattle.player.specs.Samples.{up_to, pieces, non_empty, words}
use Rattle.player.specs.Promises.{FirstByte, Word}
use Rattle.number.specs.Promises.{Spaces}
use Rattle.std.specs.Prelude.{Option as StdOption, unwrap_or}
use Rattle.player.proofs.UpTo.{up_to_take, byte_found}

-- the first piece, and what follows it
record Pieces (text : List ℕ) : Type 0 where
  more : List (List ℕ)
  split : pieces text ≡ up_to space text ∷ more
  rest : non_empty more ≡ words (drop (length (up_to space text)) text)

pieces-first : (text : List ℕ) → Pieces text
unfolding words
pieces-first [] = record { more = []; split = refl; rest = refl }
pieces-first (b ∷ bs) = go (eqb b space) refl (pieces-first bs)
  where
    go : (t : Bool) → eqb b space ≡ t → Pieces bs → Pieces (b ∷ bs)
    go true e p = record { more = pieces bs; split = rw e; rest = rw (e, e) }
    go false e p = record { more = p.more; split = rw e (ap (before b) p.split); rest = rw e p.rest }

word_first : (b : ℕ) (bs : List ℕ) → (b ≡ space → ⊥) → words (b ∷ bs) ≡ up_to space (b ∷ bs) ∷ words (drop (length (up_to space (b ∷ bs))) (b ∷ bs))
unfolding words
word_first b bs n =
    let p = pieces-first bs in
    rw (ne_eqb b space n, p.split) (ap {B = List (List ℕ)} (λ ls. (b ∷ up_to space bs) ∷ ls) p.rest)

words-skip : (line : List ℕ) (begin : ℕ) → begin ≤ length line → ((k : ℕ) → k < begin → get_or line k 0 ≡ space) → words line ≡ words (drop begin line)
unfolding words
words-skip line zero h before = refl
words-skip [] (suc begin) h before = absurd (omega arith)
words-skip (b ∷ bs) (suc begin) h before = rw (eq-eqb b space (before 0 (omega arith))) (words-skip bs begin (omega arith) (λ k l. before (suc k) (omega arith)))

pub no_word : (line : List ℕ) → Spaces line (length line) → words line ≡ []
unfolding words
no_word line s = words-skip line (length line) (omega arith) s.all ∙ rw (drop-length line)

pub a_word : (line : List ℕ) (begin : ℕ) (r : StdOption ℕ) → begin < length line → Spaces line begin → FirstByte (drop begin line) space r →
    Word line (take (unwrap_or r (length (drop begin line))) (drop begin line)) (drop (unwrap_or r (length (drop begin line))) (drop begin line))
a_word line begin r h s f =
    let rest : List ℕ = drop begin line in
    let e : unwrap_or r (length rest) ≡ length (up_to space rest) = byte_found space rest r f in
    let d : rest ≡ get_or line begin 0 ∷ drop (begin + 1) line = drop_at line begin h in
    let n : get_or line begin 0 ≢ space = s.end h in
    let w : words rest ≡ up_to space rest ∷ words (drop (length (up_to space rest)) rest) = rw d (word_first (get_or line begin 0) (drop (begin + 1) line) n) in
    let m : length (up_to space rest) ≡ suc (length (up_to space (drop (begin + 1) line))) = rw (d, ne_eqb (get_or line begin 0) space n) in
    record {
      words-are = rw e (words-skip line begin s.within s.all ∙ w ∙ ap {B = List (List ℕ)} (λ l. l ∷ words (drop (length (up_to space rest)) rest)) (up_to_take space rest));
      shorter = rw e (omega (arith, length-drop (length (up_to space rest)) rest, length-drop begin line));
    }
