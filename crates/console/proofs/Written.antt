-- What is written of a text that a buffer begins with, and of a file of which enough is read.
use Rattle.std.proofs.Common.{◌≡◌, ℕ, ◌<◌, ◌≤◌, ◌⊎◌, List, [], ◌++◌, Option, None, Some, IfSome, Result, Ok, Err, OnOk, length, take, drop, inl, inr, sym, ap, subst, ◌∙◌, append-nil, length-take-le, arith}
use Rattle.std.proofs.lemmas.Bool.{cases_lt}
use Rattle.std.specs.Io.KnownBytes.{Appends, Consumes, IsAtEnd}
use lib.Seq.{take-append_seam}
use Rattle.number.specs.Put.{Put, Begins}
use Rattle.number.proofs.Stores.{begins_of}

-- the first bytes of a buffer that begins with a text are that text
pub begins_shows : {shown text : List ℕ} {n : ℕ} {text' : List ℕ} → Begins shown text n text' → take n text' ≡ shown
begins_shows {shown} {text} {n} {text'} p = ap (λ k. take k text') p.bytes ∙ ap (take (length shown)) p.put ∙ take-append_seam shown (drop n text)

pub put_shows : {shown text : List ℕ} {n : ℕ} {text' : List ℕ} → Put shown text 0 n text' → take n text' ≡ shown
put_shows {shown} {text} {n} {text'} p = begins_shows (begins_of shown text n text' p)

-- a text that the first bytes of a file decide, where so many or all of them are read
module _ (shown : List ℕ → List ℕ) (enough : ℕ) (decides : (k : ℕ) (file : List ℕ) → enough ≤ k → shown (take k file) ≡ shown file) where
  read_shows : (n : ℕ) (buffer file rest : List ℕ) → enough ≤ length buffer → n ≤ length buffer → file ≡ take n buffer ++ rest → (n < length buffer → rest ≡ []) → shown (take n buffer) ≡ shown file
  read_shows n buffer file rest enough' within e last = go (cases_lt n (length buffer))
    where
      go : (n < length buffer) ⊎ (length buffer ≤ n) → shown (take n buffer) ≡ shown file
      go (inl h) = ap shown (sym (e ∙ ap (λ l. take n buffer ++ l) (last h) ∙ append-nil (take n buffer)))
      go (inr h) =
          let long : length (take n buffer) ≡ n = length-take-le n buffer within in
          let front : take n file ≡ take n buffer = ap (take n) e ∙ ap (λ k. take k (take n buffer ++ rest)) (sym long) ∙ take-append_seam (take n buffer) rest in
          ap shown (sym front) ∙ decides n file (omega arith)

  pub read_written : (given left : Option (List ℕ)) (n : ℕ) (buffer : List ℕ) (written written' : Option (List ℕ)) → enough ≤ length buffer → n ≤ length buffer → Consumes given left (take n buffer) →
      (n < length buffer → IsAtEnd left) → Appends written written' (shown (take n buffer)) → IfSome given (λ file. Appends written written' (shown file))
  read_written None left n buffer written written' enough' within c last a = tt
  read_written (Some file) None n buffer written written' enough' within c last a = absurd c
  read_written (Some file) (Some rest) n buffer written written' enough' within c last a = subst (Appends written written') (read_shows n buffer file rest enough' within c last) a

-- what follows from what a write leaves
pub on_ok : {T E : Type 0} (r : Result T E) {P Q : Type 0} → (P → Q) → OnOk r P → OnOk r Q
on_ok (Ok _) f p = f p
on_ok (Err _) f p = tt
