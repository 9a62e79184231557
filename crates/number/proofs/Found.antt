-- What the code finds in a column.
use Prim.Native.Nat.{ℕ, zero, suc, ◌+◌, ◌-◌, ◌%◌, ◌^◌, ◌≤◌, ◌<◌}
use mathlib.Core.Path.{◌≡◌, refl, sym, ap, ◌∙◌}
use mathlib.Core.List.{List}
use mathlib.Core.Option.{Option, none, some}
use Rattle.std.specs.Prelude.{Some, None, unwrap_or}
use native.Mathlib.Omega.{arith}
use lib.IntN.{ℤ}
use lib.ListN.{length, get_or, drop}
use lib.Seq.{drop-length}
use Rattle.word.specs.Word.{low}
use Rattle.number.specs.Number.{minus, number_in, word_of}
use Rattle.number.specs.Promises.{Spaces, natural, found, natural_found}
use Rattle.number.proofs.Texts.{skip_spaces}
use Rattle.number.proofs.Parse.{negated, plain, number-minus, number-plain, number-empty, read-natural}
use Rattle.number.proofs.Scan.{drop_at}

module _ (t : List ℕ) (at : ℕ) (s : Spaces t at) where
  after_spaces : number_in t ≡ number_in (drop at t)
  after_spaces = sym (skip_spaces at t s.within s.all)

  pub no_minus : at < length t → (get_or t at 0 ≡ minus → ⊥) → natural_found (natural (2 ^ 31 - 1) (drop at t)) ≡ found (number_in t)
  unfolding low
  no_minus h n =
      let k : number_in (drop at t) ≡ plain (natural (2 ^ 31 - 1) (drop at t)) = rw (drop_at t at h) (number-plain (get_or t at 0) (drop (at + 1) t) (s.end h) n) in
      rw after_spaces (go (natural (2 ^ 31 - 1) (drop at t)) refl ∙ sym (ap found k))
    where
      go : (o : Option ℕ) → natural (2 ^ 31 - 1) (drop at t) ≡ o → natural_found o ≡ found (plain o)
      go none e = refl
      go (some n) e =
          let b : n ≤ 2 ^ 31 - 1 = (read-natural (2 ^ 31 - 1) n (drop at t) e).1 in
          ap Some (omega arith)

  after_minus : at < length t → get_or t at 0 ≡ minus → number_in t ≡ negated (natural (2 ^ 31) (drop (at + 1) t))
  after_minus h e = after_spaces ∙ rw (drop_at t at h, e) (number-minus (drop (at + 1) t))

  -- what follows a minus, as found: no natural number, 0, or another
  module _ (h : at < length t) (e : get_or t at 0 ≡ minus) where
    pub minus-other : None ≡ natural_found (natural (2 ^ 31) (drop (at + 1) t)) → None ≡ found (number_in t)
    minus-other q = rw (after_minus h e) (go (natural (2 ^ 31) (drop (at + 1) t)) q)
      where
        go : (o : Option ℕ) → None ≡ natural_found o → None ≡ found (negated o)
        go none f = refl
        go (some n) f = cc

    pub minus-zero : Some 0 ≡ natural_found (natural (2 ^ 31) (drop (at + 1) t)) → None ≡ found (number_in t)
    minus-zero q = rw (after_minus h e) (go (natural (2 ^ 31) (drop (at + 1) t)) q)
      where
        go : (o : Option ℕ) → Some 0 ≡ natural_found o → None ≡ found (negated o)
        go none f = cc
        go (some zero) f = refl
        go (some (suc m)) f = let x : suc m ≡ 0 = cc in absurd (omega arith)

    pub minus_number : (n w : ℕ) → Some n ≡ natural_found (natural (2 ^ 31) (drop (at + 1) t)) → n < 2 ^ 32 → (n ≡ 0 → ⊥) → (w + n) % 2 ^ 32 ≡ 0 → w < 2 ^ 32 → Some w ≡ found (number_in t)
    unfolding low
    minus_number n w q b z p l = rw (after_minus h e) (go (natural (2 ^ 31) (drop (at + 1) t)) q)
      where
        go : (o : Option ℕ) → Some n ≡ natural_found o → Some w ≡ found (negated o)
        go none f = cc
        go (some zero) f = let x : n ≡ 0 = cc in absurd (z x)
        go (some (suc m)) f = let x : n ≡ suc m = cc in ap Some (omega arith)

pub only_spaces : (t : List ℕ) → Spaces t (length t) → None ≡ found (number_in t)
only_spaces t s =
    let n : number_in (drop (length t) t) ≡ none = rw (drop-length t) number-empty in
    sym (ap found (after_spaces t (length t) s ∙ n))

-- the word of a number, 0 where there is none
pub found_word : (o : Option ℤ) → unwrap_or (found o) 0 ≡ word_of o
found_word none = refl
found_word (some z) = refl
