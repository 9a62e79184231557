-- The scan of a column's bytes, one step a law: where a number begins, its next digit, and its end.
use Prim.Native.Nat.{ℕ, ◌+◌, ◌-◌, ◌*◌, ◌/◌, ◌≤◌, ◌<◌}
use mathlib.Core.Path.{◌≡◌, refl, sym, ap, ◌∙◌}
use mathlib.Core.Bool.{Bool, true, false}
use mathlib.Core.List.{List, [], ◌∷◌}
use mathlib.Core.Logic.{◌≢◌}
use mathlib.Core.Option.{none, some}
use native.Mathlib.Numerals.{add-one}
use native.Mathlib.Omega.{arith}
use lib.Dec.{leb}
use Rattle.std.specs.Bool.{then_some}
use Rattle.word.specs.Choice.{pick}
use lib.ListN.{length, get_or, take, drop, length-drop, drop_of_length-le}
use lib.Seq.{drop-cons, take_all}
use Rattle.number.specs.Promises.{natural, natural_found}
use Rattle.number.proofs.Parse.{run, run_digit, run_other, run_large, natural_run, natural-zero, natural-empty}

pub drop_at : (t : List ℕ) (at : ℕ) → at < length t → drop at t ≡ get_or t at 0 ∷ drop (at + 1) t
drop_at t at h = drop-cons t at 0 h ∙ ap {B = List ℕ} (λ k. get_or t at 0 ∷ drop k t) (sym (add-one at))

-- what is lent from `at` on
pub rest_lent : (t : List ℕ) (at : ℕ) → take (length t - at) (drop at t) ≡ drop at t
rest_lent t at = take_all (length t - at) (drop at t) (omega (arith, length-drop at t))

pub natural-end : (most : ℕ) (t : List ℕ) → length t ≤ 0 → natural most t ≡ none
natural-end most [] h = natural-empty most
natural-end most (b ∷ bs) h = absurd (omega arith)

pub natural_begins : (most : ℕ) (t : List ℕ) → 0 < length t → (get_or t 0 0 ≡ 48 → length t ≤ 1) → natural most t ≡ run most 0 t
natural_begins most [] h f = absurd (omega arith)
natural_begins most (b ∷ bs) h f = natural_run most b bs (λ e. length_zero bs (let l = f e in omega arith))
  where
    length_zero : (xs : List ℕ) → length xs ≡ 0 → xs ≡ []
    length_zero [] e = refl
    length_zero (x ∷ xs) e = absurd (omega arith)

pub natural_zero_first : (most : ℕ) (t : List ℕ) → 1 < length t → get_or t 0 0 ≡ 48 → natural most t ≡ none
natural_zero_first most [] h e = absurd (omega arith)
natural_zero_first most (b ∷ []) h e = absurd (omega arith)
natural_zero_first most (b ∷ (c ∷ bs)) h e = rw e (natural-zero most c bs)

module _ (most n at : ℕ) (t : List ℕ) (h : at < length t) where
  pub run_next : (d : ℕ) → (d < 10) × (get_or t at 0 ≡ 48 + d) → run most n (drop at t) ≡ run most (10 * n + d) (drop (at + 1) t)
  run_next d p = rw (drop_at t at h) (run_digit most n (get_or t at 0) d (drop (at + 1) t) p.0 p.1)

  pub run_stops : ((d : ℕ) → d < 10 → get_or t at 0 ≢ 48 + d) → run most n (drop at t) ≡ none
  run_stops p = rw (drop_at t at h) (run_other most n (get_or t at 0) (drop (at + 1) t) p)

  pub run_over : (d : ℕ) → (d < 10) × (get_or t at 0 ≡ 48 + d) → most / 10 < n → run most n (drop at t) ≡ none
  run_over d p l = run_next d p ∙ run_large most (10 * n + d) (drop (at + 1) t) (omega arith)

-- at its end it is the natural number, if it is not too large
pub run_ends : (most n at : ℕ) (t : List ℕ) → length t ≤ at → then_some (leb n most) n ≡ natural_found (run most n (drop at t))
unfolding run
run_ends most n at t h = rw (drop_of_length-le t h) (go (leb n most))
  where
    go : (b : Bool) → then_some b n ≡ natural_found (pick b (some n) none)
    go true = refl
    go false = refl
