-- What an entry answers, in the document's numbers: the counts that the call calls for, or a refusal.
use Rattle.std.specs.Prelude.{ℕ, List, [], ◌∷◌, ℤ, pos, Result, Ok, Err}
use Rattle.refusal.specs.declared.Refusal.{Refusal}
use Rattle.refusal.specs.Refusals.{number_of, place_of, no_place}

pub data Answer : Type 0 where
  -- a count, or the check's four numbers
  counts : List ℕ → Answer
  -- number and place
  refused : ℕ → ℤ → Answer

abbrev pub count : ℕ → Answer
count n = counts (n ∷ [])

-- the answer that a refusal stands for
abbrev pub refusal_of : Refusal → Answer
refusal_of r = refused (number_of r) (place_of r)

-- what a call answers that counts one thing or is refused
abbrev pub answer_of : Result ℕ Refusal → Answer
answer_of (Ok n) = count n
answer_of (Err r) = refusal_of r

-- refusal n at a line or node, and one without a place
abbrev pub refused_at : ℕ → ℕ → Answer
refused_at n p = refused n (pos p)

abbrev pub refused_all : ℕ → Answer
refused_all n = refused n no_place
