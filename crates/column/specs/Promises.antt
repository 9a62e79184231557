-- What the helper functions promise. No entry's contract cites these.
use Rattle.std.specs.Prelude.{ℕ, ◌<◌, ◌≡◌, ◌≢◌, Option as StdOption, MatchOption, Result, Ok, Err, get_or, List, [], ◌∷◌, eqb, length}
use Rattle.std.proofs.Math.Option.{Option, none, some}
use Rattle.refusal.specs.declared.Refusal.{Refusal}
use Rattle.refusal.specs.Answer.{Answer, refusal_of}
use Rattle.word.specs.Choice.{pick}
use Rattle.number.specs.Row.{line_feed}
use Rattle.column.specs.Line.{lines}
use Rattle.column.specs.File.{file_refusal}

-- the first line of what is left of a file
abbrev pub first_line : List ℕ → List ℕ
first_line [] = []
first_line (b ∷ bs) = pick (eqb b line_feed) (b ∷ []) (b ∷ first_line bs)

-- where the first line feed stands
abbrev pub FirstFeed : List ℕ → StdOption ℕ → Type 0
FirstFeed bytes r =
    MatchOption r ((k : ℕ) → k < length bytes → get_or bytes k 0 ≢ line_feed)
    (λ p. (p < length bytes) × (((k : ℕ) → k < p → get_or bytes k 0 ≢ line_feed) × (get_or bytes p 0 ≡ line_feed)))

-- the refusal in an answer
abbrev pub refusal_in : {A : Type 0} → Result A Refusal → Option Answer
refusal_in (Ok x) = none
refusal_in (Err r) = some (refusal_of r)

-- the lines of a file are checked and counted
pub record LinesChecked (file : List ℕ) (r : Result ℕ Refusal) : Type 0 where
  pub refusal : refusal_in r ≡ file_refusal file
  pub nodes : (n : ℕ) → r ≡ Ok n → n ≡ length (lines file)
