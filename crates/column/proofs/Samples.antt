-- The definitions on samples, by computation: the document's integrator.
use Prim.Native.Nat.{ℕ}
use mathlib.Core.Path.{◌≡◌, refl}
use mathlib.Core.List.{List, [], ◌∷◌, ◌++◌}
use Rattle.refusal.specs.Answer.{count, refused_at, refused_all}
use Rattle.word.specs.Word.{value, low}
use Rattle.refusal.specs.Outcome.{outcome}
use Rattle.number.specs.Number.{digits, decimal, numeral, column, candidate, number_in}
use Rattle.column.specs.Line.{node_line, lines, line_refusal}
use Rattle.column.specs.File.{file_refusal, reading, line_of, count_refusal, writing}

-- the lines of the document's integrator
abbrev node₀ : List ℕ
node₀ = 32 ∷ 32 ∷ 32 ∷ 48 ∷ 32 ∷ 32 ∷ 32 ∷ 32 ∷ 32 ∷ 32 ∷ 32 ∷ 32 ∷ 32 ∷ 32 ∷ 32 ∷ 51 ∷ 32 ∷ 32 ∷ 32 ∷ 32 ∷ 32 ∷ 32 ∷ 32 ∷ 32 ∷ 32 ∷ 32 ∷ 32 ∷ 49 ∷ 32 ∷ 32 ∷ 32 ∷ 32 ∷ 32 ∷ 32 ∷ 32 ∷ 32 ∷ 32 ∷ 32 ∷ 32 ∷ 48 ∷ 10 ∷ []

abbrev node₁ : List ℕ
node₁ = 32 ∷ 32 ∷ 32 ∷ 49 ∷ 32 ∷ 32 ∷ 32 ∷ 32 ∷ 32 ∷ 32 ∷ 32 ∷ 32 ∷ 32 ∷ 32 ∷ 32 ∷ 53 ∷ 32 ∷ 32 ∷ 32 ∷ 32 ∷ 32 ∷ 32 ∷ 32 ∷ 32 ∷ 32 ∷ 32 ∷ 32 ∷ 48 ∷ 32 ∷ 32 ∷ 32 ∷ 32 ∷ 32 ∷ 32 ∷ 32 ∷ 32 ∷ 32 ∷ 32 ∷ 32 ∷ 48 ∷ 10 ∷ []

abbrev node₂ : List ℕ
node₂ = 32 ∷ 32 ∷ 32 ∷ 50 ∷ 32 ∷ 32 ∷ 32 ∷ 32 ∷ 32 ∷ 32 ∷ 32 ∷ 32 ∷ 32 ∷ 32 ∷ 49 ∷ 49 ∷ 32 ∷ 32 ∷ 32 ∷ 32 ∷ 32 ∷ 32 ∷ 32 ∷ 32 ∷ 32 ∷ 32 ∷ 32 ∷ 48 ∷ 32 ∷ 32 ∷ 32 ∷ 32 ∷ 32 ∷ 32 ∷ 32 ∷ 32 ∷ 32 ∷ 32 ∷ 32 ∷ 49 ∷ 10 ∷ []

integrator_read : reading (node₀ ++ node₁ ++ node₂) (7 ∷ 7 ∷ 7 ∷ 7 ∷ 7 ∷ 7 ∷ 7 ∷ 7 ∷ 7 ∷ 7 ∷ []) ≡ outcome (count 3) (3 ∷ 1 ∷ 0 ∷ 5 ∷ 0 ∷ 0 ∷ 11 ∷ 0 ∷ 1 ∷ 7 ∷ [])
unfolding reading file_refusal lines line_refusal number_in candidate column numeral decimal digits low
integrator_read = refl

integrator_written : writing (3 ∷ 1 ∷ 0 ∷ 5 ∷ 0 ∷ 0 ∷ 11 ∷ 0 ∷ 1 ∷ []) (node₂ ++ node₂ ++ node₂ ++ (46 ∷ [])) ≡ outcome (count 123) (node₀ ++ node₁ ++ node₂ ++ (46 ∷ []))
unfolding writing count_refusal line_of node_line column numeral decimal digits value
integrator_written = refl

-- its lines in another order, and a table that is too short
wrong_order : reading (node₀ ++ node₂) (7 ∷ []) ≡ outcome (refused_at 2 1) (7 ∷ [])
unfolding reading file_refusal lines line_refusal number_in candidate column numeral decimal digits low
wrong_order = refl

short-table : reading (node₀ ++ node₁) (7 ∷ []) ≡ outcome (refused_all 12) (7 ∷ [])
unfolding reading file_refusal lines line_refusal number_in candidate column numeral decimal digits low
short-table = refl
