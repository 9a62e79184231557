-- What the place with refusal 9 is: the first loose node.
use Rattle.std.specs.Prelude.{ℕ, ◌<◌, ◌≡◌, true, false, List}
use Rattle.refusal.specs.Answer.{refused_at}
use Rattle.arity.specs.Check.{loose, first_loose, checked}

-- it is loose, where any node is, and no lower node is
pub record FirstLoose (table : List ℕ) : Type 0 where
  pub is_loose : (q : ℕ) → loose table q ≡ true → loose table (first_loose table) ≡ true
  pub no_lower : (q : ℕ) → q < first_loose table → loose table q ≡ false

-- so the place that the check gives with refusal 9 is loose, and no lower node is
abbrev pub RefusedLoose : List ℕ → Type 0
RefusedLoose table = (p : ℕ) → checked table ≡ refused_at 9 p → (loose table p ≡ true) × ((q : ℕ) → q < p → loose table q ≡ false)
