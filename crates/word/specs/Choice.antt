-- Boolean tests, and a choice by one.
use Rattle.std.specs.Prelude.{ℕ, Bool, true, false}

-- the first where the test holds, else the second
abbrev pub pick : {A : Type 0} → Bool → A → A → A
pick true a b = a
pick false a b = b

infixr 6 ◌and◌
abbrev pub ◌and◌ : Bool → Bool → Bool
true and b = b
false and b = false

infixr 5 ◌or◌
abbrev pub ◌or◌ : Bool → Bool → Bool
true or b = true
false or b = b

-- "1 if .., else 0"
abbrev pub bit : Bool → ℕ
bit true = 1
bit false = 0
