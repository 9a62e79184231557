-- The operations by their names, and the number of each in the document's table.
use Rattle.std.specs.Prelude.{ℕ}
use Rattle.word.specs.declared.Operation.{Operation}
use Rattle.word.specs.declared.Operation.TheVariants.{Add, Subtract, Multiply, Quotient, Remainder, Less, Equal, Absolute, Negate, Select}

-- the column "op"
abbrev pub number_of : Operation → ℕ
number_of Add = 1
number_of Subtract = 2
number_of Multiply = 3
number_of Quotient = 4
number_of Remainder = 5
number_of Less = 6
number_of Equal = 7
number_of Absolute = 8
number_of Negate = 9
number_of Select = 10
