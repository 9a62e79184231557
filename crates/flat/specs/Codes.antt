-- The codes of instructions by their names, and the number of each in the document's table.
use Rattle.std.specs.Prelude.{ℕ}
use Rattle.flat.specs.declared.format.Code.{Code}
use Rattle.flat.specs.declared.format.Code.TheVariants.{Number, Control, Operation, Delay, Read, Write, Skip}

-- the column "code"
abbrev pub number_of : Code → ℕ
number_of Number = 1
number_of Control = 2
number_of Operation = 3
number_of Delay = 4
number_of Read = 5
number_of Write = 6
number_of Skip = 7
