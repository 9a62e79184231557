-- "kind 1 to 12": the number of each kind in a table.
use Rattle.std.specs.Prelude.{ℕ}
use Rattle.arity.specs.declared.kinds.Kind.{Kind}
use Rattle.arity.specs.declared.kinds.Kind.TheVariants.{Number, Control, Operation, Delay, Cable, Cut, Sequence, Parallel, Split, Merge, Recursion, Ondemand}

abbrev pub number_of : Kind → ℕ
number_of Number = 1
number_of Control = 2
number_of Operation = 3
number_of Delay = 4
number_of Cable = 5
number_of Cut = 6
number_of Sequence = 7
number_of Parallel = 8
number_of Split = 9
number_of Merge = 10
number_of Recursion = 11
number_of Ondemand = 12
