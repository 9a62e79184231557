-- "A refusal is its number and a place: the line or node for 1 to 9, else -1"; E7: 16 "with the node as its place".
use Rattle.std.specs.Prelude.{ℕ, ℤ, pos, negsuc, Option, Some, None}
use Rattle.refusal.specs.declared.Refusal.{Refusal}
use Rattle.refusal.specs.declared.Refusal.TheVariants.{MalformedLine, WrongNodeNumber, WrongNodeCount, UnknownKind, WrongField, WrongChild, NoArityRule, TooWide, LooseNode, TooManyInstructions, TooManyCells, ShortBuffer, WrongCode, WrongBlock, WrongProbes, EmptyFeedback, TooManyJoined}

abbrev pub number_of : Refusal → ℕ
number_of (MalformedLine p) = 1
number_of (WrongNodeNumber p) = 2
number_of (WrongNodeCount p) = 3
number_of (UnknownKind p) = 4
number_of (WrongField p) = 5
number_of (WrongChild p) = 6
number_of (NoArityRule p) = 7
number_of (TooWide p) = 8
number_of (LooseNode p) = 9
number_of TooManyInstructions = 10
number_of TooManyCells = 11
number_of ShortBuffer = 12
number_of WrongCode = 13
number_of WrongBlock = 14
number_of WrongProbes = 15
number_of (EmptyFeedback p) = 16
number_of TooManyJoined = 17

abbrev pub no_place : ℤ
no_place = negsuc 0

-- by the refusal itself, not by its number: one that is added says whether it has a place
abbrev pub place_of : Refusal → ℤ
place_of (MalformedLine p) = pos p
place_of (WrongNodeNumber p) = pos p
place_of (WrongNodeCount p) = pos p
place_of (UnknownKind p) = pos p
place_of (WrongField p) = pos p
place_of (WrongChild p) = pos p
place_of (NoArityRule p) = pos p
place_of (TooWide p) = pos p
place_of (LooseNode p) = pos p
place_of TooManyInstructions = no_place
place_of TooManyCells = no_place
place_of ShortBuffer = no_place
place_of WrongCode = no_place
place_of WrongBlock = no_place
place_of WrongProbes = no_place
place_of (EmptyFeedback p) = pos p
place_of TooManyJoined = no_place

-- the place that a refusal carries, or none
abbrev pub carried_place : Option ℕ → ℤ
carried_place (Some p) = pos p
carried_place None = no_place
