-- Which trees are circuits: the arity rules as tests of the counted inputs and outputs, and the ranges of the fields.
use Rattle.std.specs.Prelude.{ℕ, ◌*◌, ◌≤◌, ◌<◌, ◌^◌, ◌≡◌}
use Rattle.word.specs.Limits.{control_count, longest_delay}
use Rattle.word.specs.Operation.{operands}
use Rattle.arity.specs.Tree.{Tree, Primitive, Composition, ins, outs}
use Rattle.arity.specs.Tree.Tree.{leaf, join, ondemand}
use Rattle.arity.specs.Tree.Primitive.{number, control, operation, delay, cable, cut}
use Rattle.arity.specs.Tree.Composition.{sequence, parallel, split, merge, recursion}

-- n is k times b for some k ≥ 1, for split and merge; "k ≥ 1" is the document's, where 004 has any k
abbrev pub Times : ℕ → ℕ → Type 0
Times b n = (k : ℕ) × (1 ≤ k) × (k * b ≡ n)

-- the used fields are in range
abbrev pub Known : Primitive → Type 0
Known (number v) = v < 2 ^ 32
Known (control s) = s < control_count
Known (operation o) = 0 < operands o
Known (delay d) = d ≤ longest_delay
Known cable = Unit {0}
Known cut = Unit {0}

-- what the rule of a composition asks of its two sides
abbrev pub Fits : Composition → Tree → Tree → Type 0
Fits sequence l r = outs l ≡ ins r
Fits parallel l r = Unit {0}
Fits split l r = Times (outs l) (ins r)
Fits merge l r = Times (ins r) (outs l)
Fits recursion l r = (ins r ≤ outs l) × (outs r ≤ ins l)

-- each composition fits
unfoldable pub Ruled : Tree → Type 0
Ruled (leaf i p) = Unit {0}
Ruled (join i c l r) = Ruled l × Ruled r × Fits c l r
Ruled (ondemand i b) = Ruled b

-- and the fields are in range
unfoldable pub WellFormed : Tree → Type 0
WellFormed (leaf i p) = Known p
WellFormed (join i c l r) = WellFormed l × WellFormed r × Fits c l r
WellFormed (ondemand i b) = WellFormed b
