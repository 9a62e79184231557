-- Small tables through the definition of the check.
use Prim.Native.Nat.{ℕ}
use mathlib.Core.Path.{◌≡◌, refl}
use mathlib.Core.List.{List, [], ◌∷◌, ◌++◌}
use Rattle.word.specs.Operation.{operands}
use Rattle.refusal.specs.Answer.{Answer, refused_at}
use Rattle.refusal.specs.Answer.Answer.{counts}
use Rattle.arity.specs.Tree.{ins, outs, need, size}
use Rattle.arity.specs.Table.{tree, tree_at}
use Rattle.arity.specs.Nodes.{sum_to}
use Rattle.arity.specs.Lowest.{lowest}
use Rattle.arity.specs.Check.{checked, refusal_at, children_free, taken, rule_fits, feeds_back}

-- a table and the check's answer to it
record Sample : Type 0 where
  table : List ℕ
  answer : Answer

abbrev sample : List ℕ → Answer → Sample
sample t a = record { table = t; answer = a }

abbrev cable : List ℕ
cable = 5 ∷ 0 ∷ 0 ∷ []

-- a number into a cut, which has neither inputs nor outputs, and a cable in a loop through it
abbrev empty_loop : List ℕ
empty_loop = 1 ∷ 7 ∷ 0 ∷ 6 ∷ 0 ∷ 0 ∷ 7 ∷ 0 ∷ 1 ∷ cable ++ 11 ∷ 3 ∷ 2 ∷ []

samples : List Sample
samples =
    -- the integrator: an addition in a loop through a cable
    sample (3 ∷ 1 ∷ 0 ∷ cable ++ 11 ∷ 0 ∷ 1 ∷ []) (counts (1 ∷ 1 ∷ 3 ∷ 1 ∷ []))
    ∷ sample (4 ∷ 4095 ∷ 0 ∷ []) (counts (2 ∷ 1 ∷ 1 ∷ 4096 ∷ []))
    -- two cables merged onto one
    ∷ sample (cable ++ cable ++ 8 ∷ 0 ∷ 1 ∷ cable ++ 10 ∷ 2 ∷ 3 ∷ []) (counts (2 ∷ 1 ∷ 1 ∷ 0 ∷ []))
    -- a cut split onto a cable: no rule fits, since the left side has no outputs and the right one has an input
    ∷ sample (6 ∷ 0 ∷ 0 ∷ cable ++ 9 ∷ 0 ∷ 1 ∷ []) (refused_at 7 2)
    ∷ sample [] (refused_at 3 0)
    ∷ sample (5 ∷ []) (refused_at 3 0)
    ∷ sample (cable ++ 13 ∷ 0 ∷ 0 ∷ []) (refused_at 4 1)
    -- a selector, which is the last operation
    ∷ sample (3 ∷ 10 ∷ 0 ∷ []) (counts (3 ∷ 1 ∷ 1 ∷ 0 ∷ []))
    ∷ sample (3 ∷ 11 ∷ 0 ∷ []) (refused_at 5 0)
    ∷ sample (cable ++ 8 ∷ 0 ∷ 0 ∷ []) (refused_at 6 1)
    ∷ sample empty_loop (refused_at 16 4)
    -- a loop through a cut, which has an input, and through a number, which has an output
    ∷ sample (cable ++ 6 ∷ 0 ∷ 0 ∷ 11 ∷ 0 ∷ 1 ∷ []) (counts (1 ∷ 1 ∷ 2 ∷ 1 ∷ []))
    ∷ sample (cable ++ 1 ∷ 7 ∷ 0 ∷ 11 ∷ 0 ∷ 1 ∷ []) (counts (0 ∷ 1 ∷ 1 ∷ 0 ∷ []))
    -- 7 at node 2, and 16 at node 7; 16 at node 4, and 7 at node 7
    ∷ sample (6 ∷ 0 ∷ 0 ∷ cable ++ 9 ∷ 0 ∷ 1 ∷ 1 ∷ 7 ∷ 0 ∷ 6 ∷ 0 ∷ 0 ∷ 7 ∷ 3 ∷ 4 ∷ cable ++ 11 ∷ 6 ∷ 5 ∷ []) (refused_at 7 2)
    ∷ sample (empty_loop ++ 6 ∷ 0 ∷ 0 ∷ cable ++ 9 ∷ 5 ∷ 6 ∷ []) (refused_at 16 4)
    -- two loose nodes, and the last, which is none
    ∷ sample (cable ++ cable ++ cable) (refused_at 9 0)
    -- node 0 is the child of a late node; 1 and 3 are loose
    ∷ sample (cable ++ cable ++ cable ++ cable ++ 8 ∷ 0 ∷ 2 ∷ []) (refused_at 9 1)
    -- two cables side by side that nobody has: their root is loose, and so is the cable behind it
    ∷ sample (cable ++ cable ++ 8 ∷ 0 ∷ 1 ∷ cable ++ cable) (refused_at 9 2)
    ∷ []

all_right : List Sample → Type 0
all_right [] = Unit {0}
all_right (s ∷ ss) = (checked s.table ≡ s.answer) × all_right ss

samples-right : all_right samples
unfolding samples all_right checked lowest refusal_at children_free taken rule_fits feeds_back tree tree_at ins outs need size sum_to operands
samples-right = (refl, (refl, (refl, (refl, (refl, (refl, (refl, (refl, (refl, (refl, (refl, (refl, (refl, (refl, (refl, (refl, (refl, (refl, tt))))))))))))))))))
