-- The bench samples that are marked P: one table of them, and what the meaning gives for each.
use Rattle.std.specs.Prelude.{ℕ, ◌-◌, ◌^◌, ◌≡◌, replicate}
use mathlib.Core.List.{List, [], ◌∷◌, map, reverse, Memᴰ}
use Rattle.word.specs.Limits.{control_count}
use Rattle.word.specs.Tick.{Beam, tick, zeros, head_or, tail_of}
use Rattle.arity.specs.Table.{circuit, tree}
use Rattle.signal.specs.Signal.{signal}

-- a table, the inputs at each tick, and the outputs that they are to give, the first tick first; all controls are 0
pub record Sample : Type 0 where
  pub table : List ℕ
  pub inputs : List Beam
  pub outputs : List Beam

abbrev sample : List ℕ → List Beam → List Beam → Sample
sample t xs ys = record { table = t; inputs = xs; outputs = ys }

-- the meaning of a sample's circuit over its inputs
unfoldable pub meaning : Sample → List Beam
unfolding tree signal
meaning s = reverse (signal (circuit s.table) (reverse (map (λ (x : Beam). tick x (zeros control_count)) s.inputs)))

-- beams of one, of two and of three signals
abbrev one : List ℕ → List Beam
one xs = map (λ (x : ℕ). x ∷ []) xs

abbrev two : List ℕ → List ℕ → List Beam
two [] ys = []
two (x ∷ xs) ys = (x ∷ head_or 0 ys ∷ []) ∷ two xs (tail_of ys)

abbrev three : List ℕ → List ℕ → List ℕ → List Beam
three [] ys zs = []
three (x ∷ xs) ys zs = (x ∷ head_or 0 ys ∷ head_or 0 zs ∷ []) ∷ three xs (tail_of ys) (tail_of zs)

-- n ticks of a circuit with no inputs
abbrev none : ℕ → List Beam
none n = replicate n []

abbrev minus : ℕ → ℕ
minus n = 2 ^ 32 - n

unfoldable pub bench_samples : List Sample
bench_samples =
    -- the integrator
    sample (3 ∷ 1 ∷ 0 ∷ 5 ∷ 0 ∷ 0 ∷ 11 ∷ 0 ∷ 1 ∷ [])
    (one (1 ∷ 2 ∷ 3 ∷ 4 ∷ []))
    (one (1 ∷ 3 ∷ 6 ∷ 10 ∷ []))
    -- the generator: 12345,_ : + in a loop with _,1103515245 : *
    ∷ sample (1 ∷ 12345 ∷ 0 ∷ 5 ∷ 0 ∷ 0 ∷ 8 ∷ 0 ∷ 1 ∷ 3 ∷ 1 ∷ 0 ∷ 7 ∷ 2 ∷ 3 ∷ 5 ∷ 0 ∷ 0 ∷ 1 ∷ 1103515245 ∷ 0 ∷ 8 ∷ 5 ∷ 6 ∷ 3 ∷ 3 ∷ 0 ∷ 7 ∷ 7 ∷ 8 ∷ 11 ∷ 4 ∷ 9 ∷ [])
    (none 3)
    (one (12345 ∷ minus 740551042 ∷ minus 1492899873 ∷ []))
    -- the number 1 delayed by 1
    ∷ sample (1 ∷ 1 ∷ 0 ∷ 1 ∷ 1 ∷ 0 ∷ 8 ∷ 0 ∷ 1 ∷ 4 ∷ 1 ∷ 0 ∷ 7 ∷ 2 ∷ 3 ∷ [])
    (none 3)
    (one (0 ∷ 1 ∷ 1 ∷ []))
    -- 65536 times 32768
    ∷ sample (1 ∷ 65536 ∷ 0 ∷ 1 ∷ 32768 ∷ 0 ∷ 8 ∷ 0 ∷ 1 ∷ 3 ∷ 3 ∷ 0 ∷ 7 ∷ 2 ∷ 3 ∷ [])
    (none 1)
    (one (minus 2147483648 ∷ []))
    -- the merge of 1, 2, 3, 4 onto two cables
    ∷ sample (1 ∷ 1 ∷ 0 ∷ 1 ∷ 2 ∷ 0 ∷ 8 ∷ 0 ∷ 1 ∷ 1 ∷ 3 ∷ 0 ∷ 1 ∷ 4 ∷ 0 ∷ 8 ∷ 3 ∷ 4 ∷ 8 ∷ 2 ∷ 5 ∷ 5 ∷ 0 ∷ 0 ∷ 5 ∷ 0 ∷ 0 ∷ 8 ∷ 7 ∷ 8 ∷ 10 ∷ 6 ∷ 9 ∷ [])
    (none 1)
    (two (4 ∷ []) (6 ∷ []))
    -- an ondemand cable
    ∷ sample (5 ∷ 0 ∷ 0 ∷ 12 ∷ 0 ∷ 0 ∷ [])
    (two (1 ∷ 0 ∷ 0 ∷ 1 ∷ 0 ∷ 0 ∷ 0 ∷ 1 ∷ 0 ∷ []) (10 ∷ 11 ∷ 12 ∷ 13 ∷ 14 ∷ 15 ∷ 16 ∷ 17 ∷ 18 ∷ []))
    (one (10 ∷ 10 ∷ 10 ∷ 13 ∷ 13 ∷ 13 ∷ 13 ∷ 17 ∷ 17 ∷ []))
    -- an ondemand integrator
    ∷ sample (3 ∷ 1 ∷ 0 ∷ 5 ∷ 0 ∷ 0 ∷ 11 ∷ 0 ∷ 1 ∷ 12 ∷ 2 ∷ 0 ∷ [])
    (two (1 ∷ 0 ∷ 1 ∷ 1 ∷ []) (5 ∷ 6 ∷ 7 ∷ 8 ∷ []))
    (one (5 ∷ 5 ∷ 12 ∷ 20 ∷ []))
    -- an ondemand of the delayed 1
    ∷ sample (1 ∷ 1 ∷ 0 ∷ 1 ∷ 1 ∷ 0 ∷ 8 ∷ 0 ∷ 1 ∷ 4 ∷ 1 ∷ 0 ∷ 7 ∷ 2 ∷ 3 ∷ 12 ∷ 4 ∷ 0 ∷ [])
    (one (0 ∷ 1 ∷ 0 ∷ 1 ∷ []))
    (one (0 ∷ 0 ∷ 0 ∷ 1 ∷ []))
    -- an ondemand in an ondemand, the body a cable: the outer clock, the inner clock, the input
    ∷ sample (5 ∷ 0 ∷ 0 ∷ 12 ∷ 0 ∷ 0 ∷ 12 ∷ 1 ∷ 0 ∷ [])
    (three (1 ∷ 1 ∷ 0 ∷ 1 ∷ []) (1 ∷ 0 ∷ 1 ∷ 1 ∷ []) (1 ∷ 2 ∷ 3 ∷ 4 ∷ []))
    (one (1 ∷ 1 ∷ 1 ∷ 4 ∷ []))
    -- an ondemand cable, its clock 2 throughout: "repeats its input at every tick" (E1)
    ∷ sample (5 ∷ 0 ∷ 0 ∷ 12 ∷ 0 ∷ 0 ∷ [])
    (two (2 ∷ 2 ∷ 2 ∷ []) (10 ∷ 11 ∷ 12 ∷ []))
    (one (10 ∷ 11 ∷ 12 ∷ []))
    -- an ondemand cable, its clock 3 0 -1 0 2147483647 -2147483648
    ∷ sample (5 ∷ 0 ∷ 0 ∷ 12 ∷ 0 ∷ 0 ∷ [])
    (two (3 ∷ 0 ∷ minus 1 ∷ 0 ∷ 2147483647 ∷ minus 2147483648 ∷ []) (10 ∷ 11 ∷ 12 ∷ 13 ∷ 14 ∷ 15 ∷ []))
    (one (10 ∷ 10 ∷ 12 ∷ 12 ∷ 14 ∷ 15 ∷ []))
    -- an ondemand integrator, its clock the difference of two inputs: 2 0 -3 0 -2147483648
    ∷ sample (3 ∷ 2 ∷ 0 ∷ 5 ∷ 0 ∷ 0 ∷ 8 ∷ 0 ∷ 1 ∷ 3 ∷ 1 ∷ 0 ∷ 5 ∷ 0 ∷ 0 ∷ 11 ∷ 3 ∷ 4 ∷ 12 ∷ 5 ∷ 0 ∷ 7 ∷ 2 ∷ 6 ∷ [])
    (three (5 ∷ 4 ∷ 4 ∷ 2 ∷ 0 ∷ []) (3 ∷ 4 ∷ 7 ∷ 2 ∷ minus 2147483648 ∷ []) (5 ∷ 6 ∷ 7 ∷ 8 ∷ 9 ∷ []))
    (one (5 ∷ 5 ∷ 12 ∷ 12 ∷ 21 ∷ []))
    -- a selector (E4), its first 0 1 -1 -2147483648; the second times 1 less the first would wrap
    ∷ sample (3 ∷ 10 ∷ 0 ∷ [])
    (three (0 ∷ 1 ∷ minus 1 ∷ minus 2147483648 ∷ []) (2147483647 ∷ 2 ∷ 2147483647 ∷ minus 2147483648 ∷ []) (minus 2147483648 ∷ 3 ∷ minus 2147483647 ∷ 2147483646 ∷ []))
    (one (2147483647 ∷ 3 ∷ minus 2147483647 ∷ 2147483646 ∷ []))
    -- an ondemand selector, its clock its own output fed back and 1 more: 1 6 9 0 0
    ∷ sample (3 ∷ 10 ∷ 0 ∷ 12 ∷ 0 ∷ 0 ∷ 5 ∷ 0 ∷ 0 ∷ 1 ∷ 1 ∷ 0 ∷ 8 ∷ 2 ∷ 3 ∷ 3 ∷ 1 ∷ 0 ∷ 7 ∷ 4 ∷ 5 ∷ 11 ∷ 1 ∷ 6 ∷ [])
    (three (0 ∷ 1 ∷ minus 1 ∷ 0 ∷ 1 ∷ []) (5 ∷ 6 ∷ 4 ∷ 3 ∷ 2 ∷ []) (7 ∷ 8 ∷ minus 1 ∷ 9 ∷ 10 ∷ []))
    (one (5 ∷ 8 ∷ minus 1 ∷ minus 1 ∷ minus 1 ∷ []))
    ∷ []

-- "The P samples are proved from the meaning through one shared table and theorem."
abbrev pub SamplesRight : Type 0
SamplesRight = (s : Sample) → Memᴰ s bench_samples → meaning s ≡ s.outputs
