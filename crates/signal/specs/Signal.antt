-- The meaning: "the circuit's outputs at each tick of the history". Histories and outputs are lists with the latest tick first.
use Rattle.std.specs.Prelude.{ℕ, zero, suc, ◌+◌, ◌-◌, ◌/◌, Bool, get_or, drop, take}
use mathlib.Core.List.{List, [], ◌∷◌, ◌++◌, map, reverse, flatten}
use Rattle.word.specs.Choice.{pick}
use Rattle.word.specs.Word.{clamp}
use Rattle.word.specs.Operation.{operate, add, demand}
use Rattle.word.specs.Tick.{Beam, Tick, tick, head_or, tail_of, zeros}
use Rattle.arity.specs.Tree.{Tree, Primitive, ins, outs}
use Rattle.arity.specs.Tree.Tree.{leaf, join, ondemand}
use Rattle.arity.specs.Tree.Primitive.{number, control, operation, delay, cable, cut}
use Rattle.arity.specs.Tree.Composition.{sequence, parallel, split, merge, recursion}

-- "A history is a list of ticks from 0, each with the circuit's inputs and 16 controls."
abbrev pub History : Type 0
History = List Tick

-- what a circuit means: its outputs at each tick of a history
abbrev pub Processor : Type 0
Processor = History → List Beam

abbrev pub inputs_of : History → List Beam
inputs_of h = map (λ (f : Tick). f.inputs) h

-- the ticks of h with other inputs
abbrev pub wire : History → List Beam → History
wire [] ys = []
wire (f ∷ h) ys = tick (head_or [] ys) f.controls ∷ wire h (tail_of ys)

-- the inputs of each tick through a function
abbrev pub rewire : (Beam → Beam) → History → History
rewire g h = map (λ (f : Tick). tick (g f.inputs) f.controls) h

-- "In a parallel the left takes the first inputs and gives the first outputs."
abbrev pub beside : List Beam → List Beam → List Beam
beside [] ys = []
beside (x ∷ xs) ys = (x ++ head_or [] ys) ∷ beside xs (tail_of ys)

-- the first input as it was a ticks ago; "every signal is 0 before tick 0"
abbrev pub ago : History → ℕ → ℕ
ago h a = get_or (head_or [] (drop a (inputs_of h))) 0 0

-- "A number gives its value, a control its slot's, a cable its input, a cut nothing." "A delay gives its first input as it was A ticks ago, A being
-- the second input now", clamped.
unfoldable pub primitive : Primitive → Tick → History → Beam
unfolding operate
primitive (number v) f past = v ∷ []
primitive (control s) f past = get_or f.controls s 0 ∷ []
primitive (operation o) f past = operate o (get_or f.inputs 0 0) (get_or f.inputs 1 0) (get_or f.inputs 2 0) ∷ []
primitive (delay d) f past = ago (f ∷ past) (clamp (get_or f.inputs 1 0) d) ∷ []
primitive cable f past = get_or f.inputs 0 0 ∷ []
primitive cut f past = []

unfoldable pub primitives : Primitive → History → List Beam
unfolding primitive
primitives p [] = []
primitives p (f ∷ past) = primitive p f past ∷ primitives p past

-- "Split repeats the whole left beam k times."
abbrev pub copies : ℕ → Beam → Beam
copies zero xs = []
copies (suc k) xs = xs ++ copies k xs

-- a beam of b signals repeated to fill n inputs
abbrev pub fill : ℕ → ℕ → Beam → Beam
fill n b xs = copies (n / b) xs

-- a sum acc, and k more terms of xs added to it, b apart, the first at `at`
abbrev pub sum_from : (k b acc at : ℕ) → Beam → ℕ
sum_from zero b acc at xs = acc
sum_from (suc k) b acc at xs = sum_from k b (add acc (get_or xs at 0)) (at + b) xs

-- n sums of suc k terms each: terms i, i+b, i+2b, .., then i+1, i+1+b, .., and so on
abbrev pub sums_from : (n k b i : ℕ) → Beam → Beam
sums_from zero k b i xs = []
sums_from (suc n) k b i xs = sum_from k b (get_or xs i 0) (i + b) xs ∷ sums_from n k b (suc i) xs

-- "Merge adds output i, i+b, i+2b and so on": m outputs onto b inputs
abbrev pub sums : ℕ → ℕ → Beam → Beam
sums m b xs = sums_from b (m / b - 1) b 0 xs

-- "its first q outputs, one tick late": at each tick those of the tick before, zeros at tick 0
abbrev pub late : ℕ → List Beam → List Beam
late q past = map (take q) past ++ (zeros q ∷ [])

-- "Recursion feeds its first q outputs, one tick late, through the right side into the first r inputs of the left, whose other inputs and all outputs
-- are the node's."
unfoldable pub loop : Processor → Processor → ℕ → Processor
loop left right q [] = []
loop left right q (f ∷ past) =
    let z = right (wire (f ∷ past) (late q (loop left right q past))) in
    left (wire (f ∷ past) (beside z (inputs_of (f ∷ past))))

-- "Ondemand takes its clock as first input."
abbrev pub demanded : Tick → Bool
demanded f = demand (head_or 0 f.inputs)

-- "an ondemand's body has the demands among the ondemand's own" ticks; "it sees inputs and controls as they are at the demand"
abbrev pub demands : History → History
demands [] = []
demands (f ∷ h) = pick (demanded f) (tick (tail_of f.inputs) f.controls ∷ demands h) (demands h)

-- "Its outputs hold between demands and are 0 before the first."
abbrev pub hold : ℕ → History → List Beam → List Beam
hold m [] ys = []
hold m (f ∷ h) ys = head_or (zeros m) ys ∷ hold m h (pick (demanded f) (tail_of ys) ys)

-- "A sequence feeds the left's outputs to the right, split and merge the repeated or added beam."
unfoldable pub signal : Tree → Processor
unfolding primitives loop ins outs
signal (leaf i p) h = primitives p h
signal (join i sequence l r) h = signal r (wire h (signal l h))
signal (join i parallel l r) h = beside (signal l (rewire (take (ins l)) h)) (signal r (rewire (drop (ins l)) h))
signal (join i split l r) h = signal r (wire h (map (fill (ins r) (outs l)) (signal l h)))
signal (join i merge l r) h = signal r (wire h (map (sums (outs l) (ins r)) (signal l h)))
signal (join i recursion l r) h = loop (signal l) (signal r) (ins r) h
signal (ondemand i b) h = hold (outs b) h (signal b (demands h))

-- all samples of a history, the first tick first
unfoldable pub samples : Tree → History → List ℕ
unfolding signal flatten
samples t h = flatten (reverse (signal t h))
