-- Every sample is a 32-bit word where the inputs, the controls and the numbers are.
use Prim.Native.Nat.{ℕ, zero, suc, ◌+◌, ◌-◌, ◌/◌, ◌<◌, ◌^◌}
use mathlib.Core.Bool.{Bool, true, false}
use mathlib.Core.List.{List, [], ◌∷◌, map}
use lib.ListN.{get_or, take, drop}
use Rattle.word.specs.Choice.{pick}
use Rattle.word.specs.Operation.{add}
use Rattle.word.specs.Word.{clamp}
use Rattle.word.specs.Tick.{Beam, Tick, tick, head_or, tail_of, zeros, Each, Words}
use Rattle.word.proofs.Each.{each_append, each-drop, each-head, each_tail, each_map, word_at, words-zeros, words_append, words_take, words-drop}
use Rattle.word.proofs.Low.{low_word}
use Rattle.word.proofs.Forms.{operate_word}
use Rattle.arity.specs.Tree.{Primitive, ins, outs}
use Rattle.arity.specs.Tree.Tree.{leaf, join, ondemand}
use Rattle.arity.specs.Tree.Primitive.{number, control, operation, delay, cable, cut}
use Rattle.arity.specs.Tree.Composition.{sequence, parallel, split, merge, recursion}
use Rattle.arity.specs.WellFormed.{Known, WellFormed}
use Rattle.signal.specs.Signal.{History, Processor, inputs_of, wire, rewire, beside, ago, primitive, primitives, copies, fill, sum_from, sums_from, sums, late, loop, demanded, demands, hold, signal}
use Rattle.signal.specs.Laws.{WordTick, WordHistory, KeepsWords, AllKeepWords}

head-words : (ys : List Beam) → Each Words ys → Words (head_or [] ys)
head-words ys w = each-head Words [] ys tt w

-- histories
inputs-words : (h : History) → WordHistory h → Each Words (inputs_of h)
inputs-words h w = each_map WordTick Words (λ (f : Tick). f.inputs) (λ f p. p.inputs) h w

wire-words : (h : History) (ys : List Beam) → WordHistory h → Each Words ys → WordHistory (wire h ys)
wire-words [] ys w v = tt
wire-words (f ∷ h) ys (p, w) v = (record { inputs = head-words ys v; controls = p.controls }, wire-words h (tail_of ys) w (each_tail Words ys v))

rewire-words : (g : Beam → Beam) → ((xs : Beam) → Words xs → Words (g xs)) → (h : History) → WordHistory h → WordHistory (rewire g h)
rewire-words g k h w = each_map WordTick WordTick (λ (f : Tick). tick (g f.inputs) f.controls) (λ f p. record { inputs = k f.inputs p.inputs; controls = p.controls }) h w

beside-words : (xs ys : List Beam) → Each Words xs → Each Words ys → Each Words (beside xs ys)
beside-words [] ys v w = tt
beside-words (x ∷ xs) ys (p, v) w = (words_append x (head_or [] ys) p (head-words ys w), beside-words xs (tail_of ys) v (each_tail Words ys w))

demands-words : (h : History) → WordHistory h → WordHistory (demands h)
demands-words [] w = tt
demands-words (f ∷ h) (p, w) = go (demanded f) (demands-words h w)
  where
    go : (d : Bool) → WordHistory (demands h) → WordHistory (pick d (tick (tail_of f.inputs) f.controls ∷ demands h) (demands h))
    go true v = (record { inputs = each_tail (λ x. x < 2 ^ 32) f.inputs p.inputs; controls = p.controls }, v)
    go false v = v

hold-words : (m : ℕ) (h : History) (ys : List Beam) → Each Words ys → Each Words (hold m h ys)
hold-words m [] ys w = tt
hold-words m (f ∷ h) ys w = (each-head Words (zeros m) ys (words-zeros m) w, hold-words m h (pick (demanded f) (tail_of ys) ys) (go (demanded f)))
  where
    go : (d : Bool) → Each Words (pick d (tail_of ys) ys)
    go true = each_tail Words ys w
    go false = w

-- beams
copies-words : (k : ℕ) (xs : Beam) → Words xs → Words (copies k xs)
copies-words zero xs w = tt
copies-words (suc k) xs w = words_append xs (copies k xs) w (copies-words k xs w)

sum_word : (k b acc at : ℕ) (xs : Beam) → acc < 2 ^ 32 → sum_from k b acc at xs < 2 ^ 32
unfolding add
sum_word zero b acc at xs a = a
sum_word (suc k) b acc at xs a = sum_word k b (add acc (get_or xs at 0)) (at + b) xs (low_word _)

sums-words : (n k b i : ℕ) (xs : Beam) → Words xs → Words (sums_from n k b i xs)
sums-words zero k b i xs w = tt
sums-words (suc n) k b i xs w = (sum_word k b (get_or xs i 0) (i + b) xs (word_at xs i w), sums-words n k b (suc i) xs w)

late-words : (q : ℕ) (past : List Beam) → Each Words past → Each Words (late q past)
late-words q past w = each_append Words (map (take q) past) (zeros q ∷ []) (each_map Words Words (take q) (words_take q) past w) (words-zeros q, tt)

-- primitives
ago_word : (h : History) (a : ℕ) → WordHistory h → ago h a < 2 ^ 32
ago_word h a w = word_at (head_or [] (drop a (inputs_of h))) 0 (head-words (drop a (inputs_of h)) (each-drop Words a (inputs_of h) (inputs-words h w)))

primitive-words : (p : Primitive) → Known p → (f : Tick) (past : History) → WordHistory (f ∷ past) → Words (primitive p f past)
unfolding primitive
primitive-words (number v) k f past w = (k, tt)
primitive-words (control s) k f past w = (word_at f.controls s w.0.controls, tt)
primitive-words (operation o) k f past w = (operate_word o (get_or f.inputs 0 0) _ _ (word_at f.inputs 1 w.0.inputs) (word_at f.inputs 2 w.0.inputs), tt)
primitive-words (delay d) k f past w = (ago_word (f ∷ past) (clamp (get_or f.inputs 1 0) d) w, tt)
primitive-words cable k f past w = (word_at f.inputs 0 w.0.inputs, tt)
primitive-words cut k f past w = tt

primitives-words : (p : Primitive) → Known p → KeepsWords (primitives p)
unfolding primitives
primitives-words p k [] w = tt
primitives-words p k (f ∷ past) w = (primitive-words p k f past w, primitives-words p k past w.1)

-- a processor behind given beams
wired : (p : Processor) → KeepsWords p → (h : History) → WordHistory h → (ys : List Beam) → Each Words ys → Each Words (p (wire h ys))
wired p k h w ys v = k (wire h ys) (wire-words h ys w v)

loop-words : (left right : Processor) (q : ℕ) → KeepsWords left → KeepsWords right → KeepsWords (loop left right q)
unfolding loop
loop-words left right q kl kr [] w = tt
loop-words left right q kl kr (f ∷ past) w =
    let ys : List Beam = late q (loop left right q past) in
    let z : List Beam = right (wire (f ∷ past) ys) in
    wired left kl (f ∷ past) w (beside z (inputs_of (f ∷ past)))
    (beside-words z (inputs_of (f ∷ past))
    (wired right kr (f ∷ past) w ys (late-words q (loop left right q past) (loop-words left right q kl kr past w.1)))
    (inputs-words (f ∷ past) w))

-- every sample of a circuit is a word
pub words : AllKeepWords
unfolding signal WellFormed
words (leaf i p) v h w = primitives-words p v h w
words (join i sequence l r) v h w = wired (signal r) (words r v.1) h w (signal l h) (words l v.0 h w)
words (join i parallel l r) v h w =
    beside-words (signal l (rewire (take (ins l)) h)) (signal r (rewire (drop (ins l)) h))
    (words l v.0 (rewire (take (ins l)) h) (rewire-words (take (ins l)) (words_take (ins l)) h w))
    (words r v.1 (rewire (drop (ins l)) h) (rewire-words (drop (ins l)) (words-drop (ins l)) h w))
words (join i split l r) v h w =
    wired (signal r) (words r v.1) h w (map (fill (ins r) (outs l)) (signal l h))
    (each_map Words Words (fill (ins r) (outs l)) (copies-words (ins r / outs l)) (signal l h) (words l v.0 h w))
words (join i merge l r) v h w =
    wired (signal r) (words r v.1) h w (map (sums (outs l) (ins r)) (signal l h))
    (each_map Words Words (sums (outs l) (ins r)) (sums-words (ins r) (outs l / ins r - 1) (ins r) 0) (signal l h) (words l v.0 h w))
words (join i recursion l r) v h w = loop-words (signal l) (signal r) (ins r) (words l v.0) (words r v.1) h w
words (ondemand i b) v h w = hold-words (outs b) h (signal b (demands h)) (words b v (demands h) (demands-words h w))
