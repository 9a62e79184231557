-- The translation of a circuit into instructions.
use Rattle.std.specs.Prelude.{ℕ, zero, suc, ◌+◌, ◌-◌, ◌/◌, List, [], ◌∷◌, ◌++◌, length, get_or, drop, take}
use Rattle.word.specs.Tick.{head_or, tail_of}
use Rattle.arity.specs.Tree.{Tree, ins, outs}
use Rattle.arity.specs.Tree.Tree.{leaf, join, ondemand}
use Rattle.arity.specs.Tree.Primitive.{number, control, operation, delay, cable, cut}
use Rattle.arity.specs.Tree.Composition.{sequence, parallel, split, merge, recursion}
use Rattle.signal.specs.Signal.{fill}
use Rattle.flat.specs.Flat.{Instruction}
use Rattle.flat.specs.Instructions as flat

-- instructions, and the registers of the outputs
pub record Emitted : Type 0 where
  pub code : List Instruction
  pub results : List ℕ

abbrev pub emitted : List Instruction → List ℕ → Emitted
emitted is rs = record { code = is; results = rs }

-- one instruction, whose own register n is the result
abbrev pub single : Instruction → ℕ → Emitted
single x n = emitted (x ∷ []) (n ∷ [])

-- k registers from n on
abbrev pub up_from : ℕ → ℕ → List ℕ
up_from n zero = []
up_from n (suc k) = n ∷ up_from (suc n) k

-- a read of each of the k cells from `cell` on
abbrev pub reads : ℕ → ℕ → List Instruction
reads cell zero = []
reads cell (suc k) = flat.read cell ∷ reads (suc cell) k

-- writes of the registers into the cells from `cell` on
abbrev pub writes : ℕ → List ℕ → List Instruction
writes cell [] = []
writes cell (r ∷ rs) = flat.write cell r ∷ writes (suc cell) rs

-- k more terms of one output of a merge: acc + term, from register `at` on, b apart
abbrev pub terms : ℕ → ℕ → ℕ → ℕ → List ℕ → ℕ → Emitted
terms zero b acc at xs next = emitted [] (acc ∷ [])
terms (suc k) b acc at xs next =
    let rest = terms k b next (at + b) xs (suc next) in
    emitted (flat.addition acc (get_or xs at 0) ∷ rest.code) rest.results

-- outputs i .. of a merge onto b
abbrev pub merges : ℕ → ℕ → ℕ → ℕ → List ℕ → ℕ → Emitted
merges zero k b i xs next = emitted [] []
merges (suc n) k b i xs next =
    let one = terms k b (get_or xs i 0) (i + b) xs next in
    let rest = merges n k b (suc i) xs (next + length one.code) in
    emitted (one.code ++ rest.code) (one.results ++ rest.results)

-- the translation of a tree whose inputs are the registers xs, the next register being n; base i is the first cell of node i
unfoldable pub emit : (ℕ → ℕ) → Tree → List ℕ → ℕ → Emitted
unfolding ins outs
emit base (leaf i (number v)) xs n = single (flat.number v) n
emit base (leaf i (control s)) xs n = single (flat.control s) n
emit base (leaf i (operation o)) xs n = single (flat.operation o (get_or xs 0 0) (get_or xs 1 0) (get_or xs 2 0)) n
emit base (leaf i (delay d)) xs n = single (flat.delay (get_or xs 0 0) (get_or xs 1 0) (base i) d) n
emit base (leaf i cable) xs n = emitted [] (get_or xs 0 0 ∷ [])
emit base (leaf i cut) xs n = emitted [] []
emit base (join i sequence l r) xs n =
    let a = emit base l xs n in
    let b = emit base r a.results (n + length a.code) in
    emitted (a.code ++ b.code) b.results
emit base (join i parallel l r) xs n =
    let a = emit base l (take (ins l) xs) n in
    let b = emit base r (drop (ins l) xs) (n + length a.code) in
    emitted (a.code ++ b.code) (a.results ++ b.results)
emit base (join i split l r) xs n =
    let a = emit base l xs n in
    let b = emit base r (fill (ins r) (outs l) a.results) (n + length a.code) in
    emitted (a.code ++ b.code) b.results
emit base (join i merge l r) xs n =
    let a = emit base l xs n in
    let m = merges (ins r) (outs l / ins r - 1) (ins r) 0 a.results (n + length a.code) in
    let b = emit base r m.results (n + length a.code + length m.code) in
    emitted (a.code ++ (m.code ++ b.code)) b.results
emit base (join i recursion l r) xs n =
    let q = ins r in
    let a = emit base r (up_from n q) (n + q) in
    let b = emit base l (a.results ++ xs) (n + q + length a.code) in
    emitted (reads (base i) q ++ (a.code ++ (b.code ++ writes (base i) (take q b.results)))) b.results
emit base (ondemand i b) xs n =
    let a = emit base b (tail_of xs) (n + 1) in
    let m = outs b in
    let body = a.code ++ writes (base i) a.results in
    emitted (flat.skip (head_or 0 xs) (length body) ∷ (body ++ reads (base i) m))
    (up_from (n + 1 + length body) m)
