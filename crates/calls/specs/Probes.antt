-- Probes in a tick of a circuit, over cells that hold anything.
use Rattle.std.specs.Prelude.{ℕ, List, [], ◌∷◌, ◌++◌, get_or, eqb}
use Rattle.word.specs.Choice.{pick}
use Rattle.word.specs.Tick.{Beam, Tick, tick, tail_of}
use Rattle.arity.specs.Tree.{Tree}
use Rattle.arity.specs.Tree.Tree.{leaf, join, ondemand}
use Rattle.signal.specs.Signal.{demanded}
use Rattle.signal.specs.Wire.{Probe}
use Rattle.calls.specs.Wiring.{first_side, second_side}
use Rattle.calls.specs.Step.{step, first_tick, second_tick}

-- what a probe shows once node i has given ys, where it showed v
abbrev pub noted : ℕ → Beam → Probe → ℕ → ℕ
noted i ys p v = pick (eqb i p.node) (get_or ys p.output 0) v

-- what it shows after a tick of t: each node that is worked may change it, the sides before the node; a body without demand is not worked
unfoldable pub shown : (ℕ → ℕ) → Tree → Tick → List ℕ → Probe → ℕ → ℕ
unfolding step
shown base (leaf i q) f cs p v = noted i (step base (leaf i q) f cs).outputs p v
shown base (join i c l r) f cs p v =
    let x = first_tick base i c l r f cs in
    let a = first_side c (step base l) (step base r) x cs in
    let u = first_side c (shown base l) (shown base r) x cs p v in
    noted i (step base (join i c l r) f cs).outputs p (second_side c (shown base l) (shown base r) (second_tick c l r f a.outputs) a.cells p u)
shown base (ondemand i b) f cs p v =
    noted i (step base (ondemand i b) f cs).outputs p (pick (demanded f) (shown base b (tick (tail_of f.inputs) f.controls) cs p v) v)

-- each probe with its number in the list
abbrev pub zip_with : {A B C : Type 0} → (A → B → C) → List A → List B → List C
zip_with g [] ys = []
zip_with g (x ∷ xs) [] = []
zip_with g (x ∷ xs) (y ∷ ys) = g x y ∷ zip_with g xs ys

-- the list after a tick of t
abbrev pub latest_after : (ℕ → ℕ) → Tree → List Probe → Tick → List ℕ → List ℕ → List ℕ
latest_after base t ps f cs vs = zip_with (shown base t f cs) ps vs

-- what ticks leave for the probes: the latest values, and the recording, "tick by tick, and within a tick in the order named"
pub record Noted : Type 0 where
  pub latest : List ℕ
  pub recording : List ℕ

abbrev pub noted_as : List ℕ → List ℕ → Noted
noted_as vs xs = record { latest = vs; recording = xs }

unfoldable pub recorded : (ℕ → ℕ) → Tree → List Probe → List Tick → List ℕ → List ℕ → Noted
unfolding shown
recorded base t ps [] cs vs = noted_as vs []
recorded base t ps (f ∷ fs) cs vs =
    let us = latest_after base t ps f cs vs in
    let r = recorded base t ps fs (step base t f cs).cells us in
    noted_as r.latest (us ++ r.recording)
