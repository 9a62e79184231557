-- What is proved of the meaning of every circuit.
use Rattle.std.specs.Prelude.{ℕ, ◌≡◌, true, [], ◌∷◌, length, get_or}
use Rattle.word.specs.Word.{clipped}
use Rattle.word.specs.Tick.{Tick, head_or, zeros, Each, Words}
use Rattle.arity.specs.Tree.{Tree, outs}
use Rattle.arity.specs.Tree.Tree.{leaf, ondemand}
use Rattle.arity.specs.Tree.Primitive.{delay}
use Rattle.arity.specs.Nodes.{Numbered, Distinct, subtree}
use Rattle.arity.specs.WellFormed.{WellFormed}
use Rattle.signal.specs.Signal.{History, Processor, demands, signal}
use Rattle.signal.specs.History.{own, NoDemand}
use Rattle.signal.specs.Contents.{contents}
use Rattle.signal.specs.Wire.{Probe, wire_after}
use Rattle.signal.specs.Clips.{clips}

-- a tick adds one beam to the outputs, and leaves the earlier ones as they were
pub record Causal (p : Processor) : Type 0 where
  pub empty : p [] ≡ []
  pub next : (f : Tick) (h : History) → p (f ∷ h) ≡ head_or [] (p (f ∷ h)) ∷ p h

abbrev pub AllCausal : Type 0
AllCausal = (t : Tree) → Causal (signal t)

-- each output beam has `outs` numbers
abbrev pub AllWide : Type 0
AllWide = (t : Tree) (f : Tick) (h : History) → length (head_or [] (signal t (f ∷ h))) ≡ outs t

-- "A sample is a 32-bit two's complement whole number": a tick of words, and a processor that makes words of words
pub record WordTick (f : Tick) : Type 0 where
  pub inputs : Words f.inputs
  pub controls : Words f.controls

abbrev pub WordHistory : History → Type 0
WordHistory h = Each WordTick h

abbrev pub KeepsWords : Processor → Type 0
KeepsWords p = (h : History) → WordHistory h → Each Words (p h)

abbrev pub AllKeepWords : Type 0
AllKeepWords = (t : Tree) → WellFormed t → KeepsWords (signal t)

-- what the tick f leaves as it was, where it brings no demand to the body b of the ondemand i
pub record BodyRests (t b : Tree) (i : ℕ) (f : Tick) (h : History) : Type 0 where
  -- the cells of each node of the body
  pub body : (j : ℕ) → Numbered b j → contents (subtree t j) (own t (f ∷ h) j) ≡ contents (subtree t j) (own t h j)
  -- the outputs held in the ondemand's cells
  pub held : contents (subtree t i) (own t (f ∷ h) i) ≡ contents (subtree t i) (own t h i)
  -- 0 where there was no demand yet
  pub before : length (demands (own t h i)) ≡ 0 → contents (subtree t i) (own t h i) ≡ zeros (outs b)
  -- what the wires of the body show, "and 0 before that"
  pub wires : (p : Probe) → Numbered b p.node → wire_after t (f ∷ h) p ≡ wire_after t h p
  pub wires_before : (p : Probe) → Numbered b p.node → length (demands (own t h i)) ≡ 0 → wire_after t h p ≡ 0

abbrev pub AllBodiesRest : Type 0
AllBodiesRest = (t b : Tree) → Distinct t → (i : ℕ) → Numbered t i → subtree t i ≡ ondemand i b → (f : Tick) (h : History) → NoDemand t i f h → BodyRests t b i f h

-- E6: the tick f brings an own tick, `at`, to a delay of the tree, whose amount then lies outside 0 to D
pub record ClippedDelay (t : Tree) (f : Tick) (h : History) : Type 0 where
  pub node : ℕ
  pub numbered : Numbered t node
  pub most : ℕ
  pub delays : subtree t node ≡ leaf node (delay most)
  pub at : Tick
  pub brings : own t (f ∷ h) node ≡ at ∷ own t h node
  pub outside : clipped (get_or at.inputs 1 0) most ≡ true

-- a tick counts where there is such a delay, and only there
abbrev pub ClipsSome : Type 0
ClipsSome = (t : Tree) → Distinct t → (f : Tick) (h : History) → clips t (f ∷ h) ≡ true → ClippedDelay t f h

abbrev pub SomeClips : Type 0
SomeClips = (t : Tree) → Distinct t → (f : Tick) (h : History) → ClippedDelay t f h → clips t (f ∷ h) ≡ true
