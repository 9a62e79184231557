-- What a wire shows: an output of a node, and its value after a history.
use Rattle.std.specs.Prelude.{ℕ, List, [], ◌∷◌, map, get_or}
use Rattle.word.specs.Tick.{head_or}
use Rattle.arity.specs.Tree.{Tree}
use Rattle.arity.specs.Nodes.{subtree}
use Rattle.signal.specs.Signal.{History, Processor, signal}
use Rattle.signal.specs.History.{own}

-- "a node and an output of it, counted from 0"
pub record Probe : Type 0 where
  pub node : ℕ
  pub output : ℕ

-- the output at the node's latest own tick, 0 where there was none: "a wire inside an on-demand body shows its value at the latest demand that reached it,
-- and 0 before that"
unfoldable pub wire_after : Tree → History → Probe → ℕ
unfolding signal own subtree
wire_after t h p = get_or (head_or [] (signal (subtree t p.node) (own t h p.node))) p.output 0

-- "tick by tick, and within a tick in the order named": what the probes show at each tick, the latest first
unfoldable pub watched : Tree → List Probe → Processor
unfolding wire_after
watched t ps [] = []
watched t ps (f ∷ h) = map (wire_after t (f ∷ h)) ps ∷ watched t ps h
