-- The node number falls at each call.
use Rattle.translator.proofs.emit.+emit_node.Given as goal

abbrev pub decreases-emit_node : goal.decreases-emit_node
decreases-emit_node l = l.node
