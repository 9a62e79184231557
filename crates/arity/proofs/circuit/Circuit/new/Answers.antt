use Rattle.arity.proofs.Modest.{promising}
use Rattle.arity.proofs.circuit.Circuit.new.Goals as goal

pub invariant_of-result : goal.invariant_of-result
invariant_of-result c = record { ready = c.requires; promising = promising c.requires c.are_words.ensures }
