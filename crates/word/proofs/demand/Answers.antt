-- `word::demand` meets its contract.
use Rattle.std.proofs.Common.{refl}
use Rattle.word.specs.Operation.{demand}
use Rattle.word.proofs.demand.Goals as goal

pub returns : goal.returns
unfolding demand
returns c = refl
