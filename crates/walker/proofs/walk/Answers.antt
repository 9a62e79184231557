-- `walker::walk` meets its contract.
use mathlib.Core.Path.{ap, ◌∙◌}
use Rattle.calls.specs.Probed.{Probed}
use Rattle.walker.proofs.SameAsWalk.{no_probes}
use Rattle.walker.proofs.walk.Goals as goal

pub returns : goal.returns
returns c = ap (λ (r : Probed). r.ran) c.walk_probed.ensures ∙ no_probes _ _ _ _ _ _
