-- `walker::named::all_outputs` meets its contract.
use mathlib.Core.Path.{ap, subst₂, ◌∙◌}
use native.Mathlib.Omega.{arith}
use Rattle.std.proofs.Common.{rules, ◌<◌}
use Rattle.std.specs.Iterator.Runs.{IsChunksExactRun}
use Rattle.std.specs.Slice.Iter.{chunks_exact_rest, chunks_exact_size}
use Rattle.walker.proofs.Naming.{pairs_named}
use Rattle.walker.proofs.named.all_outputs.Goals as goal

pub returns : goal.returns
returns c =
    let ran = c.all.ensures.runs in
    let size = ap chunks_exact_size ran.1 ∙ c.chunks_exact.ensures.size in
    let some : 0 < chunks_exact_size ran.0.from = omega (arith, size) in
    pairs_named ran.0 c.args.circuit.now c.args.probes.now
    (subst₂ (λ n l. IsChunksExactRun ran.0 n l) size (ap chunks_exact_rest ran.1 ∙ c.chunks_exact.ensures.rest) (c.chunks_exact.ensures.runs ran.0 ran.0.seen some))
    (λ a r q k. search rules) (λ x b k. search rules) c.all.result ran.2
