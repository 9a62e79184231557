-- `walker::named::probes_ok` meets its contract.
use borrow.Author.Tests.{eq-eqb, le-leb, lt-leb}
use Rattle.walker.proofs.Naming.{count-is}
use Rattle.walker.proofs.named.probes_ok.Goals as goal

pub returns-then-probes-le-PROBES : goal.returns-then-probes-le-PROBES
returns-then-probes-le-PROBES c = rw (eq-eqb _ _ c.if-probes-eq0.true, count-is, le-leb _ _ c.if-probes-le-PROBES.true) c.all_outputs.ensures

pub returns-else-probes-le-PROBES : goal.returns-else-probes-le-PROBES
returns-else-probes-le-PROBES c = rw (eq-eqb _ _ c.if-probes-eq0.true, count-is, lt-leb _ _ c.if-probes-le-PROBES.false)
