-- `flat::check::results_ok` meets its contract.
use Rattle.std.proofs.Common.{rules, ◌↔◌, IsTrue, EachIndex, slice_index}
use Prim.Native.Nat.{◌<◌}
use Rattle.flat.proofs.Decoded.{below_all}
use Rattle.flat.proofs.check.results_ok.Goals as goal

pub returns : goal.returns
returns c =
    let h : IsTrue c.all.result ↔ EachIndex c.args.registers.now (λ k. slice_index c.args.registers.now k < c.args.end) = search rules in
    below_all c.args.end c.args.registers.now c.all.result h
