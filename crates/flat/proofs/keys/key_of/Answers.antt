-- `flat::keys::key_of` meets its contract: no code has the number.
use Rattle.flat.specs.declared.format.Code.TheVariants.{Number, Control, Operation, Delay, Read, Write}
use Rattle.flat.specs.Codes.{number_of}
use Rattle.flat.proofs.Decoded.{unnumbered}
use Rattle.flat.proofs.keys.key_of.Goals as goal

pub returns-in-None : goal.returns-in-None
returns-in-None c =
    let n = unnumbered number_of c.args.x.code c.in-None.ensures in
    simp (n Number, n Control, n Operation, n Delay, n Read, n Write)
