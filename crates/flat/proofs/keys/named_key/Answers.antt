-- `flat::keys::named_key` meets its contract: no operation has the number.
use Rattle.word.specs.declared.Operation.TheVariants.{Add, Subtract, Multiply, Quotient, Remainder, Less, Equal, Absolute, Negate, Select}
use Rattle.word.specs.Table.{number_of}
use Rattle.flat.proofs.Decoded.{unnumbered}
use Rattle.flat.proofs.keys.named_key.Goals as goal

pub returns-in-None : goal.returns-in-None
returns-in-None c =
    let n = unnumbered number_of c.args.op c.in-None.ensures in
    simp (n Add, n Subtract, n Multiply, n Quotient, n Remainder, n Less, n Equal, n Absolute, n Negate, n Select)
