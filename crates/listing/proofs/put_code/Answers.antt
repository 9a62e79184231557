-- `listing::put_code` meets its contract: the header, the instructions, the outputs.
use mathlib.Core.Path.{refl, ap}
use Rattle.word.proofs.Each.{words_of}
use Rattle.flat.specs.Code.{results_at}
use Rattle.listing.proofs.Codes.{rest, instructions-room, outputs-room, code_put}
use Rattle.listing.proofs.put_code.Goals as goal

pub put_lines-body-requires : goal.put_lines-body-requires
put_lines-body-requires c =
    let code = c.args.code.now in
    instructions-room code c.args.text.now (words_of code (λ j. (c.type_inv.code j).fits)) c.requires _ _ c.put_line-header.ensures _ c.index-instructions.ensures _ (rest code refl)

pub put_lines-requires : goal.put_lines-requires
put_lines-requires c =
    let code = c.args.code.now in
    outputs-room code c.args.text.now (words_of code (λ j. (c.type_inv.code j).fits)) c.requires _ _ c.put_line-header.ensures _ c.index-instructions.ensures _ (rest code refl)
    _ _ c.put_lines-body.ensures _ c.index.ensures _ (rest code (ap results_at c.index-instructions.ensures))

pub returns : goal.returns
returns c =
    let code = c.args.code.now in
    code_put code c.args.text.now (words_of code (λ j. (c.type_inv.code j).fits)) c.requires _ _ c.put_line-header.ensures _ c.index-instructions.ensures _ (rest code refl)
    _ _ c.put_lines-body.ensures _ c.index.ensures _ (rest code (ap results_at c.index-instructions.ensures))
    _ _ c.put_lines.ensures
