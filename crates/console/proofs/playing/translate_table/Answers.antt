use Rattle.word.proofs.Each.{words_of}
use Rattle.console.proofs.Bounds.{coded}
use Rattle.console.proofs.playing.translate_table.Goals as goal

pub returns : goal.returns
returns c = coded _ _ c.translate.ensures _ c.in_ok-numbers.was (words_of c.args.table.now (λ k. (c.type_inv.table k).fits)) c.translate.auto.code _ c.index.ensures
