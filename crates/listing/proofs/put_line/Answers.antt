-- `listing::put_line` meets its contract: the part of the text that is lent becomes the line.
use Rattle.word.proofs.Each.{words_of}
use Rattle.listing.proofs.Laying.{line-put}
use Rattle.listing.proofs.put_line.Goals as goal

pub returns : goal.returns
returns c =
    let s = c in
    line-put _ _ _ s.args.from (words_of s.args.numbers.now (λ k. (c.type_inv.numbers k).fits)) s.requires c.put_row.ensures
