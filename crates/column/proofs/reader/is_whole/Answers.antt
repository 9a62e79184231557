-- `column::reader::is_whole` meets its contract: the first line feed is the 41st byte.
use Rattle.std.proofs.Common.{◌∙◌}
use Rattle.column.proofs.Lines.{whole_feed}
use Rattle.column.proofs.reader.is_whole.Goals as goal

pub returns : goal.returns
returns c = c.eq.ensures ∙ whole_feed _ _ c.feed.ensures
