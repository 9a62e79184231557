-- `flat::run_checked` meets its contract, refusal by refusal.
use mathlib.Core.Path.{refl, sym, ◌∙◌}
use Rattle.flat.proofs.Runs.{wrong_block, cells-short, outputs-short, accepted}
use Rattle.flat.proofs.run_checked.Goals as goal

pub returns-then-not-block_ok : goal.returns-then-not-block_ok
returns-then-not-block_ok c = wrong_block _ c.requires _ _ _ _ _ (sym c.block_ok.ensures ∙ c.if-not-block_ok.true)

pub returns-then-cells-count : goal.returns-then-cells-count
returns-then-cells-count c = cells-short _ c.requires _ _ _ _ _ (sym c.block_ok.ensures ∙ c.if-not-block_ok.false) c.index-count.ensures refl refl c.if-cells-count.true

pub returns-then-outputs-total : goal.returns-then-outputs-total
returns-then-outputs-total c = outputs-short _ c.requires _ _ _ _ _ (sym c.block_ok.ensures ∙ c.if-not-block_ok.false) c.index-count.ensures c.index-t.ensures c.index.ensures c.if-cells-count.false c.if-outputs-total.true

pub returns : goal.returns
returns c = accepted _ c.requires _ _ _ _ _ (sym c.block_ok.ensures ∙ c.if-not-block_ok.false) c.index-count.ensures c.index-t.ensures c.index.ensures c.if-cells-count.false c.if-outputs-total.false _ _ _ c.play-clipped.ensures
