-- `walker::walk_ticks` meets its contract.
use mathlib.Core.Path.{refl, sym, ◌∙◌}
use Rattle.walker.proofs.Showing.{probing}
use Rattle.walker.proofs.Walking.{watching, all-walked, stored_over}
use Rattle.walker.proofs.walk_ticks.Goals as goal

pub mark-requires : goal.mark-requires
mark-requires c = record { probing = probing c.requires.walkable.surveyed.promise c.requires.watchable.named; clear = record { is = refl } }

pub returns : goal.returns
returns c =
    all-walked c.requires.walkable c.requires.watchable (c.keep_list.ensures ∙ stored_over c.args.controls.now _ (sym c.requires.walkable.controls_are)) c.play.ensures.cells_value
    (c.play.ensures.by_index c.args.probes.now (watching c.requires.walkable c.requires.watchable c.mark.ensures))
