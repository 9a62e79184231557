-- The block lies within the rest.
use Rattle.std.proofs.Common.{arith}
use Rattle.player.proofs.Bounds.{read_bounded}
use Rattle.console.proofs.Bounds.{part_ends, inputs_fit}
use Rattle.console.proofs.playing.Player.play_block.Goals as goal

pub play_ticks-requires : goal.play_ticks-requires
play_ticks-requires g c =
    let read = read_bounded _ _ _ _ _ c.read_block-block.ensures in
    (read.few, inputs_fit _ c.index.ensures c.read_block-block.auto.samples read.room)

pub overflow_add-next : goal.overflow_add-next
overflow_add-next g c = omega (arith, part_ends _ _ _ c.requires.order (read_bounded _ _ _ _ _ c.read_block-block.ensures).within, c.requires.within)

pub read_on-requires : goal.read_on-requires
read_on-requires g c = record { order = part_ends _ _ _ c.requires.order (read_bounded _ _ _ _ _ c.read_block-block.ensures).within; within = c.requires.within }

pub returns-in-Full : goal.returns-in-Full
returns-in-Full g c = record { order = part_ends _ _ _ c.requires.order (read_bounded _ _ _ _ _ c.read_block-block.ensures).within; within = c.requires.within }

pub returns-in-Control : goal.returns-in-Control
returns-in-Control g c = record { order = part_ends _ _ _ c.requires.order (read_bounded _ _ _ _ _ c.read_block-block.ensures).within; within = c.requires.within }
