-- `walker::play` meets its contract.
use mathlib.Core.Path.{◌∙◌}
use native.Mathlib.Omega.{arith}
use Rattle.cells.proofs.Playing.{reads_fit, ends}
use Rattle.calls.specs.Probed.{probes_of}
use Rattle.walker.proofs.Showing.{watching-kept, watched-kept, noting, noted_showed}
use Rattle.walker.proofs.Recording.{record_ends}
use Rattle.walker.proofs.Ticking.{one_at_most, root_in, ticks-on, records_on}
use Rattle.walker.proofs.play.Goals as goal

-- the samples, and, whichever probes have these marks, the recording; the clipped ticks are among those played, so that their count fits a word

pub note-requires-clause-marks_of : goal.note-requires-clause-marks_of
note-requires-clause-marks_of c = (noting c.requires.playable.promise (watched-kept c.requires.recordable.watched (c.step-y.auto.latest ∙ c.loop-tick.invariant.4)) (root_in c.requires.playable)).0

pub loop-tick-preserved : goal.loop-tick-preserved
loop-tick-preserved c =
    let before = c.step-y.auto.latest ∙ c.loop-tick.invariant.4 in
    let latest = c.note.auto.latest ∙ before in (
      ticks-on c.requires.playable c.loop-tick.invariant.0 c.loop-tick-test.true c.fetched-ins.ensures c.step-y.ensures.ticked c.step-y.type_inv.1.0.1 c.keep.ensures c.bit-clips.ensures,
      c.keep.auto.cells ∙ c.loop-tick.invariant.1,
      c.step-y.auto.cells ∙ c.loop-tick.invariant.2,
      (λ xs w. records_on c.requires.playable (c.loop-tick.invariant.3 xs w) c.loop-tick-test.true (reads_fit c.loop-tick.invariant.0 (omega (arith, c.loop-tick-test.true))) c.fetched-ins.ensures c.step-y.ensures.ticked
          (noted_showed c.requires.playable.promise w (root_in c.requires.playable) before c.step-y.ensures.ticked (c.step-y.ensures.by_index xs (watching-kept w c.loop-tick.invariant.4)) c.note.ensures) latest c.keep_list.ensures),
      latest,
      c.keep_list.auto.cells ∙ c.loop-tick.invariant.5,
      omega (arith, c.loop-tick.invariant.6, one_at_most c.step-y.ensures.ticked c.bit-clips.ensures),
    )

pub returns : goal.returns
returns c = record { cells_value = ends _ _ _ _ _ _ _ _ _ _ _ _ c.loop-tick.invariant.0 (omega (arith, c.loop-tick-test.false)); by_index = λ xs w. record_ends _ _ (probes_of xs) _ _ _ _ _ _ _ _ _ _ _ (c.loop-tick.invariant.3 xs w) (omega (arith, c.loop-tick-test.false)) }
