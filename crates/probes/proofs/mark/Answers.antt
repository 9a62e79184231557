-- `probes::mark` meets its contract.
use mathlib.Core.Path.{refl}
use native.Mathlib.Omega.{arith}
use Rattle.probes.proofs.Marking.{none-marked, mark-most, has_room, room_enters, one_more}
use Rattle.probes.proofs.mark.Goals as goal

pub loop-k-init : goal.loop-k-init
loop-k-init c = none-marked _ c.requires.clear

pub first_on-f-requires : goal.first_on-f-requires
first_on-f-requires c =
    let low = c.requires.probing.nodes c.loop-k.k c.loop-k-test.true in
    (low, omega (arith, mark-most c.loop-k.invariant.marked _ low, c.requires.probing.few))

pub count_of-n-requires : goal.count_of-n-requires
count_of-n-requires c =
    let room = has_room c.requires.probing c.loop-k-test.true c.loop-k.invariant refl c.first_on-f.ensures in
    let enters = room_enters c.requires.probing c.loop-k-test.true refl room in
    (enters.first, omega (arith, enters.entry))

pub enter-requires : goal.enter-requires
enter-requires c =
    let room = has_room c.requires.probing c.loop-k-test.true c.loop-k.invariant refl c.first_on-f.ensures in
    rw c.count_of-n.ensures (room_enters c.requires.probing c.loop-k-test.true refl room)

pub loop-k-preserved : goal.loop-k-preserved
loop-k-preserved c =
    let room = has_room c.requires.probing c.loop-k-test.true c.loop-k.invariant refl c.first_on-f.ensures in
    rw (c.enter.ensures, c.count_of-n.ensures) (one_more c.requires.probing c.loop-k-test.true c.loop-k.invariant refl room)
