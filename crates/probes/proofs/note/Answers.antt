-- `probes::note` meets its contract.
use mathlib.Core.Path.{refl}
use native.Mathlib.Omega.{arith}
use Rattle.probes.proofs.Noting.{row_of, row_fits, entry_shows, noting_next, none-noted, all_noted}
use Rattle.probes.proofs.note.Goals as goal

-- whichever probes have these marks

pub returns-then-mark-eq0 : goal.returns-then-mark-eq0
returns-then-mark-eq0 c = λ xs p m. none-noted p m c.args.node c.args.y c.if-mark-eq0.true

pub count_of-count-requires : goal.count_of-count-requires
count_of-count-requires c = row_fits c.requires.node_lt_most_nodes refl c.if-mark-eq0.false c.requires.marks_of

pub show-requires : goal.show-requires
show-requires c =
    let v = c.requires.marks_of in
    let i = c.loop-i.invariant v.numbers v.probing v.marked in
    rw i.long (entry_shows c.requires.node_lt_most_nodes refl c.if-mark-eq0.false c.requires.marks_of c.loop-i.i (omega (arith, c.count_of-count.ensures)))

pub loop-i-preserved : goal.loop-i-preserved
loop-i-preserved c = λ xs p m.
    rw c.show.ensures
    (noting_next ((row_of c.requires.node_lt_most_nodes refl c.if-mark-eq0.false m).entry c.loop-i.i (omega (arith, c.count_of-count.ensures))) (c.loop-i.invariant xs p m))

pub returns : goal.returns
returns c = λ xs p m. all_noted p m c.args.node c.args.y _ (omega (arith, c.if-mark-eq0.false)) (c.loop-i.invariant xs p m) (omega (arith, c.count_of-count.ensures))
