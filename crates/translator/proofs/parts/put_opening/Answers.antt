-- `translator::parts::put_opening` meets its contract.
use mathlib.Core.Path.{sym, ◌∙◌}
use Rattle.arity.specs.declared.kinds.Kind.TheVariants.{Recursion}
use Rattle.walker.proofs.ByKind.{same_kind}
use Rattle.walker.proofs.Wires.{right-inputs}
use Rattle.translator.proofs.Sides.{fed_ascends, opens_other}
use Rattle.translator.proofs.parts.put_opening.Goals as goal

pub ascending-requires : goal.ascending-requires
ascending-requires c =
    let p = c.in-Recursion.ensures.promise in
    fed_ascends p c.requires.joins (sym c.in-Recursion.ensures.value) c.cell-cell.ensures.value (right-inputs p c.requires.joins c.right.ensures.value c.inputs-q.ensures) c.args.p c.requires.room

pub returns-in_default : goal.returns-in_default
returns-in_default c = opens_other c.kind.ensures.promise c.requires.joins (λ e. c.in_default.not-Recursion (same_kind _ Recursion (c.kind.ensures.value ∙ e)))
