-- Demand 3 on clipped delays: a delay of D 1 with the amounts 0, 2 and 1 in one run, a run whose inputs are too few, and -1 in a last run. The reports are 1 and 1.
use Prim.Native.Nat.{ℕ, ◌+◌, ◌-◌, ◌^◌}
use mathlib.Core.Path.{◌≡◌, refl, ap, ◌∙◌}
use mathlib.Core.List.{List, [], ◌∷◌}
use native.Mathlib.Omega.{arith}
use Rattle.word.specs.Word.{value, clipped}
use Rattle.word.specs.Tick.{Tick, tick, zeros}
use Rattle.cells.specs.Load.{loaded}
use Rattle.cells.specs.Block.{called, answered, played}
use Rattle.arity.specs.Tree.{ins, outs}
use Rattle.arity.specs.Table.{nodes, circuit, tree}
use Rattle.arity.specs.Nodes.{cells_before}
use Rattle.arity.proofs.Borders.{short_delay}
use Rattle.signal.specs.Signal.{History}
use Rattle.signal.specs.Clips.{clips, clipped_ticks}
use Rattle.flat.specs.Code.{decode, code_tick}
use Rattle.flat.specs.Check.{instruction_ok, instructions_ok, code_ok}
use Rattle.flat.specs.Flat.{worked, execute}
use Rattle.flat.specs.Run.{ran}
use Rattle.calls.specs.Calls.{Arguments, Program, Element, reported, history, OthersRefused, answer_to}
use Rattle.calls.specs.Calls.Element.{own}
use Rattle.calls.specs.Law.{TickByTick, LawfulThroughout, AcceptedAfter, cut_after}
use Rattle.translator.specs.Translated.{translated}
use Rattle.engine.specs.Runs.{run_of}
use Rattle.engine.proofs.Borders.{delay_lawful}

abbrev program : Program
program = run_of (translated short_delay)

abbrev arguments : ℕ → List ℕ → Arguments
arguments ticks inputs = record { ticks = ticks; inputs = inputs; controls = zeros 16; outputs = zeros 3; lent = 2 }

abbrev first : Arguments
first = arguments 3 (5 ∷ 0 ∷ 6 ∷ 2 ∷ 7 ∷ 1 ∷ [])

abbrev rest : List Element
rest = own (arguments 1 (8 ∷ [])) ∷ own (arguments 1 (8 ∷ (2 ^ 32 - 1) ∷ [])) ∷ []

abbrev block : List ℕ
block = (loaded 2 (3 ∷ 4 ∷ [])).buffer

others_refused : OthersRefused program 0 block (own first ∷ rest)
unfolding OthersRefused
others_refused = (tt, (tt, (tt, tt)))

lawful : LawfulThroughout (nodes short_delay) (circuit short_delay) program 0 [] block (own first ∷ rest)
unfolding loaded
lawful = delay_lawful (3 ∷ 4 ∷ []) refl (own first ∷ rest) others_refused

ticked : ℕ → ℕ → Tick
ticked x amount = tick (x ∷ amount ∷ []) (zeros 16)

all-ticks : history program 0 2 [] block (own first ∷ rest) ≡ ticked 8 (2 ^ 32 - 1) ∷ ticked 7 1 ∷ ticked 6 2 ∷ ticked 5 0 ∷ []
unfolding history loaded ran code_ok called answered played code_tick decode translated tree execute worked instruction_ok instructions_ok ticked
all-ticks = refl

-- "the reports add up to the meaning's number over all their ticks"
runs_report : 0 + reported program 0 block (own first ∷ rest) ≡ 2
unfolding clipped_ticks clips clipped value tree ticked
runs_report = lawful.whole.reports ∙ ap (clipped_ticks (circuit short_delay)) all-ticks

-- and so does what is reported where the list is cut after a tick
accepted : AcceptedAfter (nodes short_delay) (circuit short_delay) program 0 (own first ∷ rest) [] first
unfolding answer_to cells_before ins outs tree
accepted = record { after = rest; stands = refl; accepted = refl }

abbrev cut : ℕ → List Element
cut j = cut_after (nodes short_delay) (circuit short_delay) program 0 [] first j

tick_by_tick_lem : TickByTick (nodes short_delay) (circuit short_delay) program 0 [] block [] first
tick_by_tick_lem = lawful.tick_by_tick [] first accepted

one-tick : history program 0 2 [] block (cut 1) ≡ ticked 5 0 ∷ []
unfolding ins tree ticked history
one-tick = tick_by_tick_lem.next 0 (omega arith) ∙ ap (λ (h : History). ticked 5 0 ∷ h) tick_by_tick_lem.first

two-ticks : history program 0 2 [] block (cut 2) ≡ ticked 6 2 ∷ ticked 5 0 ∷ []
unfolding ins tree ticked
two-ticks = tick_by_tick_lem.next 1 (omega arith) ∙ ap (λ (h : History). ticked 6 2 ∷ h) one-tick

one_tick_reports : 0 + reported program 0 block (cut 1) ≡ 0
unfolding clipped_ticks clips clipped value tree ticked
one_tick_reports = (tick_by_tick_lem.cut 1 (omega arith)).reports ∙ ap (clipped_ticks (circuit short_delay)) one-tick

two_ticks_report : 0 + reported program 0 block (cut 2) ≡ 1
unfolding clipped_ticks clips clipped value tree ticked
two_ticks_report = (tick_by_tick_lem.cut 2 (omega arith)).reports ∙ ap (clipped_ticks (circuit short_delay)) two-ticks
