-- Demand 3 on one list, clause by clause: the integrator with 1 2 3 4 in two blocks, and between them a run that is lent no cell, one whose inputs are too few,
-- and refused calls of other kinds. The runs write 1 3 6 10.
use Prim.Native.Nat.{ℕ}
use mathlib.Core.Path.{◌≡◌, refl, ap, ◌∙◌}
use mathlib.Core.List.{List, [], ◌∷◌, ◌++◌}
use native.Mathlib.Omega.{arith}
use lib.IntN.{pos}
use lib.ListN.{drop}
use Rattle.word.specs.Word.{value, low}
use Rattle.word.specs.Operation.{operands, add}
use Rattle.word.specs.Tick.{Tick, tick, zeros}
use Rattle.refusal.specs.Refusals.{no_place}
use Rattle.refusal.specs.Answer.{count, refused_all}
use Rattle.cells.specs.Load.{loaded}
use Rattle.cells.specs.Block.{counted, without_report, called, answered, played, refusal}
use Rattle.cells.proofs.Calls.{unreported, refused_has_none}
use Rattle.arity.specs.Tree.{ins, outs}
use Rattle.arity.specs.Table.{nodes, circuit, tree}
use Rattle.arity.specs.Nodes.{cells_before}
use Rattle.arity.specs.Check.{checked}
use Rattle.arity.proofs.Borders.{integrator}
use Rattle.signal.specs.Signal.{History}
use Rattle.signal.specs.Contents.{cells_after}
use Rattle.flat.specs.Code.{decode, code_tick}
use Rattle.flat.specs.Check.{instruction_ok, instructions_ok, code_ok}
use Rattle.flat.specs.Flat.{worked, execute}
use Rattle.flat.specs.Run.{ran}
use Rattle.calls.specs.Calls.{Arguments, Program, Element, events, left, written, history, OthersRefused, answer_to, first_ticks}
use Rattle.calls.specs.Calls.Element.{own, other}
use Rattle.calls.specs.Law.{samples_after, TickByTick, LawfulThroughout, AcceptedAfter, cut_after}
use Rattle.calls.specs.Loads.{load_call}
use Rattle.calls.proofs.Loads.{refused_load}
use Rattle.walker.specs.Walk.{walked_table}
use Rattle.walker.specs.Walks.{walk_call}
use Rattle.walker.proofs.WalkList.{refused-walk}
use Rattle.translator.specs.Translated.{translated}
use Rattle.engine.specs.Runs.{run_of, run_call}
use Rattle.engine.proofs.Demand3.{refused_run}
use Rattle.engine.proofs.Borders.{integrator_lawful}

abbrev arguments : ℕ → List ℕ → List ℕ → ℕ → Arguments
arguments ticks inputs outputs lent = record { ticks = ticks; inputs = inputs; controls = zeros 16; outputs = outputs; lent = lent }

-- an output buffer with a number more than its samples, and one that is just long enough
abbrev first : Arguments
first = arguments 2 (1 ∷ 2 ∷ []) (5 ∷ 6 ∷ 7 ∷ []) 2

abbrev without_cells : Arguments
without_cells = arguments 2 (1 ∷ 2 ∷ []) (0 ∷ 0 ∷ []) 0

abbrev last : Arguments
last = arguments 2 (3 ∷ 4 ∷ []) (0 ∷ 0 ∷ []) 1

abbrev program : Program
program = run_of (translated integrator)

abbrev between : List Element
between =
    own without_cells
    ∷ own (arguments 2 (1 ∷ []) (0 ∷ 0 ∷ []) 2)
    ∷ other (load_call 16385 0 1)
    ∷ other (walk_call [] first 0)
    ∷ other (run_call [] first 1)
    ∷ own last
    ∷ []

abbrev list : List Element
list = own first ∷ between

-- cells that held something
abbrev block : List ℕ
block = (loaded 1 (7 ∷ 9 ∷ [])).buffer

others_refused : OthersRefused program 0 block list
unfolding OthersRefused loaded walked_table checked ran code_ok
others_refused = (tt, (tt, (tt, (refused_load 16385 0 1 _ 11 no_place refl, (refused-walk [] first _ 3 (pos 0) 0 refl, (refused_run [] first 1 _ 13 no_place refl, (tt, tt)))))))

lawful : LawfulThroughout (nodes integrator) (circuit integrator) program 0 [] block list
unfolding loaded
lawful = integrator_lawful (7 ∷ 9 ∷ []) refl list others_refused

ticked : ℕ → Tick
ticked x = tick (x ∷ []) (zeros 16)

-- "An accepted one adds its ticks .. to the history": the latest first
all-ticks : history program 0 1 [] block list ≡ ticked 4 ∷ ticked 3 ∷ ticked 2 ∷ ticked 1 ∷ []
unfolding history loaded walked_table checked ran code_ok called answered played code_tick decode translated tree execute worked instruction_ok instructions_ok operands ticked
all-ticks = refl

-- "the samples that its accepted runs wrote are, in order, exactly those of the same meaning"
runs_write : written program 0 block list ≡ 1 ∷ 3 ∷ 6 ∷ 10 ∷ []
unfolding samples_after tree operands add value low ticked
runs_write = lawful.whole.meaning ∙ ap (samples_after 0 (circuit integrator)) all-ticks

-- "each cell then holds exactly what the document gives for it"; the cell behind is as it was
cells-after : left program 0 block list ≡ 10 ∷ 9 ∷ []
unfolding cells_after cells_before ins tree operands add value low ticked loaded
cells-after = lawful.whole.cells ∙ ap (λ h. cells_after 3 (circuit integrator) h ++ 9 ∷ []) all-ticks

-- "refused exactly where row 14 or 12 says so"; an accepted one "answers with their count"
first-answer : without_report (program first block).answer ≡ count 2
unfolding events loaded answer_to cells_before ins tree operands
first-answer = lawful.whole.answers.0

second-answer : (program without_cells []).answer ≡ refused_all 12
unfolding events loaded answer_to cells_before ins tree operands
second-answer = refused_has_none _ 12 no_place lawful.whole.answers.1.0

-- a refused run has written nothing
second-nothing : program without_cells [] ≡ refusal 12 [] (0 ∷ 0 ∷ [])
unfolding events
second-nothing = lawful.whole.refusals.1.0 12 no_place second-answer

-- "A buffer longer than needed keeps its content past the needed part."
rest-kept : drop 2 (program first block).outputs ≡ 7 ∷ []
unfolding events loaded
rest-kept = let two : counted (program first block).answer ≡ 2 = unreported counted (λ ks. refl) (program first block).answer ∙ ap counted first-answer in rw two at lawful.whole.buffers.0

-- "The cells after a tick are those that the list leaves when it is cut after that tick."
first-accepted : AcceptedAfter (nodes integrator) (circuit integrator) program 0 list [] first
unfolding answer_to cells_before ins outs tree operands
first-accepted = record { after = between; stands = refl; accepted = refl }

abbrev cut : ℕ → List Element
cut j = cut_after (nodes integrator) (circuit integrator) program 0 [] first j

tick_by_tick_lem : TickByTick (nodes integrator) (circuit integrator) program 0 [] block [] first
tick_by_tick_lem = lawful.tick_by_tick [] first first-accepted

one-tick : history program 0 1 [] block (cut 1) ≡ ticked 1 ∷ []
unfolding ins tree operands ticked history
one-tick = tick_by_tick_lem.next 0 (omega arith) ∙ ap (λ (h : History). ticked 1 ∷ h) tick_by_tick_lem.first

cells_after_one : left program 0 block (cut 1) ≡ 1 ∷ 9 ∷ []
unfolding cells_after cells_before ins tree operands add value low ticked loaded
cells_after_one = (tick_by_tick_lem.cut 1 (omega arith)).cells ∙ ap (λ h. cells_after 3 (circuit integrator) h ++ 9 ∷ []) one-tick

whole_again : first_ticks 1 first 2 ≡ first
unfolding ins tree operands
whole_again = tick_by_tick_lem.last
