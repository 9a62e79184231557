-- Demand 3 at ticks without demand: an ondemand cable with the clock 0 -1 0 and the input 5 7 9, in one run. It gives 0 7 7.
use Prim.Native.Nat.{ℕ, ◌-◌, ◌^◌}
use mathlib.Core.Path.{◌≡◌, refl, ap, ◌∙◌}
use mathlib.Core.Logic.{inl}
use mathlib.Core.List.{List, [], ◌∷◌}
use native.Mathlib.Omega.{arith}
use Rattle.word.specs.Tick.{Tick, tick, zeros}
use Rattle.word.specs.Operation.{demand}
use Rattle.cells.specs.Load.{loaded}
use Rattle.arity.specs.Tree.{ins, outs}
use Rattle.arity.specs.Tree.Tree.{leaf}
use Rattle.arity.specs.Tree.Primitive.{cable}
use Rattle.arity.specs.Table.{nodes, circuit, tree, tree_at}
use Rattle.arity.specs.Nodes.{Numbered, subtree, cells_before}
use Rattle.arity.proofs.Borders.{ondemand_cable}
use Rattle.signal.specs.Signal.{History, signal}
use Rattle.signal.specs.History.{own as own_history}
use Rattle.calls.specs.Calls.{Arguments, Program, Element, history, OthersRefused, answer_to}
use Rattle.calls.specs.Calls.Element.{own}
use Rattle.calls.specs.Law.{TickByTick, Quiet, AcceptedAfter, cut_after, node_cells, latest_outputs}
use Rattle.translator.specs.Translated.{translated}
use Rattle.engine.specs.Runs.{run_of}
use Rattle.engine.proofs.Borders.{ondemand_lawful}

abbrev program : Program
program = run_of (translated ondemand_cable)

abbrev run : Arguments
run = record { ticks = 3; inputs = 0 ∷ 5 ∷ (2 ^ 32 - 1) ∷ 7 ∷ 0 ∷ 9 ∷ []; controls = zeros 16; outputs = zeros 3; lent = 1 }

abbrev block : List ℕ
block = (loaded 1 (3 ∷ [])).buffer

abbrev cut : ℕ → List Element
cut j = cut_after (nodes ondemand_cable) (circuit ondemand_cable) program 0 [] run j

others_refused : OthersRefused program 0 block (own run ∷ [])
unfolding OthersRefused
others_refused = (tt, tt)

accepted : AcceptedAfter (nodes ondemand_cable) (circuit ondemand_cable) program 0 (own run ∷ []) [] run
unfolding answer_to cells_before ins outs tree
accepted = record { after = []; stands = refl; accepted = refl }

tick_by_tick_lem : TickByTick (nodes ondemand_cable) (circuit ondemand_cable) program 0 [] block [] run
unfolding loaded
tick_by_tick_lem = (ondemand_lawful (3 ∷ []) refl (own run ∷ []) others_refused).tick_by_tick [] run accepted

ticked : ℕ → ℕ → Tick
ticked clock x = tick (clock ∷ x ∷ []) (zeros 16)

-- the history after each tick
after_0 : history program 0 2 [] block (cut 0) ≡ []
unfolding ins tree history
after_0 = tick_by_tick_lem.first

after_1 : history program 0 2 [] block (cut 1) ≡ ticked 0 5 ∷ []
unfolding ins tree ticked
after_1 = tick_by_tick_lem.next 0 (omega arith) ∙ ap (λ (h : History). ticked 0 5 ∷ h) after_0

after_2 : history program 0 2 [] block (cut 2) ≡ ticked (2 ^ 32 - 1) 7 ∷ ticked 0 5 ∷ []
unfolding ins tree ticked
after_2 = tick_by_tick_lem.next 1 (omega arith) ∙ ap (λ (h : History). ticked (2 ^ 32 - 1) 7 ∷ h) after_1

abbrev QuietAt : ℕ → ℕ → Type 0
QuietAt j k = Quiet (nodes ondemand_cable) (circuit ondemand_cable) program 0 [] block (cut j) (cut k) 1 (leaf 0 cable)

-- no demand has reached the body yet
before-demand : QuietAt 0 1
unfolding Numbered subtree tree tree_at ins ticked own_history demand
before-demand = tick_by_tick_lem.quiet 0 (omega arith) 1 (leaf 0 cable) (inl refl) refl (rw after_0)

zero_held : latest_outputs (circuit ondemand_cable) 1 (leaf 0 cable) (history program 0 2 [] block (cut 1)) ≡ 0 ∷ []
unfolding outs tree tree_at own_history ins
zero_held = before-demand.zero (rw after_0)

-- and none reaches it at the last tick: the 7 stands
after-demand : QuietAt 2 3
unfolding Numbered subtree tree tree_at ins ticked own_history demand
after-demand = tick_by_tick_lem.quiet 2 (omega arith) 1 (leaf 0 cable) (inl refl) refl (rw after_2)

seven_held : node_cells (nodes ondemand_cable) (circuit ondemand_cable) program 0 block (cut 3) 1 ≡ 7 ∷ []
unfolding tree tree_at ins ticked own_history signal outs demand
seven_held = after-demand.cells 1 (inl refl) ∙ after-demand.held ∙ rw after_2

seven_given : latest_outputs (circuit ondemand_cable) 1 (leaf 0 cable) (history program 0 2 [] block (cut 3)) ≡ 7 ∷ []
unfolding tree tree_at ins ticked own_history signal outs demand
seven_given = after-demand.repeated ∙ rw after_2
