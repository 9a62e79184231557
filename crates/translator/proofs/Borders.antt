-- The theorems of the translator where their premises just hold: a premise that asked for more, or a conclusion that said less, would fail here.
use Prim.Native.Nat.{ℕ}
use mathlib.Core.Path.{◌≡◌, refl, ap, ◌∙◌}
use mathlib.Core.Bool.{true}
use mathlib.Core.List.{List, [], ◌∷◌, ◌++◌, append-nil}
use native.Mathlib.Omega.{arith}
use lib.Dec.{lit≤}
use lib.ListN.{length, take, drop_of_length-le}
use Rattle.word.specs.Operation.{operands}
use Rattle.word.specs.Tick.{tick}
use Rattle.refusal.specs.Answer.{count}
use Rattle.refusal.specs.Outcome.{outcome}
use Rattle.arity.specs.Tree.{Tree, ins, outs, need}
use Rattle.arity.specs.Tree.Tree.{leaf}
use Rattle.arity.specs.Tree.Primitive.{delay}
use Rattle.arity.specs.Table.{tree}
use Rattle.arity.specs.Nodes.{Complete, cells_before}
use Rattle.arity.specs.WellFormed.{WellFormed}
use Rattle.arity.proofs.Borders.{integrator, integrator_words}
use Rattle.calls.specs.Step.{step}
use Rattle.flat.specs.Code.{encode, decode, code_tick}
use Rattle.flat.specs.Check.{instruction_ok, instructions_ok, code_ok}
use Rattle.translator.specs.Translated.{translation, translated}
use Rattle.translator.specs.Translate.{numbers_of, translated_table}
use Rattle.translator.proofs.Ticks.{tick-right}
use Rattle.translator.proofs.Checked.{translation-ok}
use Rattle.translator.proofs.Delivered.{is_delivered, delivered}

-- the longest delay: outputs and cells are the circuit's, whatever the controls and the cells are and however many
abbrev longest : Tree
longest = leaf 0 (delay 4095)

longest_ticks : (x amount : ℕ) (controls cs : List ℕ)
    → code_tick (translation 1 longest) (tick (x ∷ amount ∷ []) controls) cs ≡ step (cells_before longest) longest (tick (x ∷ amount ∷ []) controls) cs
unfolding WellFormed ins
longest_ticks x amount controls cs = tick-right 1 longest (tick (x ∷ amount ∷ []) controls) cs (lit≤ tt) refl

-- a circuit as large as one can be
largest_passes : (n : ℕ) (t : Tree) → WellFormed t → Complete n t → ins t ≡ 32 → outs t ≡ 32 → need t ≡ 2048 → cells_before t n ≡ 16384 → code_ok (encode (translation n t)) ≡ true
largest_passes n t w c i o k d = translation-ok n t w c (omega arith) (omega arith) (omega arith) (omega arith)

-- a buffer with no number to spare: nothing of its content is left
exact_delivered : (table code : List ℕ) {code' : List ℕ} → outcome (count (length code)) code' ≡ translated_table table code → code' ≡ translated table
exact_delivered table code t =
    let d = is_delivered table code t in
    d.is ∙ ap (λ l. translated table ++ l) (drop_of_length-le code {i = numbers_of table} (omega (arith, d.counted))) ∙ append-nil (translated table)

-- the integrator's code, as the document prints it
abbrev printed : List ℕ
printed =
    1 ∷ 1 ∷ 3 ∷ 1
    ∷ 5 ∷ 0 ∷ 0 ∷ 0 ∷ 0 ∷ 0
    ∷ 3 ∷ 1 ∷ 1 ∷ 0 ∷ 0 ∷ 0
    ∷ 6 ∷ 0 ∷ 2 ∷ 0 ∷ 0 ∷ 0
    ∷ 2
    ∷ []

integrator_code : translated integrator ≡ printed
unfolding translated tree operands
integrator_code = refl

integrator_delivered : (code : List ℕ) {code' : List ℕ} → outcome (count 23) code' ≡ translated_table integrator code → take 23 code' ≡ printed
integrator_delivered code t = delivered integrator code t integrator_words ∙ integrator_code

integrator_passes : code_ok printed ≡ true
unfolding code_ok decode instructions_ok instruction_ok operands
integrator_passes = refl

-- the code of a selector: its fifth number 0, its sixth the third input
selector_code : translated (3 ∷ 10 ∷ 0 ∷ []) ≡ 3 ∷ 1 ∷ 1 ∷ 0 ∷ 3 ∷ 10 ∷ 0 ∷ 1 ∷ 0 ∷ 2 ∷ 3 ∷ []
unfolding translated tree operands
selector_code = refl
