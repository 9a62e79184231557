-- The complete result of a translation: the instructions of the whole circuit, refusal by refusal, and what the check's answer makes of it.
use Prim.Native.Nat.{ℕ, ◌+◌, ◌-◌, ◌*◌, ◌^◌, ◌≤◌, ◌<◌}
use mathlib.Core.Path.{◌≡◌, sym, ap, ap₂, ◌∙◌}
use mathlib.Core.List.{List, [], ◌∷◌, ◌++◌}
use native.Mathlib.Nat.{zero-add}
use native.Mathlib.Omega.{arith}
use borrow.Author.Tests.{le-leb, lt-leb}
use lib.Dec.{leb}
use lib.ListN.{length, get_or, take, drop}
use lib.Seq.{length-sets, sets-eq}
use Rattle.word.specs.Choice.{pick}
use Rattle.word.proofs.Each.{words_of}
use Rattle.refusal.specs.Answer.{Answer, count, refused_all}
use Rattle.refusal.specs.Answer.Answer.{counts}
use Rattle.cells.specs.Cells.{store}
use Rattle.arity.specs.Tree.{ins, outs, need}
use Rattle.arity.specs.Table.{nodes, circuit}
use Rattle.arity.specs.Check.{checked}
use Rattle.arity.specs.Survey.{surveyed}
use Rattle.arity.specs.Promise.{Node, Promise}
use Rattle.arity.specs.Ready.{Promising, Ready}
use Rattle.arity.specs.declared.counts.Counts.{Counts}
use Rattle.arity.proofs.Modest.{promises}
use Rattle.arity.proofs.Promise.{promise, rows}
use Rattle.walker.specs.Ready.{base}
use Rattle.flat.specs.Flat.{width}
use Rattle.flat.specs.Code.{numbers, encode, header, results_at}
use Rattle.flat.proofs.Encoding.{numbers-length}
use Rattle.translator.specs.Emit.{Emitted, emit, up_from}
use Rattle.translator.specs.Translated.{translation, translated}
use Rattle.translator.specs.Writing.{Room}
use Rattle.translator.specs.Parts.{emission, Emits}
use Rattle.refusal.specs.Outcome.{outcome}
use Rattle.translator.specs.Translate.{numbers_of, translates, translated_by, translated_table, Counted, Headed}
use Rattle.translator.specs.declared.place.Progress.{Progress}
use Rattle.translator.proofs.Count.{emit-outs, emit-need}
use Rattle.translator.proofs.Checked.{encoded-length}
use Rattle.translator.proofs.Writing.{sets_append}

-- the translation of the whole circuit
abbrev whole : List ℕ → Emitted
whole table = emit (base table) (circuit table) (up_from 0 (ins (circuit table))) (ins (circuit table))

-- where it begins
abbrev pub begin : List ℕ → ℕ → Progress
begin us n = record { regs = us; place = record { next = n; at = header } }

module _ {table : List ℕ} (t : Promising table) (least : 1 ≤ nodes table) where
  root : Node table (nodes table - 1)
  root = t.node (nodes table - 1) (omega (arith, least))

  whole-need : length (whole table).code ≡ need (circuit table)
  whole-need = emit-need (base table) (circuit table) (up_from 0 (ins (circuit table))) (ins (circuit table)) root.well_formed

  whole-outs : length (whole table).results ≡ outs (circuit table)
  whole-outs = emit-outs (base table) (circuit table) (up_from 0 (ins (circuit table))) (ins (circuit table)) root.well_formed

  translated-is : translated table ≡ ins (circuit table) ∷ outs (circuit table) ∷ need (circuit table) ∷ base table (nodes table) ∷ (numbers (whole table).code ++ (whole table).results)
  unfolding translated translation encode
  translated-is = rw (whole-need, whole-outs)

  translated-length : length (translated table) ≡ numbers_of table
  unfolding translated
  translated-length = encoded-length (nodes table) (circuit table) root.well_formed

module _ {table : List ℕ} {y : Counts} {c : List ℕ} (h : Headed table y c) where
  t : Promising table
  t = h.promising

  pub inputs-few : {k : ℕ} → k ≡ y.inputs → (k ≤ 32) × (0 + k ≤ 65536)
  inputs-few e = let few = (root t h.least).inputs in (omega (arith, few, h.inputs_are), omega (arith, few, h.inputs_are))

  module _ {k : ℕ} (us : List ℕ) (ek : k ≡ y.inputs) (given : take k us ≡ up_from 0 k) where
    is_whole : emission table (nodes table - 1) (begin us y.inputs) ≡ whole table
    is_whole =
        let e : take (ins (circuit table)) us ≡ up_from 0 (ins (circuit table)) = rw (ek, h.inputs_are) at given in
        ap₂ (λ (xs : List ℕ) (j : ℕ). emit (base table) (circuit table) xs j) e h.inputs_are

    pub root_room : Room (emission table (nodes table - 1) (begin us y.inputs)).code (begin us y.inputs).place c
    root_room =
        let l : length (emission table (nodes table - 1) (begin us y.inputs)).code ≡ need (circuit table) = ap (λ (x : Emitted). length x.code) is_whole ∙ whole-need t h.least in
        record { places = omega (arith, h.room); registers = omega (arith, (root t h.least).inputs, h.inputs_are, h.instructions) }

    module _ {q : Progress} {c₁ : List ℕ} {j : ℕ} (ej : j ≡ y.outputs) (w : Emits table (nodes table - 1) (begin us y.inputs) c q c₁) where
      at-end : q.place.at ≡ header + length (numbers (whole table).code)
      at-end = w.is.written.at ∙ ap (λ (x : Emitted). header + width * length x.code) is_whole ∙ ap (λ (x : ℕ). header + x) (sym (numbers-length (whole table).code))

      instructions_stored : c₁ ≡ store header (numbers (whole table).code) c
      instructions_stored = w.is.written.code ∙ ap (λ (x : Emitted). store header (numbers x.code) c) is_whole

      pub results-room : (j ≤ 32) × (q.place.at + j ≤ length c₁)
      results-room =
          let l : length c₁ ≡ length c = ap length instructions_stored ∙ length-sets c header (numbers (whole table).code) in
          (omega (arith, (root t h.least).outputs, h.outputs_are), omega (arith, at-end, h.room, numbers-length (whole table).code, whole-need t h.least, h.outputs_are))

      pub circuit_stored : {c₂ : List ℕ} → c₂ ≡ store q.place.at (take j q.regs) c₁ → c₂ ≡ store header (drop header (translated table)) c
      circuit_stored e =
          let o : take j q.regs ≡ (whole table).results =
          ap (λ (x : ℕ). take x q.regs) (ej ∙ h.outputs_are) ∙ w.is.results ∙ ap (λ (x : Emitted). x.results) is_whole in
          e
          ∙ ap₂ (λ (a : ℕ) (xs : List ℕ). store a xs c₁) at-end o
          ∙ ap (store (header + length (numbers (whole table).code)) (whole table).results) instructions_stored
          ∙ sets_append (numbers (whole table).code) (whole table).results c header
          ∙ ap (λ (xs : List ℕ). store header (drop header xs) c) (sym (translated-is t h.least))

-- the numbers as the code has them
module _ {table : List ℕ} {y : Counts} (s : Counted table y) (c : List ℕ) where
  opened : translates table c
      ≡ pick (leb y.instructions 2048)
      (pick (leb y.cells 16384)
      (pick (leb (results_at y.instructions + y.outputs) (length c)) (outcome (count (results_at y.instructions + y.outputs)) (translated table ++ drop (results_at y.instructions + y.outputs) c)) (outcome (refused_all 12) c))
      (outcome (refused_all 11) c))
      (outcome (refused_all 10) c)
  unfolding translates
  opened = rw (s.outputs_are, s.instructions_are, s.cells_are)

  pub too_long : 2048 < y.instructions → outcome (refused_all 10) c ≡ translates table c
  too_long a = sym (opened ∙ rw (lt-leb y.instructions 2048 a))

  pub too_many : y.instructions ≤ 2048 → 16384 < y.cells → outcome (refused_all 11) c ≡ translates table c
  too_many a b = sym (opened ∙ rw (le-leb y.instructions 2048 a, lt-leb y.cells 16384 b))

  module _ {k' m' : ℕ} (ek : k' ≡ y.instructions) (em : m' ≡ y.outputs) (a : y.instructions ≤ 2048) (b : y.cells ≤ 16384) where
    total : header + width * k' + m' ≡ results_at y.instructions + y.outputs
    total = ap₂ (λ (x y : ℕ). header + width * x + y) ek em

    pub too_short : length c < header + width * k' + m' → outcome (refused_all 12) c ≡ translates table c
    too_short l = let l' : length c < results_at y.instructions + y.outputs = omega (arith, total) in sym (opened ∙ rw (le-leb y.instructions 2048 a, le-leb y.cells 16384 b, lt-leb (results_at y.instructions + y.outputs) (length c) l'))

    module _ {c₁ : List ℕ} (l : header + width * k' + m' ≤ length c) (w : c₁ ≡ store 0 (y.inputs ∷ y.outputs ∷ y.instructions ∷ y.cells ∷ []) c) where
      pub headed : Headed table y c₁
      headed =
          record {
            promising = s.promising;
            least = s.least;
            instructions = omega (arith, s.instructions_are);
            inputs_are = s.inputs_are;
            outputs_are = s.outputs_are;
            room = omega (arith, total, ap length w ∙ length-sets c 0 (y.inputs ∷ y.outputs ∷ y.instructions ∷ y.cells ∷ []), s.instructions_are, s.outputs_are);
          }

      pub translated-all : {c₂ : List ℕ} → c₂ ≡ store header (drop header (translated table)) c₁ → outcome (count (header + width * k' + m')) c₂ ≡ translates table c
      translated-all {c₂} e =
          let is : translated table ≡ (y.inputs ∷ y.outputs ∷ y.instructions ∷ y.cells ∷ []) ++ drop header (translated table) =
          rw (translated-is s.promising s.least, s.inputs_are, s.outputs_are, s.instructions_are, s.cells_are) in
          let long : length (translated table) ≡ results_at y.instructions + y.outputs = translated-length s.promising s.least ∙ rw (s.instructions_are, s.outputs_are) in
          let l' : results_at y.instructions + y.outputs ≤ length c = omega (arith, total) in
          let stored : c₂ ≡ translated table ++ drop (results_at y.instructions + y.outputs) c =
          e ∙ ap (store header (drop header (translated table))) w ∙ sets_append (y.inputs ∷ y.outputs ∷ y.instructions ∷ y.cells ∷ []) (drop header (translated table)) c 0
          ∙ ap (λ (xs : List ℕ). store 0 xs c) (sym is) ∙ sets-eq (translated table) c 0 (omega (arith, long)) ∙ ap (λ (x : ℕ). translated table ++ drop x c) (zero-add (length (translated table)) ∙ long) in
          ap₂ (λ (x : ℕ) (xs : List ℕ). outcome (count x) xs) total stored ∙ sym (opened ∙ rw (le-leb y.instructions 2048 a, le-leb y.cells 16384 b, le-leb (results_at y.instructions + y.outputs) (length c) l'))

-- what the check's answer makes of it
module _ (table : List ℕ) (y : Counts) (e : counts (y.inputs ∷ y.outputs ∷ y.instructions ∷ y.cells ∷ []) ≡ checked table) (entries : (k : ℕ) → get_or table k 0 < 2 ^ 32) where
  promised : Promise table y.inputs y.outputs y.instructions y.cells
  promised = promise (sym e) (words_of table entries)

  pub ready : (shape : List ℕ) {shape' : List ℕ} → length shape ≡ 2048 → shape' ≡ surveyed table shape → Ready table shape'
  ready shape long s = record { few = promised.most; node = promised.node; row = rows shape (_, sym e) long s }

  pub counted : Counted table y
  counted =
      record {
        promising = promises promised;
        least = promised.least;
        inputs_are = promised.counted.0;
        outputs_are = promised.counted.1;
        instructions_are = promised.counted.2;
        cells_are = promised.celled;
      }

pub translated_by_lem : (table code : List ℕ) {a : Answer} → a ≡ checked table → translated_by a table code ≡ translated_table table code
unfolding translated_table
translated_by_lem table code e = ap (λ (x : Answer). translated_by x table code) e
