-- One tick of a call: from the inputs of the tick to the samples that it writes.
use Prim.Native.Nat.{ℕ, ◌+◌, ◌-◌, ◌*◌, ◌≤◌, ◌<◌}
use mathlib.Core.Path.{◌≡◌, sym, ap, ap₂, subst, ◌∙◌}
use mathlib.Core.Bool.{Bool, false}
use mathlib.Core.List.{List, ◌++◌}
use native.Mathlib.Omega.{arith}
use lib.ListN.{length, take, drop}
use lib.Seq.{length-sets, length-take-le}
use Rattle.word.specs.Choice.{bit}
use Rattle.word.specs.Tick.{tick, Stepped, stepped}
use Rattle.word.proofs.Lists.{bit-few}
use Rattle.cells.specs.Cells.{part, store}
use Rattle.cells.specs.Block.{Played}
use Rattle.cells.proofs.Parts.{part-take, store_parts}
use Rattle.cells.proofs.Playing.{Playing, reads_fit, writes_fit, plays_on}
use Rattle.arity.specs.Tree.{outs}
use Rattle.arity.specs.Table.{nodes, tree, circuit}
use Rattle.calls.specs.Step.{step}
use Rattle.calls.specs.Probes.{latest_after, Noted}
use Rattle.calls.specs.Probed.{probes_of}
use Rattle.walker.specs.Ready.{base, step_of, Ticked, Playable}
use Rattle.walker.specs.Probing.{Showed}
use Rattle.walker.proofs.Recording.{Recording, record_on}

one_fewer : (ticks t : ℕ) → ticks - (t + 1) ≡ ticks - t - 1
one_fewer ticks t = omega arith

one_more : (t n : ℕ) → (t + 1) * n ≡ t * n + n
one_more t n = omega arith

-- a tick adds at most one to the clipped ones
pub one_at_most : {table controls xs cs ys cs' : List ℕ} {i k : ℕ} {told told' : Bool} → Ticked table controls i xs cs ys cs' told told' → k ≡ bit told' → k ≤ 1
one_at_most {told' = told'} t e = omega (arith, bit-few told')

module _ {table : List ℕ} {root n m ticks : ℕ} {inputs cells outputs : List ℕ} (can : Playable table root n m ticks inputs cells outputs) where
  pub root_in : root < nodes table
  root_in = omega (arith, can.last, can.least)

  pub outputs-few : m ≤ 32
  outputs-few = omega (arith, can.outputs_are, ap (λ (k : ℕ). outs (tree table k)) can.last, (can.promise.node root root_in).outputs)

  pub ticks-on : {controls : List ℕ} {target : Played} {t k r : ℕ} {os cs xs ys os' cs' : List ℕ} {told : Bool} → Playing (step_of table) inputs controls target n m (ticks - t) (t * n) (t * m) k os cs → t < ticks
      → take n xs ≡ part (t * n) n inputs → Ticked table controls root xs cs ys cs' false told → length ys ≡ 32 → os' ≡ store (t * m) (take m ys) os → r ≡ bit told
      → Playing (step_of table) inputs controls target n m (ticks - (t + 1)) ((t + 1) * n) ((t + 1) * m) (k + r) os' cs'
  ticks-on {controls} {target} {t} {k} {r} {os} {cs} {xs} {ys} {os'} {cs'} {told} p h ex tk ly eo er =
      let left : 0 < ticks - t = omega arith in
      let lz : length (take m ys) ≡ m = length-take-le m ys (omega (arith, outputs-few)) in
      let e : store (t * m) (take m ys) os ≡ take (t * m) os ++ (take m ys ++ drop (t * m + length (take m ys)) os) = store_parts (t * m) (take m ys) os (omega (arith, writes_fit p left)) in
      rw (one_fewer ticks t, one_more t n, one_more t m, er)
      (plays_on p left (take n xs) (take m ys) (drop (t * m + length (take m ys)) os) os' cs' told (ex ∙ part-take (t * n) n inputs (reads_fit p left)) ticked lz (eo ∙ e) (ap length eo ∙ length-sets os (t * m) (take m ys)))
    where
      t' : Ticked table controls (nodes table - 1) xs cs ys cs' false told
      t' = subst (λ (j : ℕ). Ticked table controls j xs cs ys cs' false told) can.last tk

      ticked : step_of table (tick (take n xs) controls) cs ≡ stepped (take m ys) cs' told
      ticked =
          ap (λ (j : ℕ). step_of table (tick (take j xs) controls) cs) can.inputs_are
          ∙ sym t'.is
          ∙ ap₂ (λ (j : ℕ) (o : Bool). stepped (take j ys) cs' o) (sym can.outputs_are) (sym t'.tells)

  -- and to what the probes show
  pub records_on : {controls probes : List ℕ} {target : Noted} {t k : ℕ} {rec cs vs xs ys rec' cs' vs' : List ℕ} {told told' : Bool}
      → Recording (base table) (circuit table) (probes_of probes) inputs controls target n k (ticks - t) (t * n) (t * k) rec cs vs → t < ticks
      → t * n + n ≤ length inputs → take n xs ≡ part (t * n) n inputs → Ticked table controls root xs cs ys cs' told told' → Showed table controls probes root xs cs vs vs' → length vs' ≡ k
      → rec' ≡ store (t * k) vs' rec → Recording (base table) (circuit table) (probes_of probes) inputs controls target n k (ticks - (t + 1)) ((t + 1) * n) ((t + 1) * k) rec' cs' vs'
  records_on {controls} {probes} {t = t} {k = k} {cs = cs} {vs} {xs} {ys} {rec'} {cs'} {vs'} {told} {told'} p h fits ex tk s lv er =
      let left : 0 < ticks - t = omega arith in
      rw (one_fewer ticks t, one_more t n, one_more t k) (record_on p left (take n xs) rec' cs' vs' (ex ∙ part-take (t * n) n inputs fits) left-cells shows lv er)
    where
      left-cells : (step (base table) (circuit table) (tick (take n xs) controls) cs).cells ≡ cs'
      left-cells =
          ap (λ (j : ℕ). (step_of table (tick (take j xs) controls) cs).cells) can.inputs_are
          ∙ sym (ap (λ (q : Stepped). q.cells) (subst (λ (j : ℕ). Ticked table controls j xs cs ys cs' told told') can.last tk).is)

      shows : vs' ≡ latest_after (base table) (circuit table) (probes_of probes) (tick (take n xs) controls) cs vs
      shows =
          (subst (λ (j : ℕ). Showed table controls probes j xs cs vs vs') can.last s).is
          ∙ ap (λ (j : ℕ). latest_after (base table) (circuit table) (probes_of probes) (tick (take j xs) controls) cs vs) (sym can.inputs_are)
