-- An accepted call cut after some of its ticks is accepted, and adds just those ticks: so the law, on the list that ends with the cut call, says what the
-- cells are after each tick.
use Prim.Native.Nat.{ℕ, zero, suc, ◌+◌, ◌*◌, ◌≤◌, ◌<◌}
use mathlib.Core.Path.{◌≡◌, refl, sym, ap, ap₂, ◌∙◌}
use mathlib.Core.Bool.{Bool, true, false}
use mathlib.Core.List.{List, [], ◌∷◌, ◌++◌, reverse_aux, reverse_aux-append}
use native.Mathlib.Nat.{mul-le-mul_right, suc-mul, zero-mul}
use native.Mathlib.Omega.{arith}
use lib.ListN.{length, drop, take, length-drop}
use lib.Seq.{length-take-le, take-take, take-add, take_all, drop_at, drop-drop}
use lib.Dec.{leb}
use borrow.Author.Tests.{leb-true, le-leb, eq-eqb}
use Rattle.word.specs.Choice.{◌and◌, pick}
use Rattle.word.specs.Tick.{Tick, tick}
use Rattle.word.proofs.Lists.{first-true, second-true}
use Rattle.refusal.specs.Answer.{count, refused_all}
use Rattle.cells.specs.Block.{ticks_of, block_ok}
use Rattle.cells.proofs.Calls.{Block, block_says}
use Rattle.calls.specs.Calls.{Arguments, answer_to, tick_of, first_ticks}

-- what an accepted call has passed
record Accepts (n m k : ℕ) (a : Arguments) : Type 0 where
  block : Block n a.ticks a.inputs a.controls
  cells : k ≤ a.lent
  buffer : a.ticks * m ≤ length a.outputs

accepts : (n m k x : ℕ) (a : Arguments) → answer_to n m k a ≡ count x → Accepts n m k a
unfolding answer_to
accepts n m k x a e = go (block_ok n a.ticks a.inputs a.controls) (leb k a.lent and leb (a.ticks * m) (length a.outputs)) refl refl e
  where
    go : (b c : Bool) → block_ok n a.ticks a.inputs a.controls ≡ b → leb k a.lent and leb (a.ticks * m) (length a.outputs) ≡ c
        → pick b (pick c (count (a.ticks * m)) (refused_all 12)) (refused_all 14) ≡ count x → Accepts n m k a
    go true true p q g =
        record {
          block = block_says n a.ticks a.inputs a.controls p;
          cells = leb-true _ _ (first-true (leb k a.lent) _ q);
          buffer = leb-true _ _ (second-true (leb k a.lent) _ q);
        }
    go true false p q g = absurd (let z : ◌≡◌ {A = ℕ} 0 1 = cc in omega arith)
    go false b p q g = absurd (let z : ◌≡◌ {A = ℕ} 0 1 = cc in omega arith)

drop-first : (n j : ℕ) (inputs : List ℕ) → suc j * n ≤ length inputs → drop n (take (suc j * n) inputs) ≡ take (j * n) (drop n inputs)
drop-first n j inputs h =
    let b : suc j * n ≡ n + j * n = omega (arith, suc-mul j n) in
    rw (b, take-add n (j * n) inputs) (drop_at (take n inputs) (take (j * n) (drop n inputs)) n (length-take-le n inputs (omega (arith, suc-mul j n))))

-- one tick more of a block
ticks-next : (n j : ℕ) (controls inputs : List ℕ) → suc j * n ≤ length inputs
    → ticks_of n controls (suc j) (take (suc j * n) inputs) ≡ ticks_of n controls j (take (j * n) inputs) ++ tick (take n (drop (j * n) inputs)) controls ∷ []
ticks-next n zero controls inputs h = ap (λ (xs : List ℕ). tick xs controls ∷ []) (take-take n (1 * n) inputs (omega (arith, suc-mul 0 n)) ∙ rw zero-mul)
ticks-next n (suc j) controls inputs h =
    let a : suc (suc j) * n ≡ n + suc j * n = omega (arith, suc-mul (suc j) n) in
    let b : suc j * n ≡ n + j * n = omega (arith, suc-mul j n) in
    let r = ticks-next n j controls (drop n inputs) (omega (arith, length-drop n inputs)) in
    ap₂ {C = List Tick} (λ x fs. tick x controls ∷ fs)
    (take-take n (suc (suc j) * n) inputs (omega arith) ∙ sym (take-take n (suc j * n) inputs (omega arith)))
    (ap (ticks_of n controls (suc j)) (drop-first n (suc j) inputs h)
    ∙ r
    ∙ ap₂ {C = List Tick} (λ xs ys. ticks_of n controls j xs ++ tick (take n ys) controls ∷ []) (sym (drop-first n j inputs (omega arith))) (drop-drop (j * n) n inputs ∙ ap (λ z. drop z inputs) (sym b)))

module _ (n m k x : ℕ) (a : Arguments) (e : answer_to n m k a ≡ count x) where
  inputs_fit : (j : ℕ) → j ≤ a.ticks → j * n ≤ length a.inputs
  inputs_fit j h = rw (accepts n m k x a e).block.ins (mul-le-mul_right n h)

  pub cut-accepted : (j : ℕ) → j ≤ a.ticks → answer_to n m k (first_ticks n a j) ≡ count (j * m)
  unfolding answer_to
  cut-accepted j h =
      let p = accepts n m k x a e in
      let l : length (take (j * n) a.inputs) ≡ j * n = length-take-le (j * n) a.inputs (inputs_fit j h) in
      rw (le-leb j 4096 (omega (arith, p.block.short)), eq-eqb (length (take (j * n) a.inputs)) (j * n) l, eq-eqb (length a.controls) 16 p.block.sixteen, le-leb k a.lent p.cells, le-leb (j * m) (length a.outputs) (omega (arith, p.buffer, mul-le-mul_right m h)))

  pub whole-cut : first_ticks n a a.ticks ≡ a
  whole-cut =
      let l : length a.inputs ≤ a.ticks * n = omega (arith, (accepts n m k x a e).block.ins) in
      ap (λ xs. record { ticks = a.ticks; inputs = xs; controls = a.controls; outputs = a.outputs; lent = a.lent }) (take_all (a.ticks * n) a.inputs l)

  -- the ticks of the cut call, the latest first
  abbrev added : ℕ → List Tick → List Tick
  added j h = reverse_aux (ticks_of n a.controls j (take (j * n) a.inputs)) h

  pub adds_next : (j : ℕ) → j < a.ticks → (h : List Tick) → added (suc j) h ≡ tick_of n a j ∷ added j h
  adds_next j l h =
      ap (λ fs. reverse_aux fs h) (ticks-next n j a.controls a.inputs (inputs_fit (suc j) l))
      ∙ reverse_aux-append (ticks_of n a.controls j (take (j * n) a.inputs)) (tick_of n a j ∷ []) h
