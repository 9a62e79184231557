-- The translation is right: the code of a circuit does what a tick of the walker does.
use Prim.Native.Nat.{ℕ, zero, suc, ◌+◌, ◌-◌, ◌*◌, ◌/◌, ◌≤◌, ◌<◌}
use mathlib.Core.Path.{◌≡◌, refl, sym, ap, ◌∙◌}
use mathlib.Core.Bool.{false}
use mathlib.Core.List.{List, [], ◌∷◌, ◌++◌}
use native.Mathlib.Omega.{arith}
use lib.ListN.{length, get_or, drop, take, length-append, length-drop}
use lib.Seq.{length-take-le}
use Rattle.word.specs.Choice.{◌and◌, ◌or◌}
use Rattle.word.specs.Word.{clipped}
use Rattle.word.specs.Operation.{add, operands, demand}
use Rattle.word.specs.Tick.{tick, head_or, tail_of}
use Rattle.word.proofs.Lists.{length_tail, or_none}
use Rattle.cells.specs.Cells.{part}
use Rattle.cells.proofs.Parts.{part_length}
use Rattle.arity.specs.Tree.{Tree, ins, outs}
use Rattle.arity.specs.Tree.Tree.{leaf, join, ondemand}
use Rattle.arity.specs.Tree.Primitive.{number, control, operation, delay, cable, cut}
use Rattle.arity.specs.Tree.Composition.{sequence, parallel, split, merge, recursion}
use Rattle.arity.specs.WellFormed.{WellFormed}
use Rattle.arity.proofs.Times.{times_whole, times_least}
use Rattle.signal.specs.Signal.{fill, sums, sum_from, sums_from}
use Rattle.calls.specs.Step.{step}
use Rattle.signal.proofs.Beams.{length-fill, length-sums}
use Rattle.calls.proofs.Widths.{step-outs}
use Rattle.flat.proofs.Effects.{number_works, control_works, operation_works, addition_works, delay_works}
use Rattle.translator.specs.Emit.{writes, up_from, terms, merges, emit}
use Rattle.translator.proofs.Registers.{Holds, Reads, kept-length, kept-reads, kept-one, both_append, both_take, both_drop, both_tail, both_copies, both_at, both_head, holds-last}
use Rattle.translator.proofs.Registers.Both.{none, more}
use Rattle.translator.proofs.Pieces.{skip_do, Does, does_as, nothing, first_does, one-does, and_then, besides, still, reads_do, writes_do, length-reads}

-- a quotient with no remainder
pub whole : (q m b : ℕ) → q * b ≡ m → b ≤ m → suc (q - 1) * b ≡ m
whole zero m b e h = omega arith
whole (suc q) m b e h = let z : suc q - 1 ≡ q = omega arith in rw z e

module _ (controls : List ℕ) where
  terms_do : (k b acc at n a : ℕ) {xs vs : List ℕ} (ρ cs : List ℕ) → length ρ ≡ n → Holds ρ acc a → at + k * b < length vs + b → Reads ρ xs vs
      → Does controls (terms k b acc at xs n).code (terms k b acc at xs n).results ρ cs (sum_from k b a at vs ∷ []) cs false
  terms_do zero b acc at n a ρ cs e h l r = nothing controls (more h none)
  terms_do (suc k) b acc at n a {xs} {vs} ρ cs e h l r =
      let s : ℕ = add a (get_or vs at 0) in
      let i : at < length vs = omega arith in
      first_does controls (addition_works controls ρ cs acc (get_or xs at 0) h.value (both_at at i r).value) refl
      (terms_do k b n (at + b) (suc n) s (ρ ++ (s ∷ [])) cs (omega (arith, length-append ρ (s ∷ []))) (holds-last ρ s n e) (omega arith) (kept-reads (kept-one ρ s) r))

  merges_do : (m k b i n : ℕ) {xs vs : List ℕ} (ρ cs : List ℕ) → length ρ ≡ n → m + i ≤ b → suc k * b ≡ length vs → Reads ρ xs vs
      → Does controls (merges m k b i xs n).code (merges m k b i xs n).results ρ cs (sums_from m k b i vs) cs false
  merges_do zero k b i n ρ cs e h l r = nothing controls none
  merges_do (suc m) k b i n {xs} {vs} ρ cs e h l r =
      let one = terms k b (get_or xs i 0) (i + b) xs n in
      and_then controls (terms_do k b (get_or xs i 0) (i + b) n (get_or vs i 0) ρ cs e (both_at i (omega arith) r) (omega arith) r)
      (λ ρ' g o. besides controls o (merges_do m k b (suc i) (n + length one.code) ρ' cs (omega (arith, kept-length g)) (omega arith) l (kept-reads g r)))

-- the code of t does what a tick of t does
module _ (base : ℕ → ℕ) (controls : List ℕ) where
  abbrev pub Right : Tree → (xs vs : List ℕ) → ℕ → (ρ cs : List ℕ) → Type 0
  Right t xs vs n ρ cs =
      Does controls (emit base t xs n).code (emit base t xs n).results ρ cs
      (step base t (tick vs controls) cs).outputs (step base t (tick vs controls) cs).cells (step base t (tick vs controls) cs).clipped

  pub right : (t : Tree) (xs vs : List ℕ) (n : ℕ) (ρ cs : List ℕ) → WellFormed t → length ρ ≡ n → length vs ≡ ins t → Reads ρ xs vs
      → Right t xs vs n ρ cs
  unfolding emit step WellFormed
  right (leaf i (number v)) xs vs n ρ cs w e k r = one-does controls e (number_works controls ρ cs v) refl
  right (leaf i (control s)) xs vs n ρ cs w e k r = one-does controls e (control_works controls ρ cs s) refl
  right (leaf i (operation o)) xs vs n ρ cs w e k r =
      let some : 0 < operands o = w in
      one-does controls e (operation_works controls ρ cs o (get_or xs 0 0) (get_or xs 1 0) (get_or xs 2 0) (both_at 0 (omega arith) r).value (λ two. (both_at 1 (omega arith) r).value) (λ three. (both_at 2 (omega arith) r).value)) refl
  right (leaf i (delay d)) xs vs n ρ cs w e k r =
      let amount : get_or ρ (get_or xs 1 0) 0 ≡ get_or vs 1 0 = (both_at 1 (omega arith) r).value in
      one-does controls e (delay_works controls ρ cs (get_or xs 0 0) (get_or xs 1 0) (base i) d (both_at 0 (omega arith) r).value amount) (ap (λ y. clipped y d) amount)
  right (leaf i cable) xs vs n ρ cs w e k r = nothing controls (more (both_at 0 (omega arith) r) none)
  right (leaf i cut) xs vs n ρ cs w e k r = nothing controls none
  right (join i sequence l r) xs vs n ρ cs w e k b =
      let a = emit base l xs n in
      let s = step base l (tick vs controls) cs in
      and_then controls (right l xs vs n ρ cs w.0 e k b)
      (λ ρ' g o. right r a.results s.outputs (n + length a.code) ρ' s.cells w.1 (omega (arith, kept-length g)) (step-outs base l (tick vs controls) cs w.0 k ∙ w.2) o)
  right (join i parallel l r) xs vs n ρ cs w e k b =
      let p = take (ins l) xs in
      let x = tick (take (ins l) vs) controls in
      let a = emit base l p n in
      let s = step base l x cs in
      let u : length (take (ins l) vs) ≡ ins l = length-take-le (ins l) vs (omega arith) in
      let v : length (drop (ins l) vs) ≡ ins r = omega (arith, length-drop (ins l) vs) in
      and_then controls (right l p (take (ins l) vs) n ρ cs w.0 e u (both_take (ins l) b))
      (λ ρ' g o. besides controls o (right r (drop (ins l) xs) (drop (ins l) vs) (n + length a.code) ρ' s.cells w.1 (omega (arith, kept-length g)) v (kept-reads g (both_drop (ins l) b))))
  right (join i split l r) xs vs n ρ cs w e k b =
      let a = emit base l xs n in
      let x = tick vs controls in
      let s = step base l x cs in
      let u : length (fill (ins r) (outs l) s.outputs) ≡ ins r = length-fill (ins r) (outs l) s.outputs (times_whole (outs l) (ins r) w.2) (step-outs base l x cs w.0 k) in
      and_then controls (right l xs vs n ρ cs w.0 e k b)
      (λ ρ' g o. right r (fill (ins r) (outs l) a.results) (fill (ins r) (outs l) s.outputs) (n + length a.code) ρ' s.cells w.1 (omega (arith, kept-length g)) u (both_copies (ins r / outs l) o))
  right (join i merge l r) xs vs n ρ cs w e k b =
      let a = emit base l xs n in
      let x = tick vs controls in
      let s = step base l x cs in
      let j = outs l / ins r - 1 in
      let m = merges (ins r) j (ins r) 0 a.results (n + length a.code) in
      let u : suc j * ins r ≡ length s.outputs = whole (outs l / ins r) (outs l) (ins r) (times_whole (ins r) (outs l) w.2) (times_least (ins r) (outs l) w.2) ∙ sym (step-outs base l x cs w.0 k) in
      and_then controls (right l xs vs n ρ cs w.0 e k b)
      (λ ρ' g o. and_then controls (merges_do controls (ins r) j (ins r) 0 (n + length a.code) ρ' s.cells (omega (arith, kept-length g)) (omega arith) u o)
      (λ ρ'' g' o'. right r m.results (sums (outs l) (ins r) s.outputs) (n + length a.code + length m.code) ρ'' s.cells w.1
      (omega (arith, kept-length g, kept-length g')) (length-sums (ins r) j (ins r) 0 s.outputs) o'))
  right (join i recursion l r) xs vs n ρ cs w e k b =
      let q = ins r in
      let x = tick (part (base i) q cs) controls in
      let a = emit base r (up_from n q) (n + q) in
      let s = step base r x cs in
      let y = tick (s.outputs ++ vs) controls in
      let d = emit base l (a.results ++ xs) (n + q + length a.code) in
      let z = step base l y s.cells in
      let u : length s.outputs ≡ outs r = step-outs base r x cs w.1 (part_length (base i) q cs) in
      does_as controls (ap (λ x. s.clipped or x) (or_none z.clipped))
      (and_then controls (reads_do controls q (base i) n ρ cs e) (λ ρ₁ g₁ o₁.
      and_then controls (right r (up_from n q) (part (base i) q cs) (n + q) ρ₁ cs w.1 (omega (arith, kept-length g₁, length-reads (base i) q)) (part_length (base i) q cs) o₁) (λ ρ₂ g₂ o₂.
      and_then controls
      (right l (a.results ++ xs) (s.outputs ++ vs) (n + q + length a.code) ρ₂ s.cells w.0
      (omega (arith, kept-length g₁, length-reads (base i) q, kept-length g₂)) (omega (arith, length-append s.outputs vs)) (both_append o₂ (kept-reads g₂ (kept-reads g₁ b))))
      (λ ρ₃ g₃ o₃. still controls o₃ (writes_do controls (base i) ρ₃ z.cells (both_take q o₃))))))
  right (ondemand i t) xs vs n ρ cs w e k b =
      let x = tick (tail_of vs) controls in
      let a = emit base t (tail_of xs) (n + 1) in
      let s = step base t x cs in
      let body = a.code ++ writes (base i) a.results in
      let ρ₁ = ρ ++ (0 ∷ []) in
      let e₁ : length ρ₁ ≡ n + 1 = omega (arith, length-append ρ (0 ∷ [])) in
      let v : length (tail_of vs) ≡ ins t = length_tail (ins t) vs k in
      let d = and_then controls (right t (tail_of xs) (tail_of vs) (n + 1) ρ₁ cs w e₁ v (kept-reads (kept-one ρ 0) (both_tail b)))
      (λ ρ' g o. writes_do controls (base i) ρ' s.cells o) in
      does_as controls (or_none (demand (head_or 0 vs) and (s.clipped or false)) ∙ ap (λ x. demand (head_or 0 vs) and x) (or_none s.clipped))
      (skip_do controls (both_head (omega arith) b) d (λ ρ' g. reads_do controls (outs t) (base i) (n + 1 + length body) ρ' _ (omega arith)))
