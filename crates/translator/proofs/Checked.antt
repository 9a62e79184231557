-- The translator's code passes the code check: it never gets refusal 13.
use Prim.Native.Nat.{ℕ, zero, suc, ◌+◌, ◌-◌, ◌*◌, ◌/◌, ◌≤◌, ◌<◌}
use mathlib.Core.Path.{◌≡◌, refl, sym, ap₂, ◌∙◌}
use mathlib.Core.Bool.{true}
use mathlib.Core.List.{List, [], ◌∷◌, ◌++◌}
use native.Mathlib.Numerals.{add-one}
use native.Mathlib.Omega.{arith}
use lib.ListN.{length, get_or, drop, take, length-append, length-drop}
use lib.Seq.{length-take-le}
use lib.Dec.{ltb}
use Rattle.word.specs.Operation.{operands}
use Rattle.word.specs.Tick.{head_or, tail_of}
use Rattle.word.proofs.Lists.{both_true, is_below, length_tail}
use Rattle.word.proofs.Each.{each_append, each_take, each-drop, each_tail}
use Rattle.arity.specs.Tree.{Tree, ins, outs, size, need}
use Rattle.arity.specs.Tree.Tree.{leaf, join, ondemand}
use Rattle.arity.specs.Tree.Primitive.{number, control, operation, delay, cable, cut}
use Rattle.arity.specs.Tree.Composition.{sequence, parallel, split, merge, recursion}
use Rattle.arity.specs.Nodes.{Complete, cells_before}
use Rattle.arity.specs.WellFormed.{WellFormed}
use Rattle.arity.proofs.Times.{times_whole, times_least}
use Rattle.signal.specs.Signal.{fill}
use Rattle.calls.proofs.Holds.{Placed}
use Rattle.calls.proofs.Placing.{all_placed}
use Rattle.signal.proofs.Beams.{length-fill}
use Rattle.flat.specs.Flat.{Instruction}
use Rattle.flat.specs.Code.{encode, results_at}
use Rattle.flat.specs.Check.{all_below, instructions_ok, body_ok}
use Rattle.flat.proofs.Encoding.{encode-length, encoded-ok}
use Rattle.flat.proofs.Passing.{number_ok, control-ok, operation-ok, addition-ok, delay-ok, read_ok, write-ok, skip-ok, none-ok, one_ok, more-ok, append_ok}
use Rattle.translator.specs.Emit.{reads, writes, up_from, terms, merges, emit}
use Rattle.translator.specs.Translated.{translation}
use Rattle.translator.specs.Laws.{TranslationOk}
use Rattle.translator.proofs.Registers.{Below}
use Rattle.translator.proofs.Below.{below_more, below-head, below-copies, below_at, below-from}
use Rattle.translator.proofs.Pieces.{length-reads, length-writes}
use Rattle.translator.proofs.Right.{whole}
use Rattle.translator.proofs.Count.{length-up_from, terms-need, merges-need, merges-outs, emit-outs, emit-need, emit-below}

module _ (cells end : ℕ) where
  -- the code `is`, whose first own register is n, passes
  abbrev Passes : ℕ → List Instruction → Type 0
  Passes n is = instructions_ok cells end n is ≡ true

  passes_reads : (a k n : ℕ) → a + k ≤ cells → Passes n (reads a k)
  passes_reads a zero n h = none-ok cells end n
  passes_reads a (suc k) n h = more-ok cells end n _ (reads (suc a) k) (read_ok cells end n a (omega arith)) (passes_reads (suc a) k (suc n) (omega arith))

  passes_writes : (a : ℕ) (rs : List ℕ) (n : ℕ) → a + length rs ≤ cells → Below n rs → Passes n (writes a rs)
  passes_writes a [] n h b = none-ok cells end n
  passes_writes a (r ∷ rs) n h b =
      more-ok cells end n _ (writes (suc a) rs) (write-ok cells end n a r (omega arith) b.0)
      (passes_writes (suc a) rs (suc n) (omega arith) (below_more n (suc n) (omega arith) rs b.1))

  -- the additions of a merge: they pass, and their results are below m
  record Fine (n m : ℕ) (is : List Instruction) (rs : List ℕ) : Type 0 where
    passes : Passes n is
    below : Below m rs

  terms_pass : (k b acc at n : ℕ) (xs : List ℕ) → acc < n → at + k * b < length xs + b → Below n xs
      → Fine n (n + k) (terms k b acc at xs n).code (terms k b acc at xs n).results
  terms_pass zero b acc at n xs h l s = record { passes = none-ok cells end n; below = (omega arith, tt) }
  terms_pass (suc k) b acc at n xs h l s =
      let i : at < length xs = omega arith in
      let f = terms_pass k b n (at + b) (suc n) xs (omega arith) (omega arith) (below_more n (suc n) (omega arith) xs s) in
      record {
        passes = more-ok cells end n _ (terms k b n (at + b) xs (suc n)).code (addition-ok cells end n acc (get_or xs at 0) h (below_at n at xs i s)) f.passes;
        below = below_more (suc n + k) (n + suc k) (omega arith) (terms k b n (at + b) xs (suc n)).results f.below;
      }

  merges_pass : (m k b i n : ℕ) (xs : List ℕ) → m + i ≤ b → suc k * b ≡ length xs → Below n xs
      → Fine n (n + m * k) (merges m k b i xs n).code (merges m k b i xs n).results
  merges_pass zero k b i n xs h l s = record { passes = none-ok cells end n; below = tt }
  merges_pass (suc m) k b i n xs h l s =
      let one = terms k b (get_or xs i 0) (i + b) xs n in
      let e : length one.code ≡ k = terms-need k b (get_or xs i 0) (i + b) n xs in
      let n' = n + length one.code in
      let rest = merges m k b (suc i) xs n' in
      let top = n + suc m * k in
      let f = terms_pass k b (get_or xs i 0) (i + b) n xs (below_at n i xs (omega arith) s) (omega arith) s in
      let g = merges_pass m k b (suc i) n' xs (omega arith) l (below_more n n' (omega arith) xs s) in
      record {
        passes = append_ok cells end n one.code rest.code f.passes g.passes;
        below = each_append (λ x. x < top) one.results rest.results (below_more (n + k) top (omega arith) one.results f.below) (below_more (n' + m * k) top (omega arith) rest.results g.below);
      }

  emit_passes : (base : ℕ → ℕ) (t : Tree) (xs : List ℕ) (n : ℕ) → WellFormed t → Placed base cells t → length xs ≡ ins t → Below n xs → n + need t ≤ end
      → Passes n (emit base t xs n).code
  unfolding emit WellFormed Placed size need
  emit_passes base (leaf i (number v)) xs n w p e b h = one_ok cells end n _ (number_ok cells end n v)
  emit_passes base (leaf i (control s)) xs n w p e b h = one_ok cells end n _ (control-ok cells end n s w)
  emit_passes base (leaf i (operation o)) xs n w p e b h =
      let some : 0 < operands o = w in
      one_ok cells end n _ (operation-ok cells end n o (get_or xs 0 0) (get_or xs 1 0) (get_or xs 2 0) some (below_at n 0 xs (omega arith) b) (λ two. below_at n 1 xs (omega arith) b) (λ three. below_at n 2 xs (omega arith) b))
  emit_passes base (leaf i (delay d)) xs n w p e b h =
      one_ok cells end n _ (delay-ok cells end n (get_or xs 0 0) (get_or xs 1 0) (base i) d (below_at n 0 xs (omega arith) b) (below_at n 1 xs (omega arith) b) w p)
  emit_passes base (leaf i cable) xs n w p e b h = none-ok cells end n
  emit_passes base (leaf i cut) xs n w p e b h = none-ok cells end n
  emit_passes base (join i sequence l r) xs n w p e b h =
      let a = emit base l xs n in
      let k : length a.code ≡ need l = emit-need base l xs n w.0 in
      let f : Below (n + length a.code) a.results = rw k (emit-below base l xs n w.0 e b) in
      append_ok cells end n a.code _ (emit_passes base l xs n w.0 p.1 e b (omega arith))
      (emit_passes base r a.results (n + length a.code) w.1 p.2 (emit-outs base l xs n w.0 ∙ w.2) f (omega arith))
  emit_passes base (join i parallel l r) xs n w p e b h =
      let x = take (ins l) xs in
      let y = drop (ins l) xs in
      let a = emit base l x n in
      let u : length x ≡ ins l = length-take-le (ins l) xs (omega arith) in
      let v : length y ≡ ins r = omega (arith, length-drop (ins l) xs) in
      let k : length a.code ≡ need l = emit-need base l x n w.0 in
      append_ok cells end n a.code _ (emit_passes base l x n w.0 p.1 u (each_take (λ x. x < n) (ins l) xs b) (omega arith))
      (emit_passes base r y (n + length a.code) w.1 p.2 v (below_more n (n + length a.code) (omega arith) y (each-drop (λ x. x < n) (ins l) xs b)) (omega arith))
  emit_passes base (join i split l r) xs n w p e b h =
      let a = emit base l xs n in
      let x = fill (ins r) (outs l) a.results in
      let k : length a.code ≡ need l = emit-need base l xs n w.0 in
      let u : length x ≡ ins r = length-fill (ins r) (outs l) a.results (times_whole (outs l) (ins r) w.2) (emit-outs base l xs n w.0) in
      let f : Below (n + length a.code) a.results = rw k (emit-below base l xs n w.0 e b) in
      append_ok cells end n a.code _ (emit_passes base l xs n w.0 p.1 e b (omega arith))
      (emit_passes base r x (n + length a.code) w.1 p.2 u (below-copies (n + length a.code) (ins r / outs l) a.results f) (omega arith))
  emit_passes base (join i merge l r) xs n w p e b h =
      let a = emit base l xs n in
      let k : length a.code ≡ need l = emit-need base l xs n w.0 in
      let n' = n + length a.code in
      let j = outs l / ins r - 1 in
      let m = merges (ins r) j (ins r) 0 a.results n' in
      let q : suc j * ins r ≡ outs l = whole (outs l / ins r) (outs l) (ins r) (times_whole (ins r) (outs l) w.2) (times_least (ins r) (outs l) w.2) in
      let v : length m.code ≡ ins r * j = merges-need (ins r) j (ins r) 0 n' a.results in
      let f : Below n' a.results = rw k (emit-below base l xs n w.0 e b) in
      let g = merges_pass (ins r) j (ins r) 0 n' a.results (omega arith) (q ∙ sym (emit-outs base l xs n w.0)) f in
      append_ok cells end n a.code _ (emit_passes base l xs n w.0 p.1 e b (omega arith))
      (append_ok cells end n' m.code _ g.passes
      (emit_passes base r m.results (n' + length m.code) w.1 p.2 (merges-outs (ins r) j (ins r) 0 n' a.results) (rw v g.below) (omega arith)))
  emit_passes base (join i recursion l r) xs n w p e b h =
      let q = ins r in
      let n₁ = n + q in
      let a = emit base r (up_from n q) n₁ in
      let n₂ = n₁ + length a.code in
      let d = emit base l (a.results ++ xs) n₂ in
      let u : length a.results ≡ outs r = emit-outs base r (up_from n q) n₁ w.1 in
      let v : length (a.results ++ xs) ≡ ins l = omega (arith, length-append a.results xs) in
      let k : length a.code ≡ need r = emit-need base r (up_from n q) n₁ w.1 in
      let f : Below n₂ a.results = rw k (emit-below base r (up_from n q) n₁ w.1 (length-up_from n q) (below-from n₁ n q (omega arith))) in
      let c : Below n₂ (a.results ++ xs) = each_append (λ x. x < n₂) a.results xs f (below_more n n₂ (omega arith) xs b) in
      let z : length d.results ≡ outs l = emit-outs base l (a.results ++ xs) n₂ w.0 in
      let k' : length d.code ≡ need l = emit-need base l (a.results ++ xs) n₂ w.0 in
      let g : Below (n₂ + length d.code) d.results = rw k' (emit-below base l (a.results ++ xs) n₂ w.0 v c) in
      let o = writes (base i) (take q d.results) in
      append_ok cells end n (reads (base i) q) (a.code ++ (d.code ++ o)) (passes_reads (base i) q n p.0)
      (rw length-reads
      (append_ok cells end n₁ a.code (d.code ++ o) (emit_passes base r (up_from n q) n₁ w.1 p.2 (length-up_from n q) (below-from n₁ n q (omega arith)) (omega arith))
      (append_ok cells end n₂ d.code o (emit_passes base l (a.results ++ xs) n₂ w.0 p.1 v c (omega arith))
      (passes_writes (base i) (take q d.results) (n₂ + length d.code) (omega (arith, length-take-le q d.results (omega arith))) (each_take (λ x. x < n₂ + length d.code) q d.results g)))))
  emit_passes base (ondemand i t) xs n w p e b h =
      let n₁ = n + 1 in
      let a = emit base t (tail_of xs) n₁ in
      let o = writes (base i) a.results in
      let v : length (tail_of xs) ≡ ins t = length_tail (ins t) xs e in
      let k : length a.code ≡ need t = emit-need base t (tail_of xs) n₁ w in
      let z : length a.results ≡ outs t = emit-outs base t (tail_of xs) n₁ w in
      let c : Below n₁ (tail_of xs) = below_more n n₁ (omega arith) (tail_of xs) (each_tail (λ x. x < n) xs b) in
      let g : Below (n₁ + length a.code) a.results = rw k (emit-below base t (tail_of xs) n₁ w v c) in
      more-ok cells end n _ ((a.code ++ o) ++ reads (base i) (outs t)) (skip-ok cells end n (head_or 0 xs) (length (a.code ++ o)) (below-head n xs (omega arith) b) (omega (arith, length-append a.code o, length-writes (base i) a.results)))
      (rw (← add-one n)
      (append_ok cells end n₁ (a.code ++ o) (reads (base i) (outs t))
      (append_ok cells end n₁ a.code o (emit_passes base t (tail_of xs) n₁ w p.1 v c (omega arith)) (passes_writes (base i) a.results (n₁ + length a.code) (omega arith) g))
      (passes_reads (base i) (outs t) (n₁ + length (a.code ++ o)) p.0)))

  all-below : (n : ℕ) (xs : List ℕ) → Below n xs → all_below n xs ≡ true
  all-below n [] b = refl
  all-below n (x ∷ xs) b = both_true (ltb x n) (all_below n xs) (is_below x n b.0) (all-below n xs b.1)

module _ (n : ℕ) (t : Tree) (w : WellFormed t) where
  -- "Instructions needed: .."
  code-length : length (translation n t).instructions ≡ need t
  unfolding translation
  code-length = emit-need (cells_before t) t (up_from 0 (ins t)) (ins t) w

  pub results-length : length (translation n t).results ≡ outs t
  unfolding translation
  results-length = emit-outs (cells_before t) t (up_from 0 (ins t)) (ins t) w

  -- "length .. 4+6c+m"
  pub encoded-length : length (encode (translation n t)) ≡ results_at (need t) + outs t
  encoded-length = encode-length (translation n t) ∙ ap₂ (λ (c m : ℕ). results_at c + m) code-length results-length

  code_passes : Complete n t → instructions_ok (cells_before t n) (ins t + need t) (ins t) (translation n t).instructions ≡ true
  unfolding translation
  code_passes c =
      emit_passes (cells_before t n) (ins t + need t) (cells_before t) t (up_from 0 (ins t)) (ins t) w (all_placed n t c) (length-up_from 0 (ins t)) (below-from (ins t) 0 (ins t) (omega arith)) (omega arith)

  results-below : Below (ins t + need t) (translation n t).results
  unfolding translation
  results-below = emit-below (cells_before t) t (up_from 0 (ins t)) (ins t) w (length-up_from 0 (ins t)) (below-from (ins t) 0 (ins t) (omega arith))

pub translation-ok : TranslationOk
unfolding translation
translation-ok n t w c i o k d =
    let x = translation n t in
    let b : body_ok (ins t + need t) x ≡ true = both_true _ _ (code_passes n t w c) (all-below (cells_before t n) (ins t + need t) (ins t + need t) x.results (results-below n t w)) in
    encoded-ok x (omega arith) (omega (arith, results-length n t w)) (omega (arith, code-length n t w)) (omega arith) (rw (code-length n t w) b)
