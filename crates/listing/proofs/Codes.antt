-- The lines of a code: how many numbers and bytes they take.
use Prim.Native.Nat.{ℕ, zero, suc, ◌+◌, ◌-◌, ◌*◌, ◌≤◌}
use mathlib.Core.Path.{◌≡◌, sym, ap, ◌∙◌}
use mathlib.Core.List.{List, ◌++◌}
use native.Mathlib.Nat.{suc-mul}
use native.Mathlib.Omega.{arith}
use lib.ListN.{length, take, drop, length-append, length-drop}
use lib.Seq.{sets, length-sets, length-take-le, take_all}
use Rattle.flat.specs.Flat.{width}
use Rattle.flat.specs.Code.{header, instruction_count, output_count, results_at}
use Rattle.number.specs.Put.{Put}
use Rattle.number.specs.Row.{row_bytes}
use Rattle.number.proofs.Stores.{sets_append}
use Rattle.word.specs.Tick.{Words}
use Rattle.word.proofs.Each.{words_take, words-drop}
use Rattle.listing.specs.Print.{line, rows, code_text}
use Rattle.listing.specs.Steps.{Full, Rows, Listable}
use Rattle.listing.proofs.Laying.{line-length, rows-length}

-- a part to the end
pub rest : (l : List ℕ) {a b : ℕ} → a ≡ b → take (length l - a) (drop a l) ≡ drop b l
rest l {a} {b} e = rw e (take_all (length l - b) (drop b l) (rw (length-drop b l) (omega arith)))

full : (w k : ℕ) (ws : List ℕ) → k * w ≤ length ws → Full w k ws
full w zero ws h = tt
full w (suc k) ws h = let m : suc k * w ≡ k * w + w = suc-mul k w in (omega arith, full w k (drop w ws) (rw (length-drop w ws) (omega arith)))

module _ (code text₀ : List ℕ) (words : Words code) (p : Listable code text₀) where
  abbrev c : ℕ
  c = instruction_count code

  abbrev m : ℕ
  m = output_count code

  header-line : length (line (take header code)) ≡ row_bytes header
  header-line =
      let l : length (take header code) ≡ header = length-take-le header code (omega (arith, p.head.long)) in
      line-length (take header code) (words_take header code words) ∙ rw l

  instructions-full : Full width c (drop header code)
  instructions-full = full width c (drop header code) (rw (length-drop header code) (omega (arith, p.head.long)))

  outputs-full : Full 1 m (drop (results_at c) code)
  outputs-full = full 1 m (drop (results_at c) code) (rw (length-drop (results_at c) code) (omega (arith, p.head.long)))

  instructions-bytes : length (rows width c (drop header code)) ≡ c * row_bytes width
  instructions-bytes = rows-length width c (drop header code) (words-drop header code words) instructions-full

  outputs-bytes : length (rows 1 m (drop (results_at c) code)) ≡ m * row_bytes 1
  outputs-bytes = rows-length 1 m (drop (results_at c) code) (words-drop (results_at c) code words) outputs-full

  module _ (a : ℕ) (text₁ : List ℕ) (q : Put (line (take header code)) text₀ 0 a text₁) (i : ℕ) (i-is : i ≡ c) (is : List ℕ) (is-are : is ≡ drop header code) where
    long-one : length text₁ ≡ length text₀
    long-one = ap length q.put ∙ length-sets text₀ 0 (line (take header code))

    pub instructions-room : Rows is width i text₁ a
    instructions-room = rw (i-is, is-are) (record { full = instructions-full; room = omega (arith, q.next-is, header-line, instructions-bytes, long-one, p.room, p.head.count) })

    module _ (b : ℕ) (text₂ : List ℕ) (r : Put (rows width i is) text₁ a b text₂) (j : ℕ) (j-is : j ≡ m) (os : List ℕ) (os-are : os ≡ drop (results_at c) code) where
      listed : Put (rows width c (drop header code)) text₁ a b text₂
      listed = rw (i-is, is-are) at r

      long-two : length text₂ ≡ length text₁
      long-two = ap length listed.put ∙ length-sets text₁ a (rows width c (drop header code))

      pub outputs-room : Rows os 1 j text₂ b
      outputs-room = rw (j-is, os-are) (record {
        full = outputs-full;
        room = omega (arith, q.next-is, listed.next-is, header-line, instructions-bytes, outputs-bytes, long-one, long-two, p.room, p.head.count, p.head.outs);
      })

      pub code_put : (e : ℕ) (text₃ : List ℕ) → Put (rows 1 j os) text₂ b e text₃ → Put (code_text code) text₀ 0 e text₃
      unfolding code_text
      code_put e text₃ s =
          let x : List ℕ = line (take header code) in
          let y : List ℕ = rows width c (drop header code) in
          let z : List ℕ = rows 1 m (drop (results_at c) code) in
          let last : Put z text₂ b e text₃ = rw (j-is, os-are) at s in
          let l : length (x ++ (y ++ z)) ≡ length x + length (y ++ z) = length-append x (y ++ z) in
          let k : length (y ++ z) ≡ length y + length z = length-append y z in
          let first : sets text₁ a (y ++ z) ≡ sets text₀ 0 (x ++ (y ++ z)) = rw (q.put, q.next-is) (sym (sets_append x (y ++ z) text₀ 0)) in
          let second : sets text₂ b z ≡ sets text₁ a (y ++ z) = rw (listed.put, listed.next-is) (sym (sets_append y z text₁ a)) in
          record {
            next-is = omega (arith, q.next-is, listed.next-is, last.next-is);
            within = omega (arith, last.within, long-one, long-two);
            put = last.put ∙ second ∙ first;
          }
