-- Reading a block: what is read, and what is left to read.
use Prim.Native.Nat.{ℕ, suc, ◌+◌, ◌-◌, ◌≤◌, ◌<◌}
use mathlib.Core.Path.{◌≡◌, refl, sym, ap, ◌∙◌}
use mathlib.Core.Bool.{false}
use mathlib.Core.List.{List, ◌++◌, map, flatten}
use native.Mathlib.Nat.{zero-add, add-zero, sub-zero}
use native.Mathlib.Omega.{arith}
use borrow.Author.Tests.{eq-eqb, ne_eqb, lt-ltb, le-ltb}
use lib.ListN.{length, take, drop, length-map, length-drop}
use lib.Seq.{sets, length-sets, drop-drop}
use Rattle.number.specs.Row.{line_feed}
use Rattle.column.specs.Line.{lines}
use Rattle.number.proofs.Stores.{sets_append}
use Rattle.player.specs.declared.samples.Stop.{Stop}
use Rattle.player.specs.declared.samples.Stop.TheVariants.{Full, Rest, Control as AtControl, Malformed as AtMalformed}
use Rattle.player.specs.declared.samples.Kind.{Kind}
use Rattle.player.specs.declared.samples.Kind.TheVariants.{Tick, Control}
use Rattle.std.specs.Prelude.{Option as StdOption, Some, None}
use Rattle.player.specs.Samples.{words, word_in, said, text_of, Start, stopped, line_then, no_more, starting, BlockRead, block_read, reads}
use Rattle.player.specs.Samples.Said.{inputs, control, malformed}
use Rattle.player.specs.Promises.{kind_of}
use Rattle.player.proofs.UpTo.{up_to_take}
use Rattle.player.proofs.Blocks.{kind-malformed, kind-control, kind-tick, starting-full, starting-rest, starting-line}

-- the result, where so many ticks, bytes and words are before what stands first
abbrev pub after : ℕ → ℕ → ℕ → List ℕ → Start → BlockRead
unfolding flatten
after ticks at next samples s = block_read (record { ticks = ticks + length s.ticks; bytes = at + s.bytes; stop = s.stop }) (sets samples next (flatten s.ticks))

pub record Reading (text : List ℕ) (n : ℕ) (samples₀ samples : List ℕ) (at ticks next : ℕ) : Type 0 where
  pub within : at ≤ length text
  pub few : ticks ≤ 256
  pub filled : next ≤ length samples
  pub long : length samples ≡ length samples₀
  pub left : after ticks at next samples (starting n (256 - ticks) (length samples - next) (lines (drop at text))) ≡ reads n text samples₀

pub reading_starts : (text : List ℕ) (n : ℕ) (samples : List ℕ) → Reading text n samples samples 0 0 0
unfolding reads flatten
reading_starts text n samples = record {
  within = omega arith;
  few = omega arith;
  filled = omega arith;
  long = refl;
  left = simp (sub-zero, zero-add);
}

module _ (text : List ℕ) (n : ℕ) (samples₀ samples : List ℕ) (at ticks next : ℕ) (i : Reading text n samples₀ samples at ticks next) where
  -- the block ends here
  ends : (bytes : ℕ) (stop : Stop) → starting n (256 - ticks) (length samples - next) (lines (drop at text)) ≡ stopped bytes stop
      → (end : ℕ) → end ≡ at + bytes → block_read (record { ticks = ticks; bytes = end; stop = stop }) samples ≡ reads n text samples₀
  unfolding flatten
  ends bytes stop s end e =
      let l : after ticks at next samples (stopped bytes stop) ≡ reads n text samples₀ = rw s at i.left in
      rw e (let z : ticks + 0 ≡ ticks = add-zero ticks in rw z at l)

  pub ends_full : ticks ≡ 256 → block_read (record { ticks = ticks; bytes = at; stop = Full }) samples ≡ reads n text samples₀
  ends_full e = ends 0 Full (starting-full n (256 - ticks) (length samples - next) (lines (drop at text)) (rw (eq-eqb (256 - ticks) 0 (omega arith)))) at (omega arith)

  module _ (f : ticks ≡ 256 → ⊥) where
    pub ends_no_room : length samples - next < n → block_read (record { ticks = ticks; bytes = at; stop = Full }) samples ≡ reads n text samples₀
    ends_no_room h =
        let m : 256 - ticks ≡ 0 → ⊥ = λ (z : 256 - ticks ≡ 0). f (omega (arith, i.few)) in
        ends 0 Full (starting-full n (256 - ticks) (length samples - next) (lines (drop at text)) (rw (ne_eqb (256 - ticks) 0 m, lt-ltb (length samples - next) n h))) at (omega arith)

    module _ (g : n ≤ length samples - next) (end : ℕ) (e : end ≡ at + length (text_of (drop at text))) where
      more : no_more n (256 - ticks) (length samples - next) ≡ false
      more =
          let m : 256 - ticks ≡ 0 → ⊥ = λ (z : 256 - ticks ≡ 0). f (omega (arith, i.few)) in
          rw (ne_eqb (256 - ticks) 0 m, le-ltb (length samples - next) n g)

      pub ends_rest : end ≡ length text → block_read (record { ticks = ticks; bytes = at; stop = Rest }) samples ≡ reads n text samples₀
      ends_rest h = ends 0 Rest (starting-rest n (256 - ticks) (length samples - next) (drop at text) more (omega (arith, length-drop at text))) at (omega arith)

      -- a whole line ends at `end`
      module _ (h : end < length text) where
        line-text : take (end - at) (drop at text) ≡ text_of (drop at text)
        line-text = let z : end - at ≡ length (text_of (drop at text)) = omega arith in rw z (sym (up_to_take line_feed (drop at text)))

        line_first : starting n (256 - ticks) (length samples - next) (lines (drop at text))
            ≡ line_then (said n (take (end - at) (drop at text))) (end + 1 - at) (starting n (256 - (ticks + 1)) (length samples - (next + n)) (lines (drop (end + 1) text)))
        line_first =
            let a : suc (length (text_of (drop at text))) ≡ end + 1 - at = omega arith in
            let b : 256 - ticks - 1 ≡ 256 - (ticks + 1) = omega arith in
            let d : length samples - next - n ≡ length samples - (next + n) = omega arith in
            let s : at + (end + 1 - at) ≡ end + 1 = omega arith in
            starting-line n (256 - ticks) (length samples - next) (drop at text) more (omega (arith, length-drop at text))
            ∙ rw (line-text, a, b, d, drop-drop (end + 1 - at) at text, s)

        module _ (k : StdOption Kind) (p : k ≡ kind_of (said n (take (end - at) (drop at text)))) where
          pub ends_malformed : k ≡ None → block_read (record { ticks = ticks; bytes = at; stop = AtMalformed }) samples ≡ reads n text samples₀
          ends_malformed q =
              let m : said n (take (end - at) (drop at text)) ≡ malformed = kind-malformed _ k p q in
              ends 0 AtMalformed (line_first ∙ rw m) at (omega arith)

          pub ends_control : (slot value : ℕ) → k ≡ Some (Control slot value) → block_read (record { ticks = ticks; bytes = end + 1; stop = AtControl slot value }) samples ≡ reads n text samples₀
          ends_control slot value q =
              let m : said n (take (end - at) (drop at text)) ≡ control slot value = kind-control _ k slot value p q in
              ends (end + 1 - at) (AtControl slot value) (line_first ∙ rw m) (end + 1) (omega arith)

          pub tick-room : k ≡ Some Tick → next + length (words (take (end - at) (drop at text))) ≤ length samples
          tick-room q = let t = kind-tick n (take (end - at) (drop at text)) k p q in omega (arith, t.count, i.filled)

          pub one-tick : (samples' : List ℕ) → k ≡ Some Tick → samples' ≡ sets samples next (map word_in (words (take (end - at) (drop at text)))) → Reading text n samples₀ samples' (end + 1) (ticks + 1) (next + n)
          unfolding flatten
          one-tick samples' q w =
              let line : List ℕ = take (end - at) (drop at text) in
              let t = kind-tick n line k p q in
              let xs : List ℕ = map word_in (words line) in
              let l : length samples' ≡ length samples = ap length w ∙ length-sets samples next xs in
              let c : length xs ≡ n = length-map (words line) word_in ∙ t.count in
              let s : Start = starting n (256 - (ticks + 1)) (length samples - (next + n)) (lines (drop (end + 1) text)) in
              let m : after ticks at next samples (line_then (inputs xs) (end + 1 - at) s) ≡ reads n text samples₀ =
              ap (after ticks at next samples) (ap (λ (x : _). line_then x (end + 1 - at) s) (sym t.says) ∙ sym line_first) ∙ i.left in
              let a : ticks + 1 + length s.ticks ≡ ticks + suc (length s.ticks) = omega arith in
              let b : end + 1 + s.bytes ≡ at + (end + 1 - at + s.bytes) = omega arith in
              let v : sets samples' (next + n) (flatten s.ticks) ≡ sets samples next (xs ++ flatten s.ticks) =
              rw w (sym (sets_append xs (flatten s.ticks) samples next ∙ rw c)) in
              record {
                within = omega arith;
                few = omega (arith, i.few);
                filled = omega arith;
                long = l ∙ i.long;
                left = rw (l, a, b, v) m;
              }
