-- The line of a tick by its numerals, the lines of a block by its ticks, and the room that they take.
use Prim.Native.Nat.{ℕ, zero, suc, ◌+◌, ◌-◌, ◌*◌, ◌≤◌, ◌<◌}
use mathlib.Core.Path.{◌≡◌, refl, sym, ap, ◌∙◌}
use mathlib.Core.List.{List, [], ◌∷◌, ◌++◌, append_assoc}
use native.Mathlib.Numerals.{add-one}
use native.Mathlib.Nat.{min-le_left, mul-le-mul_left, mul-le-mul_right}
use native.Mathlib.Omega.{arith}
use borrow.Author.Tests.{le-leb, lt-leb}
use lib.ListN.{length, get_or, set, take, drop, length-append, length-take, drop_of_length-le}
use lib.Seq.{drop-cons, drop-drop}
use Rattle.word.specs.Word.{value}
use Rattle.word.specs.Tick.{Words}
use Rattle.word.proofs.Each.{words_take, words-drop}
use Rattle.number.specs.Number.{space, numeral}
use Rattle.number.specs.Row.{line_feed}
use Rattle.number.specs.Put.{Put, Begins}
use Rattle.number.proofs.Stores.{begins_of}
use Rattle.number.proofs.Room.{numeral-room}
use Rattle.number.proofs.Filling.{Filling, filling_room, filling_next, filling_last, filling_end}
use Rattle.player.specs.Ticks.{tick_line, ticks_text, block_text}

-- the line of a tick without outputs
empty-line : (ws : List ℕ) → length ws ≡ 0 → tick_line ws ≡ line_feed ∷ []
empty-line [] e = refl
empty-line (x ∷ ws) e = absurd (omega arith)

pub empty-room : (ws : List ℕ) {from n : ℕ} → length ws ≡ 0 → from + length (tick_line ws) ≤ n → from < n
empty-room ws e h = omega (arith, ap length (empty-line ws e))

pub empty-put : (ws : List ℕ) (text : List ℕ) (from : ℕ) → length ws ≡ 0 → from + length (tick_line ws) ≤ length text → Put (tick_line ws) text from (from + 1) (set text from line_feed)
empty-put ws text from e h =
    let l : length (tick_line ws) ≡ 1 = ap length (empty-line ws e) in
    record { next-is = omega arith; within = omega arith; put = rw (empty-line ws e) }

line-more : (ws : List ℕ) (j : ℕ) → j < length ws - 1 → tick_line (drop j ws) ≡ (numeral (value (get_or ws j 0)) ++ (space ∷ [])) ++ tick_line (drop (j + 1) ws)
line-more ws j h =
    let v : ℕ = get_or ws (suc j) 0 in
    rw (add-one j, drop-cons ws j 0 (omega arith), drop-cons ws (suc j) 0 (omega arith)) (sym (append_assoc (numeral (value (get_or ws j 0))) (space ∷ []) (tick_line (v ∷ drop (suc (suc j)) ws))))

line-last : (ws : List ℕ) (j : ℕ) → suc j ≡ length ws → tick_line (drop j ws) ≡ numeral (value (get_or ws j 0)) ++ (line_feed ∷ [])
line-last ws j e = rw (drop-cons ws j 0 (omega arith), drop_of_length-le ws {i = suc j} (omega arith))

-- a line that is put up to output j
module _ (ws : List ℕ) (j : ℕ) {text₀ : List ℕ} {from : ℕ} {text : List ℕ} {at : ℕ} (p : Filling (tick_line ws) text₀ from (tick_line (drop j ws)) text at) where
  pub more_room : j < length ws - 1 → from + length (tick_line ws) ≤ length text₀ → at + (length (numeral (value (get_or ws j 0))) + 1) ≤ length text
  more_room h r = omega (arith, length-append (numeral (value (get_or ws j 0))) (space ∷ []), filling_room p (numeral (value (get_or ws j 0)) ++ (space ∷ [])) (tick_line (drop (j + 1) ws)) (line-more ws j h) r)

  pub more-next : j < length ws - 1 → {next : ℕ} {text' : List ℕ} → Put (numeral (value (get_or ws j 0)) ++ (space ∷ [])) text at next text' →
      Filling (tick_line ws) text₀ from (tick_line (drop (j + 1) ws)) text' next
  more-next h q = filling_next p (numeral (value (get_or ws j 0)) ++ (space ∷ [])) (tick_line (drop (j + 1) ws)) (line-more ws j h) q

  module _ (last : ℕ) (e : suc last ≡ length ws) (f : j ≡ last) where
    here : tick_line (drop j ws) ≡ numeral (value (get_or ws last 0)) ++ (line_feed ∷ [])
    here = rw f (line-last ws last e)

    pub last-room : from + length (tick_line ws) ≤ length text₀ → at + (length (numeral (value (get_or ws last 0))) + 1) ≤ length text
    last-room r = omega (arith, ap length here ∙ length-append (numeral (value (get_or ws last 0))) (line_feed ∷ []), p.ends, p.long)

    pub last-put : {next : ℕ} {text' : List ℕ} → Put (numeral (value (get_or ws last 0)) ++ (line_feed ∷ [])) text at next text' → Put (tick_line ws) text₀ from next text'
    last-put q = filling_last p (rw here q)

-- at most 12 bytes an output: a numeral, and the space or line feed behind it
line-room : (ws : List ℕ) → Words ws → 0 < length ws → length (tick_line ws) ≤ 12 * length ws
line-room [] w h = absurd (omega arith)
line-room (x ∷ []) (p, w) h = omega (arith, length-append (numeral (value x)) (line_feed ∷ []), numeral-room x p)
line-room (x ∷ (v ∷ ws)) (p, w) h =
    omega (arith, length-append (numeral (value x)) (space ∷ tick_line (v ∷ ws)), numeral-room x p, line-room (v ∷ ws) w (omega arith))

line-most : (ws : List ℕ) → Words ws → length ws ≤ 32 → length (tick_line ws) ≤ 384
line-most [] w h = omega arith
line-most (x ∷ ws) w h = omega (arith, line-room (x ∷ ws) w (omega arith))

lines-most : (m k : ℕ) (ws : List ℕ) → Words ws → m ≤ 32 → length (ticks_text m k ws) ≤ 384 * k
lines-most m zero ws w h = omega arith
lines-most m (suc k) ws w h =
    omega (arith, length-append (tick_line (take m ws)) (ticks_text m k (drop m ws)), line-most (take m ws) (words_take m ws w) (rw (length-take m ws) (omega (arith, min-le_left m (length ws)))), lines-most m k (drop m ws) (words-drop m ws w) h)

pub lines-room : (m k : ℕ) (ws : List ℕ) {n : ℕ} → Words ws → m ≤ 32 → 384 * k ≤ n → 0 + length (ticks_text m k ws) ≤ n
lines-room m k ws w h r = omega (arith, lines-most m k ws w h)

-- the next tick of a block, and those behind it
ticks-more : (ws : List ℕ) (m k first : ℕ) → 0 < k → ticks_text m k (drop first ws) ≡ tick_line (take m (drop first ws)) ++ ticks_text m (k - 1) (drop (first + m) ws)
ticks-more ws m zero first h = absurd (omega arith)
ticks-more ws m (suc k) first h = let e : suc k - 1 ≡ k = omega arith in rw (e, ← drop-drop m first ws)

-- lines that are put as far as k ticks before the last
module _ (ws : List ℕ) (m k first : ℕ) {shown text₀ : List ℕ} {from : ℕ} {text : List ℕ} {at : ℕ} (p : Filling shown text₀ from (ticks_text m k (drop first ws)) text at) where
  pub tick-room : 0 < k → from + length shown ≤ length text₀ → at + length (tick_line (take m (drop first ws))) ≤ length text
  tick-room h r = filling_room p (tick_line (take m (drop first ws))) (ticks_text m (k - 1) (drop (first + m) ws)) (ticks-more ws m k first h) r

  pub tick-next : 0 < k → {next : ℕ} {text' : List ℕ} → Put (tick_line (take m (drop first ws))) text at next text' →
      Filling shown text₀ from (ticks_text m (k - 1) (drop (first + m) ws)) text' next
  tick-next h q = filling_next p (tick_line (take m (drop first ws))) (ticks_text m (k - 1) (drop (first + m) ws)) (ticks-more ws m k first h) q

  pub ticks-put : k ≤ 0 → from + length shown ≤ length text₀ → Put shown text₀ from at text
  ticks-put h r = let e : k ≡ 0 = omega arith in filling_end r (rw e at p)

-- a block of ticks, which has room, or one that is too large
pub block-fits : (m k n : ℕ) → m ≤ 32 → k ≤ 256 → 8192 ≤ n → k * m ≤ n
block-fits m k n h g r = omega (arith, mul-le-mul_left k h, mul-le-mul_right 32 g)

pub block_wide : (m k : ℕ) (ws text : List ℕ) → 32 < m → Begins (block_text m k ws) text 0 text
unfolding block_text
block_wide m k ws text h = rw (lt-leb m 32 h) (record { bytes = refl; put = refl })

pub block-long : (m k : ℕ) (ws text : List ℕ) → m ≤ 32 → 256 < k → Begins (block_text m k ws) text 0 text
unfolding block_text
block-long m k ws text h g = rw (le-leb m 32 h, lt-leb k 256 g) (record { bytes = refl; put = refl })

pub block-put : (m k : ℕ) (ws text : List ℕ) (n : ℕ) (text' : List ℕ) → m ≤ 32 → k ≤ 256 → Put (ticks_text m k ws) text 0 n text' → Begins (block_text m k ws) text n text'
unfolding block_text
block-put m k ws text n text' h g p = rw (le-leb m 32 h, le-leb k 256 g) (begins_of (ticks_text m k ws) text n text' p)
