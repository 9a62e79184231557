-- What a caller may count on of a block.
use Prim.Native.Nat.{ℕ, suc, ◌+◌, ◌-◌, ◌*◌, ◌≤◌, ◌<◌}
use mathlib.Core.Path.{◌≡◌, refl, sym, ap, ◌∙◌}
use mathlib.Core.Bool.{Bool, true, false}
use mathlib.Core.List.{List, [], ◌∷◌, map, flatten}
use mathlib.Core.Logic.{◌⊎◌, inl, inr, ⊎_elim}
use mathlib.Core.Option.{Option, none, some}
use native.Mathlib.Nat.{suc-mul}
use native.Mathlib.Omega.{arith}
use borrow.Author.Tests.{eqb-true, eqb-false, ltb-true, ltb-false}
use lib.Dec.{eqb, ltb}
use lib.IntN.{ℤ}
use lib.ListN.{length, drop, length-drop, length-append, length-map}
use lib.Seq.{drop-drop, take_at}
use Rattle.word.specs.Choice.{pick, ◌and◌}
use Rattle.word.specs.Word.{low}
use Rattle.word.specs.Tick.{head_or}
use Rattle.number.specs.Number.{same, number_in}
use Rattle.column.specs.Line.{lines}
use Rattle.number.proofs.Stores.{sets-front}
use Rattle.player.specs.declared.samples.Block.{Block}
use Rattle.player.specs.declared.samples.Stop.{Stop}
use Rattle.player.specs.declared.samples.Stop.TheVariants.{Full, Rest, Control, Malformed}
use Rattle.player.specs.Samples.{Said, words, word_in, are_numbers, setting, control_said, control_word, words_said, longest_line, said, text_of, whole, Start, stopped, line_then, no_more, starting, most_ticks, BlockRead, block_read, reads}
use Rattle.player.specs.Samples.Said.{inputs, control, malformed}
use Rattle.player.specs.Laws.{Bounded, BlockBounded, InputsFirst}
use Rattle.player.proofs.Splits.{Split, splits, no_lines}

-- what is said of a line: a slot is below 16, and a tick has n inputs
record Plain (n : ℕ) (s : Said) : Type 0 where
  slot : (slot value : ℕ) → s ≡ control slot value → slot < 16
  wide : (xs : List ℕ) → s ≡ inputs xs → length xs ≡ n

module _ (n : ℕ) where
  nothing-plain : Plain n malformed
  nothing-plain = record { slot = λ s. λ v. λ e. let z : ◌≡◌ {A = ℕ} 0 1 = cc in absurd (omega arith); wide = λ xs. λ e. let z : ◌≡◌ {A = ℕ} 0 1 = cc in absurd (omega arith) }

  tick-plain : (xs : List ℕ) → length xs ≡ n → Plain n (inputs xs)
  tick-plain xs h = record { slot = λ s. λ v. λ e. let z : ◌≡◌ {A = ℕ} 0 1 = cc in absurd (omega arith); wide = λ ys. λ e. let z : xs ≡ ys = cc in ap length (sym z) ∙ h }

  setting-plain : (o p : Option ℤ) → Plain n (setting o p)
  setting-plain none p = nothing-plain
  setting-plain (some a) none = nothing-plain
  setting-plain (some a) (some b) = go (ltb (low a) 16) refl
    where
      go : (t : Bool) → ltb (low a) 16 ≡ t → Plain n (pick t (control (low a) (low b)) malformed)
      go true g = record { slot = λ s. λ v. λ e. let f : low a ≡ s = cc in omega (arith, ltb-true (low a) 16 g); wide = λ xs. λ e. let z : ◌≡◌ {A = ℕ} 0 1 = cc in absurd (omega arith) }
      go false g = nothing-plain

  control-plain : (ws : List (List ℕ)) → Plain n (control_said ws)
  control-plain [] = nothing-plain
  control-plain (s ∷ []) = nothing-plain
  control-plain (s ∷ (v ∷ [])) = setting-plain (number_in s) (number_in v)
  control-plain (s ∷ (v ∷ (w ∷ ws))) = nothing-plain

  words-plain : (ws : List (List ℕ)) → Plain n (words_said n ws)
  words-plain ws = go (same (head_or [] ws) control_word) (eqb (length ws) n) (are_numbers ws) refl
    where
      go : (a b c : Bool) → eqb (length ws) n ≡ b → Plain n (pick a (control_said (drop 1 ws)) (pick (b and c) (inputs (map word_in ws)) malformed))
      go true b c e = control-plain (drop 1 ws)
      go false true true e = tick-plain (map word_in ws) (length-map ws word_in ∙ eqb-true (length ws) n e)
      go false true false e = nothing-plain
      go false false c e = nothing-plain

  said_plain : (t : List ℕ) → Plain n (said n t)
  unfolding said
  said_plain t = go (ltb (length t) longest_line)
    where
      go : (a : Bool) → Plain n (pick a (words_said n (words t)) malformed)
      go true = words-plain (words t)
      go false = nothing-plain

-- the bounds of what stands first in a text
record Fits (n most room : ℕ) (text : List ℕ) (s : Start) : Type 0 where
  few : length s.ticks ≤ most
  space : length s.ticks * n ≤ room
  within : s.bytes ≤ length text
  onward : length s.ticks ≤ s.bytes
  wide : length (flatten s.ticks) ≡ length s.ticks * n
  full : s.stop ≡ Full → (length s.ticks ≡ most) ⊎ (room - length s.ticks * n < n)
  rest : s.stop ≡ Rest → whole (drop s.bytes text) ≡ false
  slot : (slot value : ℕ) → s.stop ≡ Control slot value → (slot < 16) × (length s.ticks < s.bytes)

module _ (n most room : ℕ) (text : List ℕ) where
  -- no tick is read
  stopped-fits : (bytes : ℕ) (stop : Stop) → bytes ≤ length text → (stop ≡ Full → no_more n most room ≡ true) → (stop ≡ Rest → whole (drop bytes text) ≡ false)
      → ((slot value : ℕ) → stop ≡ Control slot value → (slot < 16) × (0 < bytes)) → Fits n most room text (stopped bytes stop)
  unfolding flatten
  stopped-fits bytes stop w f r c = record { few = omega arith; space = omega arith; within = w; onward = omega arith; wide = omega arith; full = λ e. go (eqb most 0) refl (f e); rest = r; slot = c }
    where
      go : (t : Bool) → eqb most 0 ≡ t → pick t true (ltb room n) ≡ true → (0 ≡ most) ⊎ (room - 0 * n < n)
      go true e g = inl (sym (eqb-true most 0 e))
      go false e g = inr (omega (arith, ltb-true room n g))

  full-fits : no_more n most room ≡ true → Fits n most room text (stopped 0 Full)
  full-fits e = stopped-fits 0 Full (omega arith) (λ f. e) (λ f. let z : ◌≡◌ {A = ℕ} 0 1 = cc in absurd (omega arith)) (λ s. λ v. λ f. let z : ◌≡◌ {A = ℕ} 0 1 = cc in absurd (omega arith))

  rest-fits : whole text ≡ false → Fits n most room text (stopped 0 Rest)
  rest-fits e = stopped-fits 0 Rest (omega arith) (λ f. let z : ◌≡◌ {A = ℕ} 0 1 = cc in absurd (omega arith)) (λ f. e) (λ s. λ v. λ f. let z : ◌≡◌ {A = ℕ} 0 1 = cc in absurd (omega arith))

  malformed-fits : Fits n most room text (stopped 0 Malformed)
  malformed-fits = stopped-fits 0 Malformed (omega arith) (λ f. let z : ◌≡◌ {A = ℕ} 0 1 = cc in absurd (omega arith)) (λ f. let z : ◌≡◌ {A = ℕ} 0 1 = cc in absurd (omega arith)) (λ s. λ v. λ f. let z : ◌≡◌ {A = ℕ} 0 1 = cc in absurd (omega arith))

  -- a first line that has its line feed
  module _ (l : List ℕ) (ls : List (List ℕ)) (p : Split text l ls) where
    control-fits : (slot value : ℕ) → slot < 16 → Fits n most room text (stopped (length l) (Control slot value))
    control-fits slot value h =
        stopped-fits (length l) (Control slot value) p.within (λ f. let z : ◌≡◌ {A = ℕ} 0 1 = cc in absurd (omega arith)) (λ f. let z : ◌≡◌ {A = ℕ} 0 1 = cc in absurd (omega arith))
        (λ s. λ v. λ f. let e : slot ≡ s = cc in (omega arith, p.some))

    tick-fits : (xs : List ℕ) (next : Start) → length xs ≡ n → 0 < most → n ≤ room → Fits n (most - 1) (room - n) (drop (length l) text) next → Fits n most room text (line_then (inputs xs) (length l) next)
    unfolding flatten
    tick-fits xs next c m r f =
        let k : suc (length next.ticks) * n ≡ n + length next.ticks * n = omega (arith, suc-mul (length next.ticks) n) in
        let d : length (drop (length l) text) ≡ length text - length l = length-drop (length l) text in
        record {
          few = omega (arith, f.few);
          space = omega (arith, f.space);
          within = omega (arith, f.within, p.within);
          onward = omega (arith, f.onward, p.some);
          wide = omega (arith, f.wide, length-append xs (flatten next.ticks));
          full = λ e. ⊎_elim (λ (g : length next.ticks ≡ most - 1). inl (omega arith)) (λ (g : room - n - length next.ticks * n < n). inr (omega arith)) (f.full e);
          rest = λ e. rw (sym (drop-drop next.bytes (length l) text)) (f.rest e);
          slot = λ s. λ v. λ e. ((f.slot s v e).0, omega (arith, (f.slot s v e).1));
        }

    line-fits : (s : Said) (next : Start) → Plain n s → 0 < most → n ≤ room → Fits n (most - 1) (room - n) (drop (length l) text) next → Fits n most room text (line_then s (length l) next)
    line-fits (inputs xs) next c m r f = tick-fits xs next (c.wide xs refl) m r f
    line-fits (control slot value) next c m r f = control-fits slot value (c.slot slot value refl)
    line-fits malformed next c m r f = malformed-fits

-- there is room for a tick
more_room : (n most room : ℕ) → no_more n most room ≡ false → (0 < most) × (n ≤ room)
more_room n most room e = go (eqb most 0) refl e
  where
    go : (t : Bool) → eqb most 0 ≡ t → pick t true (ltb room n) ≡ false → (0 < most) × (n ≤ room)
    go true f g = let z : ◌≡◌ {A = ℕ} 0 1 = cc in absurd (omega arith)
    go false f g = (let d : most ≡ 0 → ⊥ = eqb-false most 0 f in omega arith, ltb-false room n g)

fits : (n most room : ℕ) (ls : List (List ℕ)) (text : List ℕ) → lines text ≡ ls → Fits n most room text (starting n most room ls)
unfolding starting
fits n most room [] text e = go (no_more n most room) refl
  where
    go : (t : Bool) → no_more n most room ≡ t → Fits n most room text (pick t (stopped 0 Full) (stopped 0 Rest))
    go true f = full-fits n most room text f
    go false f = rest-fits n most room text (no_lines text e)
fits n most room (l ∷ ls) text e =
    let p = splits text l ls e in
    go (no_more n most room) (whole l) refl refl p (fits n (most - 1) (room - n) ls (drop (length l) text) p.rest)
  where
    next : Start
    next = starting n (most - 1) (room - n) ls

    go : (t u : Bool) → no_more n most room ≡ t → whole l ≡ u → Split text l ls → Fits n (most - 1) (room - n) (drop (length l) text) next
        → Fits n most room text (pick t (stopped 0 Full) (pick u (line_then (said n (text_of l)) (length l) next) (stopped 0 Rest)))
    go true u f g p i = full-fits n most room text f
    go false false f g p i = rest-fits n most room text (sym p.feed ∙ g)
    go false true f g p i = let m = more_room n most room f in line-fits n most room text l ls p (said n (text_of l)) next (said_plain n (text_of l)) m.0 m.1 i

module _ (n : ℕ) (text samples : List ℕ) where
  block-fits : Fits n most_ticks (length samples) text (starting n most_ticks (length samples) (lines text))
  block-fits = fits n most_ticks (length samples) (lines text) text refl

pub block_bounded : BlockBounded
unfolding reads
block_bounded n text samples =
    let f = block-fits n text samples in
    record {
      few = omega (arith, f.few);
      room = f.space;
      within = f.within;
      onward = f.onward;
      full = f.full;
      rest = f.rest;
      slot = λ s. λ v. λ e. (omega (arith, (f.slot s v e).0), (f.slot s v e).1);
    }

-- the same of a block as its reader leaves it
pub read_bounded : (n : ℕ) (text samples : List ℕ) (r : Block) (samples' : List ℕ) → block_read r samples' ≡ reads n text samples → Bounded n text samples r
read_bounded n text samples r samples' e = let b : r ≡ (reads n text samples).block = ap (λ (x : BlockRead). x.block) e in rw b (block_bounded n text samples)

pub inputs-first : InputsFirst
unfolding reads
inputs-first n text samples =
    let f = block-fits n text samples in
    let xs : List ℕ = flatten (starting n most_ticks (length samples) (lines text)).ticks in
    let h : length xs ≤ length samples = omega (arith, f.wide, f.space) in
    rw (sets-front xs samples h) (take_at xs (drop (length xs) samples) _ f.wide)
