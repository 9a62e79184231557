-- A block of ticks, line by line.
use Prim.Native.Nat.{ℕ, suc, ◌-◌, ◌≤◌, ◌<◌}
use mathlib.Core.Path.{◌≡◌, refl, sym, ap, ◌∙◌}
use mathlib.Core.Bool.{Bool, true, false}
use mathlib.Core.List.{List, [], ◌∷◌, map}
use mathlib.Core.Option.{Option, none, some}
use native.Mathlib.Omega.{arith}
use borrow.Author.Tests.{eqb-true}
use lib.Dec.{eqb, ltb}
use lib.IntN.{ℤ}
use lib.ListN.{length, drop}
use Rattle.word.specs.Choice.{pick, ◌and◌}
use Rattle.word.specs.Word.{low}
use Rattle.word.specs.Tick.{head_or}
use Rattle.number.specs.Number.{same, number_in}
use Rattle.column.specs.Line.{lines}
use Rattle.player.specs.declared.samples.Stop.TheVariants.{Full, Rest}
use Rattle.player.specs.declared.samples.Kind.{Kind}
use Rattle.player.specs.declared.samples.Kind.TheVariants.{Tick, Control}
use Rattle.std.specs.Prelude.{Option as StdOption, Some, None}
use Rattle.player.specs.Samples.{Said, words, word_in, are_numbers, is_tick, setting, control_said, control_word, words_said, longest_line, said, text_of, stopped, line_then, no_more, starting}
use Rattle.player.specs.Samples.Said.{inputs, control, malformed}
use Rattle.player.specs.Promises.{kind_of}
use Rattle.player.proofs.WholeLines.{first-whole, no_whole}

-- what is known of a line by its kind
pub kind-malformed : (s : Said) (k : StdOption Kind) → k ≡ kind_of s → k ≡ None → s ≡ malformed
kind-malformed (inputs xs) k e f = let z : ◌≡◌ {A = ℕ} 0 1 = cc in absurd (omega arith)
kind-malformed (control s v) k e f = let z : ◌≡◌ {A = ℕ} 0 1 = cc in absurd (omega arith)
kind-malformed malformed k e f = refl

pub kind-control : (s : Said) (k : StdOption Kind) (slot value : ℕ) → k ≡ kind_of s → k ≡ Some (Control slot value) → s ≡ control slot value
kind-control (inputs xs) k slot value e f = let z : ◌≡◌ {A = ℕ} 0 1 = cc in absurd (omega arith)
kind-control (control s v) k slot value e f =
    let g : s ≡ slot = cc in
    let h : v ≡ value = cc in
    rw (g, h)
kind-control malformed k slot value e f = let z : ◌≡◌ {A = ℕ} 0 1 = cc in absurd (omega arith)

no_tick : (ws : List (List ℕ)) → kind_of (control_said ws) ≡ Some Tick → ⊥
no_tick [] e = let z : ◌≡◌ {A = ℕ} 0 1 = cc in omega arith
no_tick (s ∷ []) e = let z : ◌≡◌ {A = ℕ} 0 1 = cc in omega arith
no_tick (s ∷ (v ∷ [])) e = go (number_in s) (number_in v) e
  where
    pick_tick : (t : Bool) (a b : ℕ) → kind_of (pick t (control a b) malformed) ≡ Some Tick → ⊥
    pick_tick true a b f = let z : ◌≡◌ {A = ℕ} 0 1 = cc in omega arith
    pick_tick false a b f = let z : ◌≡◌ {A = ℕ} 0 1 = cc in omega arith

    go : (o p : Option ℤ) → kind_of (setting o p) ≡ Some Tick → ⊥
    go none p f = let z : ◌≡◌ {A = ℕ} 0 1 = cc in omega arith
    go (some a) none f = let z : ◌≡◌ {A = ℕ} 0 1 = cc in omega arith
    go (some a) (some b) f = pick_tick (ltb (low a) 16) (low a) (low b) f
no_tick (s ∷ (v ∷ (w ∷ ws))) e = let z : ◌≡◌ {A = ℕ} 0 1 = cc in omega arith

-- a tick says its n words
pub record TickSaid (n : ℕ) (t : List ℕ) : Type 0 where
  pub says : said n t ≡ inputs (map word_in (words t))
  pub count : length (words t) ≡ n

pub kind-tick : (n : ℕ) (t : List ℕ) (k : StdOption Kind) → k ≡ kind_of (said n t) → k ≡ Some Tick → TickSaid n t
unfolding said
kind-tick n t k e f = by_length (ltb (length t) longest_line) refl (sym e ∙ f)
  where
    by_count : (u v : Bool) → ltb (length t) longest_line ≡ true → eqb (length (words t)) n ≡ u → are_numbers (words t) ≡ v → same (head_or [] (words t)) control_word ≡ false
        → kind_of (pick (u and v) (inputs (map word_in (words t))) malformed) ≡ Some Tick → TickSaid n t
    by_count true true s p q c g = record { says = rw (s, c, p, q); count = eqb-true (length (words t)) n p }
    by_count true false s p q c g = let z : ◌≡◌ {A = ℕ} 0 1 = cc in absurd (omega arith)
    by_count false v s p q c g = let z : ◌≡◌ {A = ℕ} 0 1 = cc in absurd (omega arith)

    by_first : (u : Bool) → ltb (length t) longest_line ≡ true → same (head_or [] (words t)) control_word ≡ u
        → kind_of (pick u (control_said (drop 1 (words t))) (pick (is_tick n (words t)) (inputs (map word_in (words t))) malformed)) ≡ Some Tick → TickSaid n t
    by_first true s c g = absurd (no_tick (drop 1 (words t)) g)
    by_first false s c g = by_count (eqb (length (words t)) n) (are_numbers (words t)) s refl refl c g

    by_length : (u : Bool) → ltb (length t) longest_line ≡ u → kind_of (pick u (words_said n (words t)) malformed) ≡ Some Tick → TickSaid n t
    by_length true s g = by_first (same (head_or [] (words t)) control_word) s refl g
    by_length false s g = let z : ◌≡◌ {A = ℕ} 0 1 = cc in absurd (omega arith)

-- what stands first in a text
module _ (n most room : ℕ) where
  pub starting-full : (ls : List (List ℕ)) → no_more n most room ≡ true → starting n most room ls ≡ stopped 0 Full
  unfolding starting
  starting-full [] e = rw e
  starting-full (l ∷ ls) e = rw e

  module _ (t : List ℕ) (e : no_more n most room ≡ false) where
    pub starting-rest : length t ≤ length (text_of t) → starting n most room (lines t) ≡ stopped 0 Rest
    unfolding starting lines
    starting-rest h = go t refl
      where
        go : (u : List ℕ) → u ≡ t → starting n most room (lines t) ≡ stopped 0 Rest
        go [] f = rw (sym f, e)
        go (b ∷ bs) f =
            let k : length (b ∷ bs) ≡ length t = ap length f in
            let w = no_whole t (omega arith) h in
            rw (w.split, e, w.unfinished)

    pub starting-line : length (text_of t) < length t → starting n most room (lines t) ≡ line_then (said n (text_of t)) (suc (length (text_of t))) (starting n (most - 1) (room - n) (lines (drop (suc (length (text_of t))) t)))
    unfolding starting
    starting-line h = let w = first-whole t h in rw (w.split, e, w.ends, w.text, w.bytes)
