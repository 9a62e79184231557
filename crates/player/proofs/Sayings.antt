-- What a line says, by its first word.
use Rattle.std.proofs.Common.{◌≡◌, ℕ, ◌≤◌, ◌<◌, List, [], map, length, drop, true, false, Bool, refl}
use borrow.Author.Tests.{lt-ltb, le-ltb}
use Rattle.std.specs.Prelude.{None}
use Rattle.std.specs.Bool.{then_some}
use Rattle.word.specs.Tick.{head_or}
use Rattle.word.specs.Choice.{pick}
use Rattle.number.specs.Number.{same}
use Rattle.player.specs.declared.samples.Kind.TheVariants.{Tick}
use Rattle.player.specs.Samples.{words, word_in, is_tick, control_said, control_word, longest_line, said}
use Rattle.player.specs.Samples.Said.{inputs, malformed}
use Rattle.player.specs.Promises.{kind_of}

pub says_long : (line : List ℕ) (n : ℕ) → longest_line ≤ length line → None ≡ kind_of (said n line)
unfolding said
says_long line n h = rw (le-ltb (length line) longest_line h)

module _ (line : List ℕ) (n : ℕ) (short : length line < longest_line) where
  pub says_control : (rest : List ℕ) → (same (head_or [] (words line)) control_word ≡ true) × (words rest ≡ drop 1 (words line)) → kind_of (control_said (words rest)) ≡ kind_of (said n line)
  unfolding said
  says_control rest (e, r) = rw (lt-ltb (length line) longest_line short, e, r)

  pub says_tick : same (head_or [] (words line)) control_word ≡ false → then_some (is_tick n (words line)) Tick ≡ kind_of (said n line)
  unfolding said
  says_tick e = rw (lt-ltb (length line) longest_line short, e) (go (is_tick n (words line)))
    where
      go : (b : Bool) → then_some b Tick ≡ kind_of (pick b (inputs (map word_in (words line))) malformed)
      go true = refl
      go false = refl
