-- A line, word by word: whether it is a tick, and its words as they are stored.
use Prim.Native.Nat.{ℕ, suc, ◌+◌, ◌≤◌, ◌<◌}
use mathlib.Core.Path.{◌≡◌, refl, sym, ap, ◌∙◌}
use mathlib.Core.Bool.{Bool, true, false, not}
use mathlib.Core.List.{List, [], map}
use mathlib.Core.Option.{Option, none, some}
use native.Mathlib.Numerals.{add-one}
use native.Mathlib.Omega.{arith}
use lib.Dec.{eqb}
use lib.IntN.{ℤ}
use lib.ListN.{length, set, length-set}
use lib.Seq.{sets}
use Rattle.word.specs.Choice.{◌and◌}
use Rattle.std.specs.Prelude.{is_none}
use Rattle.number.specs.Promises.{found}
use Rattle.player.specs.Samples.{words, word_in, is_number, are_numbers, is_tick}
use Rattle.player.specs.Promises.{Word}

-- a word that is a number
number_read : (o : Option ℤ) → is_number o ≡ not (is_none (found o))
number_read none = refl
number_read (some z) = refl

and-true : (t : Bool) → t ≡ t and true
and-true true = refl
and-true false = refl

and-false : (t : Bool) → false ≡ t and false
and-false true = refl
and-false false = refl

-- so many words are counted before the rest of the line, each a number
pub record Counting (line rest : List ℕ) (count : ℕ) : Type 0 where
  pub few : count + length rest ≤ length line
  pub counted : length (words line) ≡ count + length (words rest)
  pub numbers : are_numbers (words line) ≡ are_numbers (words rest)

pub counting_starts : (line : List ℕ) → Counting line line 0
counting_starts line = record { few = omega arith; counted = omega arith; numbers = refl }

pub counted-all : (line rest : List ℕ) (count inputs : ℕ) → Counting line rest count → words rest ≡ [] → eqb count inputs ≡ is_tick inputs (words line)
counted-all line rest count inputs i e =
    let n : are_numbers (words line) ≡ true = i.numbers ∙ ap are_numbers e in
    let k : length (words rest) ≡ 0 = ap length e in
    let l : length (words line) ≡ count = omega (arith, i.counted) in
    rw (n, l) (and-true (eqb count inputs))

-- the numbers of the rest are stored from `next` on, those before it already
pub record Storing (line samples₀ : List ℕ) (from : ℕ) (samples rest : List ℕ) (next : ℕ) : Type 0 where
  pub long : length samples ≡ length samples₀
  pub room : next + length (words rest) ≤ length samples
  pub done : sets samples next (map word_in (words rest)) ≡ sets samples₀ from (map word_in (words line))

pub storing_starts : (line samples : List ℕ) (from : ℕ) → from + length (words line) ≤ length samples → Storing line samples from samples line from
storing_starts line samples from h = record { long = refl; room = h; done = refl }

module _ (line samples₀ : List ℕ) (from : ℕ) (samples rest : List ℕ) (next : ℕ) (i : Storing line samples₀ from samples rest next) where
  module _ (word behind : List ℕ) (w : Word rest word behind) where
    more : length (words rest) ≡ suc (length (words behind))
    more = ap length w.words-are

    pub stored_room : next < length samples
    stored_room = omega (arith, more, i.room)

    pub stored_one : (x : ℕ) → x ≡ word_in word → Storing line samples₀ from (set samples next x) behind (next + 1)
    stored_one x e =
        record {
          long = length-set samples next x ∙ i.long;
          room = omega (arith, more, i.room, length-set samples next x);
          done = rw (e, add-one next) (ap (λ (ws : List (List ℕ)). sets samples next (map word_in ws)) (sym w.words-are) ∙ i.done);
        }
