-- The text of a state file: its lines have 13 bytes and hold the words that they are of, and so the file.
use Prim.Native.Nat.{ℕ, zero, suc, ◌+◌, ◌*◌, ◌^◌, ◌≤◌, ◌<◌}
use mathlib.Core.Path.{◌≡◌, refl, sym, ap, ◌∙◌}
use mathlib.Core.Bool.{true}
use mathlib.Core.List.{List, [], ◌∷◌, ◌++◌, map, append_assoc, append-nil}
use mathlib.Core.Option.{Option, none, some}
use native.Mathlib.Omega.{arith}
use lib.IntN.{ℤ, pos}
use lib.ListN.{length, take, drop, length-append}
use lib.Seq.{take_at, drop_at}
use Rattle.word.specs.Limits.{most_cells}
use Rattle.word.specs.Tick.{Words}
use Rattle.word.specs.Word.{value, low}
use Rattle.word.proofs.Low.{value-small, low_value, low_word}
use Rattle.number.specs.Number.{numeral, column, number_in, word_of}
use Rattle.number.specs.Row.{line_feed, row}
use Rattle.number.proofs.Texts.{column-length, column-read, same_refl, same_true}
use Rattle.number.proofs.Room.{word_room, value-fits}
use Rattle.saving.specs.File.{lines, state_file, state_bytes, words_in, state_cells, is_state}

pub line-text : (z : ℤ) → row (z ∷ []) ≡ column 12 z ++ (line_feed ∷ [])
line-text z = ap (λ (c : List ℕ). c ++ (line_feed ∷ [])) (append-nil (column 12 z))

-- the line of a number that has room in it, with a text behind it
module _ (z : ℤ) (room : length (numeral z) ≤ 12) where
  pub line-length : length (row (z ∷ [])) ≡ 13
  line-length = ap length (line-text z) ∙ length-append (column 12 z) (line_feed ∷ []) ∙ ap (λ (k : ℕ). k + 1) (column-length 12 z room)

  module _ (rest : List ℕ) where
    pub line_parts : row (z ∷ []) ++ rest ≡ column 12 z ++ (line_feed ∷ rest)
    line_parts = ap (λ (l : List ℕ). l ++ rest) (line-text z) ∙ append_assoc (column 12 z) (line_feed ∷ []) rest

    pub past_line : drop 13 (row (z ∷ []) ++ rest) ≡ rest
    past_line = drop_at (row (z ∷ [])) rest 13 line-length

    pub column_of_line : take 12 (row (z ∷ []) ++ rest) ≡ column 12 z
    column_of_line = rw line_parts (take_at (column 12 z) (line_feed ∷ rest) 12 (column-length 12 z room))

-- the lines of words
pub lines-length : (ws : List ℕ) → Words ws → length (lines (map value ws)) ≡ 13 * length ws
lines-length [] w = refl
lines-length (x ∷ ws) (p, w) =
    length-append (row (value x ∷ [])) (lines (map value ws)) ∙ omega (arith, line-length (value x) (word_room x p), lines-length ws w)

lines-hold : (ws : List ℕ) → Words ws → words_in (length ws) (lines (map value ws)) ≡ ws
unfolding words_in
lines-hold [] w = refl
lines-hold (x ∷ ws) (p, w) =
    let room : length (numeral (value x)) ≤ 12 = word_room x p in
    rw (column_of_line (value x) room (lines (map value ws)), column-read 12 (value x) room (value-fits x p), past_line (value x) room (lines (map value ws)), low_value x p)
    (ap {B = List ℕ} (λ l. x ∷ l) (lines-hold ws w))

-- what stands in n lines are n words, whatever the text
pub words_in_lem : (n : ℕ) (text : List ℕ) → Words (words_in n text)
unfolding words_in low
words_in_lem zero text = tt
words_in_lem (suc n) text = (word_of_lem (number_in (take 12 text)), words_in_lem n (drop 13 text))
  where
    word_of_lem : (o : Option ℤ) → word_of o < 2 ^ 32
    word_of_lem none = omega arith
    word_of_lem (some z) = low_word z

pub words_count : (n : ℕ) (text : List ℕ) → length (words_in n text) ≡ n
unfolding words_in
words_count zero text = refl
words_count (suc n) text = ap suc (words_count n (drop 13 text))

pub count_room : (n : ℕ) → n ≤ most_cells → length (numeral (pos n)) ≤ 12
count_room n h = rw (value-small n (omega arith)) at (word_room n (omega arith))

-- the file of words: its length, the cells in it, and that it passes
module _ (ws : List ℕ) (w : Words ws) (few : length ws ≤ most_cells) where
  pub file-length : length (state_file ws) ≡ state_bytes (length ws)
  unfolding state_file
  file-length =
      length-append (row (pos (length ws) ∷ [])) (lines (map value ws))
      ∙ omega (arith, line-length (pos (length ws)) (count_room (length ws) few), lines-length ws w)

  pub file-holds : state_cells (length ws) (state_file ws) ≡ ws
  unfolding state_file
  file-holds = rw (past_line (pos (length ws)) (count_room (length ws) few) (lines (map value ws))) (lines-hold ws w)

  pub file_passes : is_state (length ws) (state_file ws) ≡ true
  unfolding is_state
  file_passes = rw file-holds (same_refl (state_file ws))

-- a file that passes
module _ (n : ℕ) (file : List ℕ) (e : is_state n file ≡ true) where
  pub file_of_cells : state_file (state_cells n file) ≡ file
  unfolding is_state
  file_of_cells = same_true (state_file (state_cells n file)) file e

  pub file-bytes : n ≤ most_cells → length file ≡ state_bytes n
  file-bytes few =
      let k : length (state_cells n file) ≡ n = words_count n (drop 13 file) in
      ap length (sym file_of_cells) ∙ file-length (state_cells n file) (words_in_lem n (drop 13 file)) (omega arith) ∙ ap state_bytes k
