-- A node's line and its columns: the line of a node is right, and a right line is the line of its node.
use Prim.Native.Nat.{ℕ, suc, ◌*◌, ◌+◌, ◌^◌, ◌≤◌, ◌<◌}
use mathlib.Core.Path.{◌≡◌, refl, sym, ap, ap₂, ◌∙◌}
use mathlib.Core.Bool.{not}
use mathlib.Core.List.{List, [], ◌∷◌, ◌++◌, map, append_assoc}
use mathlib.Core.Option.{Option, none, some}
use native.Mathlib.Omega.{arith}
use borrow.Author.Tests.{not-false, lt-ltb, eqb-true, eq-eqb, lt-leb}
use lib.Dec.{eqb}
use lib.IntN.{ℤ, pos, negsuc}
use lib.ListN.{length, get_or, take, drop, take-append-drop, length-drop, drop_of_length-le}
use lib.Seq.{get_or-drop, take_at, drop_at, drop-drop, drop-cons, length-take-le}
use Rattle.refusal.specs.Answer.{refused_at}
use Rattle.word.specs.Word.{value}
use Rattle.word.specs.Tick.{Words}
use Rattle.word.proofs.Each.{word_at}
use Rattle.word.proofs.Low.{value-small, low_value}
use Rattle.word.proofs.Lists.{first-true, second-true}
use Rattle.column.specs.Checks.{when}
use Rattle.number.specs.Number.{numeral, column, number_in, word_of}
use Rattle.number.specs.Row.{line_feed, columns, row}
use Rattle.number.specs.Laws.{ColumnHolds}
use Rattle.column.specs.Line.{node_line, column_of, entries, is_node, number_refusal, line_refusal}
use Rattle.number.proofs.Texts.{column-length, read-column}
use Rattle.number.proofs.Room.{value_low}
use Rattle.number.proofs.Written.{drop_past, text-holds, holds-behind}
use Rattle.number.proofs.RowText.{columns-hold, columns-length}
use Rattle.column.proofs.Storing.{Right, when-none}
use Rattle.column.proofs.Writes.{node-room, node_line_length}

-- the line of node i with three words
node-column : (i : ℕ) → i < 512 → length (numeral (pos i)) ≤ 4
node-column i h = rw (value-small i (omega arith)) at (node-room i h)

three-words : (ws : List ℕ) → length ws ≡ 3 → get_or ws 0 0 ∷ (get_or ws 1 0 ∷ (get_or ws 2 0 ∷ [])) ≡ ws
three-words [] e = absurd (omega arith)
three-words (a ∷ []) e = absurd (omega arith)
three-words (a ∷ (b ∷ [])) e = absurd (omega arith)
three-words (a ∷ (b ∷ (c ∷ []))) e = refl
three-words (a ∷ (b ∷ (c ∷ (d ∷ ws)))) e = absurd (omega arith)

module _ (i : ℕ) (ws : List ℕ) (few : i < 512) (w : Words ws) (n : length ws ≡ 3) where
  first : length (column 4 (pos i)) ≡ 4
  first = column-length 4 (pos i) (node-column i few)

  -- its columns hold their numbers, and so are read as these
  pub node-holds : ColumnHolds (node_line i (map value ws)) 0 4 (pos i)
  unfolding node_line
  node-holds =
      text-holds (node_line i (map value ws)) 0 4 (pos i) (node-column i few) (lt-ltb i (2 ^ 31) (omega arith)) (take_at (column 4 (pos i)) (row (map value ws)) 4 first)

  pub entry-holds : (j : ℕ) → j < 3 → ColumnHolds (node_line i (map value ws)) (4 + 12 * j) 12 (value (get_or ws j 0))
  unfolding node_line
  entry-holds j h = holds-behind (column 4 (pos i)) (row (map value ws)) 4 (12 * j) (4 + 12 * j) 12 (value (get_or ws j 0)) first refl (columns-hold ws j (line_feed ∷ []) w (omega arith))

  node-number : number_in (column_of 0 (node_line i (map value ws))) ≡ some (pos i)
  node-number = node-holds.number

  line-number : (j : ℕ) → j < 3 → number_in (column_of (suc j) (node_line i (map value ws))) ≡ some (value (get_or ws j 0))
  line-number j h = (entry-holds j h).number

  line_feed_lem : get_or (node_line i (map value ws)) 40 0 ≡ line_feed
  unfolding node_line
  line_feed_lem =
      let c : length (columns (map value ws)) ≡ 36 = columns-length ws w ∙ ap (λ (k : ℕ). 12 * k) n in
      sym (get_or-drop 40 (node_line i (map value ws)) 0 0)
      ∙ ap (λ (l : List ℕ). get_or l 0 0)
      (drop_past (column 4 (pos i)) (columns (map value ws) ++ (line_feed ∷ [])) 4 36 40 first refl ∙ drop_at (columns (map value ws)) (line_feed ∷ []) 36 c)

  pub node_line_right : line_refusal i (node_line i (map value ws)) ≡ none
  unfolding line_refusal
  node_line_right =
      rw (
        lt-leb 512 i few,
        node_line_length i ws few w n,
        line_feed_lem,
        node-number,
        eq-eqb i i refl,
        line-number 0 (omega arith),
        line-number 1 (omega arith),
        line-number 2 (omega arith),
      )

  pub node_line_entries : entries (node_line i (map value ws)) ≡ ws
  node_line_entries =
      rw (
        line-number 0 (omega arith),
        line-number 1 (omega arith),
        line-number 2 (omega arith),
        low_value (get_or ws 0 0) (word_at ws 0 w),
        low_value (get_or ws 1 0) (word_at ws 1 w),
        low_value (get_or ws 2 0) (word_at ws 2 w),
      )
      (three-words ws n)

-- a column that is right is the text of its number
number-again : (i j : ℕ) (c : List ℕ) → length c ≡ 12 → number_refusal i (suc j) (number_in c) ≡ none → column 12 (value (word_of (number_in c))) ≡ c
number-again i j c l e = go (number_in c) refl e
  where
    go : (o : Option ℤ) → number_in c ≡ o → number_refusal i (suc j) o ≡ none → column 12 (value (word_of o)) ≡ c
    go none q e = let x : ◌≡◌ {A = ℕ} 0 1 = cc in absurd (omega arith)
    go (some z) q e = let r = read-column c z q in rw (value_low z r.1, ← l) r.0

node-again : (i : ℕ) (c : List ℕ) → length c ≡ 4 → number_refusal i 0 (number_in c) ≡ none → column 4 (pos i) ≡ c
node-again i c l e = go (number_in c) refl e
  where
    is-node : (z : ℤ) → when (not (is_node i z)) (refused_at 2 i) ≡ none → z ≡ pos i
    is-node (pos n) e = ap pos (eqb-true n i (not-false (eqb n i) (when-none (not (eqb n i)) (refused_at 2 i) e)))
    is-node (negsuc n) e = let x : ◌≡◌ {A = ℕ} 0 1 = cc in absurd (omega arith)

    go : (o : Option ℤ) → number_in c ≡ o → number_refusal i 0 o ≡ none → column 4 (pos i) ≡ c
    go none q e = let x : ◌≡◌ {A = ℕ} 0 1 = cc in absurd (omega arith)
    go (some z) q e = rw (← is-node z e, ← l) (read-column c z q).0

-- a line in its parts
cut : (a n : ℕ) (l : List ℕ) → drop a l ≡ take n (drop a l) ++ drop (a + n) l
cut a n l = sym (take-append-drop n (drop a l)) ∙ ap (λ (r : List ℕ). take n (drop a l) ++ r) (drop-drop n a l)

line_parts : (l : List ℕ) → length l ≡ 41 → get_or l 40 0 ≡ line_feed → l ≡ column_of 0 l ++ (column_of 1 l ++ (column_of 2 l ++ (column_of 3 l ++ (line_feed ∷ []))))
line_parts l e f =
    let h : length l ≤ 41 = omega arith in
    let d : drop 40 l ≡ line_feed ∷ [] = drop-cons l 40 0 (omega arith) ∙ ap₂ {C = List ℕ} (λ x xs. x ∷ xs) f (drop_of_length-le l h) in
    sym (take-append-drop 4 l)
    ∙ ap (λ (r : List ℕ). take 4 l ++ r)
    (cut 4 12 l ∙ ap (λ (r : List ℕ). take 12 (drop 4 l) ++ r) (cut 16 12 l ∙ ap (λ (r : List ℕ). take 12 (drop 16 l) ++ r) (cut 28 12 l ∙ ap (λ (r : List ℕ). take 12 (drop 28 l) ++ r) d)))

regroup : (a b c d e : List ℕ) → a ++ ((b ++ (c ++ (d ++ []))) ++ e) ≡ a ++ (b ++ (c ++ (d ++ e)))
regroup a b c d e = simp append_assoc

pub right-again : (i : ℕ) (l : List ℕ) → Right i l → node_line i (map value (entries l)) ≡ l
unfolding node_line
right-again i l r =
    let e : length l ≡ 41 = eqb-true (length l) 41 (first-true (eqb (length l) 41) (eqb (get_or l 40 0) line_feed) r.length-right) in
    let f : get_or l 40 0 ≡ line_feed = eqb-true (get_or l 40 0) line_feed (second-true (eqb (length l) 41) (eqb (get_or l 40 0) line_feed) r.length-right) in
    regroup (column 4 (pos i)) (text 1) (text 2) (text 3) (line_feed ∷ [])
    ∙ rw (
      node-again i (column_of 0 l) (length-take-le 4 l (omega arith)) r.column0,
      number-again i 0 (column_of 1 l) (later 4 e (omega arith)) r.column1,
      number-again i 1 (column_of 2 l) (later 16 e (omega arith)) r.column2,
      number-again i 2 (column_of 3 l) (later 28 e (omega arith)) r.column3,
    )
    (sym (line_parts l e f))
  where
    text : ℕ → List ℕ
    text j = column 12 (value (word_of (number_in (column_of j l))))

    later : (a : ℕ) → length l ≡ 41 → a + 12 ≤ 41 → length (take 12 (drop a l)) ≡ 12
    later a e h = length-take-le 12 (drop a l) (rw (length-drop a l) (omega arith))
