-- A file's lines: the first one, and the rest.
use Prim.Native.Nat.{ℕ, zero, suc, ◌+◌, ◌-◌, ◌≤◌, ◌<◌, min}
use mathlib.Core.Path.{◌≡◌, refl, sym, ap, ◌∙◌}
use mathlib.Core.Bool.{Bool, true, false}
use mathlib.Core.List.{List, [], ◌∷◌, ◌++◌, append-nil}
use mathlib.Core.Logic.{◌≢◌}
use native.Mathlib.Decide.{ℕ_discrete, dec_le}
use native.Mathlib.Omega.{arith}
use borrow.Author.Tests.{eq-eqb, ne_eqb}
use lib.Dec.{eqb}
use lib.ListN.{length, get_or, take, drop, length-take, length-drop, length-append, drop_of_length-le}
use lib.Seq.{get_or-take, take-nil, take_all, take_at, drop_at}
use Rattle.std.specs.Prelude.{Option as StdOption, Some, None}
use Rattle.std.specs.Option.{option_eq}
use Rattle.word.specs.Choice.{pick}
use Rattle.number.specs.Row.{line_feed}
use Rattle.column.specs.Line.{lines, before, whole}
use Rattle.column.specs.Promises.{FirstFeed, first_line}

pub first-take : (file : List ℕ) → first_line file ≡ take (length (first_line file)) file
first-take [] = refl
first-take (b ∷ bs) = go (eqb b line_feed) (first-take bs)
  where
    go : (t : Bool) → first_line bs ≡ take (length (first_line bs)) bs → pick t (b ∷ []) (b ∷ first_line bs) ≡ take (length (pick t (b ∷ []) (b ∷ first_line bs))) (b ∷ bs)
    go true e = refl
    go false e = ap {B = List ℕ} (λ l. b ∷ l) e

pub lines-first : (file : List ℕ) → 0 < length file → lines file ≡ first_line file ∷ lines (drop (length (first_line file)) file)
unfolding lines
lines-first [] h = absurd (omega arith)
lines-first (b ∷ []) h = go (eqb b line_feed)
  where
    go : (t : Bool) → pick t ((b ∷ []) ∷ []) ((b ∷ []) ∷ []) ≡ pick t (b ∷ []) (b ∷ []) ∷ lines (drop (length (pick t (b ∷ []) (b ∷ []))) (b ∷ []))
    go true = refl
    go false = refl
lines-first (b ∷ (d ∷ bs)) h = go (eqb b line_feed) (lines-first (d ∷ bs) (omega arith))
  where
    go : (t : Bool) → lines (d ∷ bs) ≡ first_line (d ∷ bs) ∷ lines (drop (length (first_line (d ∷ bs))) (d ∷ bs)) →
        pick t ((b ∷ []) ∷ lines (d ∷ bs)) (before b (lines (d ∷ bs))) ≡ pick t (b ∷ []) (b ∷ first_line (d ∷ bs)) ∷ lines (drop (length (pick t (b ∷ []) (b ∷ first_line (d ∷ bs)))) (b ∷ (d ∷ bs)))
    go true e = refl
    go false e = ap (before b) e

pub first-within : (file : List ℕ) (at : ℕ) → length (first_line (drop at file)) ≤ length file - at
first-within file at =
    let e : length (first_line (drop at file)) ≡ length (take (length (first_line (drop at file))) (drop at file)) = ap length (first-take (drop at file)) in
    omega (arith, length-take (length (first_line (drop at file))) (drop at file), length-drop at file)

-- 41 bytes, the last a line feed
pub not-whole : (l : List ℕ) → (length l ≡ 41 → ⊥) → false ≡ whole l
not-whole l n = rw (ne_eqb (length l) 41 n)

-- the first line of a beginning
pub first_prefix : (k : ℕ) (file : List ℕ) → first_line (take k file) ≡ take k (first_line file)
first_prefix zero file = refl
first_prefix (suc k) [] = refl
first_prefix (suc k) (b ∷ bs) = go (eqb b line_feed) (first_prefix k bs)
  where
    go : (t : Bool) → first_line (take k bs) ≡ take k (first_line bs) → pick t (b ∷ []) (b ∷ first_line (take k bs)) ≡ take (suc k) (pick t (b ∷ []) (b ∷ first_line bs))
    go true e = rw (take-nil {A = ℕ} k)
    go false e = ap {B = List ℕ} (λ l. b ∷ l) e

first_more : (b : ℕ) (bs : List ℕ) → b ≢ line_feed → first_line (b ∷ bs) ≡ b ∷ first_line bs
first_more b bs n = rw (ne_eqb b line_feed n)

-- only its last byte is a line feed
first_inner : (s : List ℕ) (k : ℕ) → suc k < length (first_line s) → get_or (first_line s) k 0 ≢ line_feed
first_inner [] k h e = absurd (omega arith)
first_inner (b ∷ bs) k h e = go (first_inner bs) (ℕ_discrete b line_feed) k h e
  where
    go : ((k : ℕ) → suc k < length (first_line bs) → get_or (first_line bs) k 0 ≢ line_feed) → Dec (b ≡ line_feed) → (k : ℕ) → suc k < length (first_line (b ∷ bs)) → get_or (first_line (b ∷ bs)) k 0 ≢ line_feed
    go ih (yes f) k h e = let l : length (first_line (b ∷ bs)) ≡ 1 = rw (eq-eqb b line_feed f) in omega arith
    go ih (no n) zero h e = n (rw (first_more b bs n) at e)
    go ih (no n) (suc k) h e =
        let l : length (first_line (b ∷ bs)) ≡ suc (length (first_line bs)) = ap length (first_more b bs n) in
        ih k (omega arith) (rw (first_more b bs n) at e)

-- 41 bytes show whether the line is whole
pub whole_cut : (s : List ℕ) → whole (first_line (take 41 s)) ≡ whole (first_line s)
whole_cut s = ap whole (first_prefix 41 s) ∙ go (dec_le (length (first_line s)) 41)
  where
    go : Dec (length (first_line s) ≤ 41) → whole (take 41 (first_line s)) ≡ whole (first_line s)
    go (yes g) = ap whole (take_all 41 (first_line s) g)
    go (no g) =
        let n : get_or (take 41 (first_line s)) 40 0 ≢ line_feed = λ e. first_inner s 40 (omega arith) (sym (get_or-take 41 (first_line s) 40 0 (omega arith)) ∙ e) in
        let l : length (take 41 (first_line s)) ≡ 41 = omega (arith, length-take 41 (first_line s)) in
        rw (eq-eqb (length (take 41 (first_line s))) 41 l, ne_eqb (get_or (take 41 (first_line s)) 40 0) line_feed n) (not-whole (first_line s) (λ e. omega arith))

-- the first line by its line feed
first_at : (s : List ℕ) (p : ℕ) → p < length s → ((k : ℕ) → k < p → get_or s k 0 ≢ line_feed) → get_or s p 0 ≡ line_feed → (length (first_line s) ≡ suc p) × (get_or (first_line s) p 0 ≡ line_feed)
first_at [] p h before e = absurd (omega arith)
first_at (b ∷ bs) zero h before e = rw (eq-eqb b line_feed e) (refl, e)
first_at (b ∷ bs) (suc p) h before e =
    let r = first_at bs p (omega arith) (λ k l. before (suc k) (omega arith)) e in
    rw (ne_eqb b line_feed (before 0 (omega arith))) (omega (arith, r.0), r.1)

first_none : (s : List ℕ) → ((k : ℕ) → k < length s → get_or s k 0 ≢ line_feed) → first_line s ≡ s
first_none [] none = refl
first_none (b ∷ bs) none = first_more b bs (none 0 (omega arith)) ∙ ap {B = List ℕ} (λ l. b ∷ l) (first_none bs (λ k l. none (suc k) (omega arith)))

-- its line feed is the 41st byte
whole_by_feed : (bytes : List ℕ) (p : ℕ) → FirstFeed bytes (Some p) → eqb p 40 ≡ whole (first_line bytes)
whole_by_feed bytes p f = go (ℕ_discrete p 40) (first_at bytes p f.0 f.1.0 f.1.1)
  where
    go : Dec (p ≡ 40) → (length (first_line bytes) ≡ suc p) × (get_or (first_line bytes) p 0 ≡ line_feed) → eqb p 40 ≡ whole (first_line bytes)
    go (yes e) (l, g) =
        let last : get_or (first_line bytes) 40 0 ≡ line_feed = rw e at g in
        rw (eq-eqb p 40 e, eq-eqb (length (first_line bytes)) 41 (omega arith), eq-eqb (get_or (first_line bytes) 40 0) line_feed last)
    go (no n) (l, g) = ne_eqb p 40 n ∙ not-whole (first_line bytes) (λ e. n (omega arith))

whole_none : (bytes : List ℕ) → FirstFeed bytes None → false ≡ whole (first_line bytes)
whole_none bytes f = rw (first_none bytes f) (go (ℕ_discrete (length bytes) 41))
  where
    go : Dec (length bytes ≡ 41) → false ≡ whole bytes
    go (yes e) = rw (eq-eqb (length bytes) 41 e, ne_eqb (get_or bytes 40 0) line_feed (f 40 (omega arith)))
    go (no n) = not-whole bytes n

pub whole_feed : (bytes : List ℕ) (r : StdOption ℕ) → FirstFeed bytes r → option_eq eqb r (Some 40) ≡ whole (first_line bytes)
whole_feed bytes None f = whole_none bytes f
whole_feed bytes (Some p) f = whole_by_feed bytes p f

-- the bytes of a chunk are the first of what is left
pub chunk_front : (left bytes rest : List ℕ) → left ≡ bytes ++ rest → length bytes ≡ min 41 (length left) → (bytes ≡ take 41 left) × (rest ≡ drop 41 left)
chunk_front left bytes rest e l = go (dec_le 41 (length left))
  where
    n : length left ≡ length bytes + length rest
    n = ap length e ∙ length-append bytes rest

    go : Dec (41 ≤ length left) → (bytes ≡ take 41 left) × (rest ≡ drop 41 left)
    go (yes h) = let m : length bytes ≡ 41 = omega (arith, l) in rw e (sym (take_at bytes rest 41 m), sym (drop_at bytes rest 41 m))
    go (no h) =
        let short : length rest ≤ 0 = omega (arith, n, l) in
        let z : rest ≡ [] = drop_of_length-le rest short in
        let b : bytes ≡ left = sym (e ∙ ap {B = List ℕ} (λ r. bytes ++ r) z ∙ append-nil bytes) in
        let few : length left ≤ 41 = omega arith in
        let d : drop 41 left ≡ [] = drop_of_length-le left few in
        (b ∙ sym (take_all 41 left few), z ∙ sym d)
