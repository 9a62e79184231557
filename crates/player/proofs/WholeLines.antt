-- A text whose first line has its line feed, and one that has none.
use Prim.Native.Nat.{ℕ, suc, ◌≤◌, ◌<◌}
use mathlib.Core.Path.{◌≡◌, refl, ap, ◌∙◌}
use mathlib.Core.Bool.{Bool, true, false}
use mathlib.Core.List.{List, [], ◌∷◌, ◌++◌}
use native.Mathlib.Omega.{arith}
use borrow.Author.Tests.{eqb-true}
use lib.Dec.{eqb}
use lib.ListN.{length, drop, length-append}
use lib.Seq.{drop-length}
use Rattle.word.specs.Choice.{pick}
use Rattle.number.specs.Row.{line_feed}
use Rattle.column.specs.Line.{lines}
use Rattle.column.specs.Promises.{first_line}
use Rattle.column.proofs.Lines.{lines-first}
use Rattle.player.specs.Samples.{text_of, whole}

feed_last : (t : List ℕ) → length (text_of t) < length t → first_line t ≡ text_of t ++ (line_feed ∷ [])
feed_last [] h = absurd (omega arith)
feed_last (b ∷ bs) h = go (eqb b line_feed) refl h (feed_last bs)
  where
    go : (u : Bool) → eqb b line_feed ≡ u → length (pick u [] (b ∷ text_of bs)) < suc (length bs) → (length (text_of bs) < length bs → first_line bs ≡ text_of bs ++ (line_feed ∷ []))
        → pick u (b ∷ []) (b ∷ first_line bs) ≡ pick u [] (b ∷ text_of bs) ++ (line_feed ∷ [])
    go true e g i = ap {B = List ℕ} (λ x. x ∷ []) (eqb-true b line_feed e)
    go false e g i = ap {B = List ℕ} (λ l. b ∷ l) (i (omega arith))

no_feed : (t : List ℕ) → length t ≤ length (text_of t) → (first_line t ≡ t) × (whole t ≡ false)
no_feed [] h = (refl, refl)
no_feed (b ∷ bs) h = go (eqb b line_feed) h (no_feed bs)
  where
    go : (u : Bool) → suc (length bs) ≤ length (pick u [] (b ∷ text_of bs)) → (length bs ≤ length (text_of bs) → (first_line bs ≡ bs) × (whole bs ≡ false))
        → (pick u (b ∷ []) (b ∷ first_line bs) ≡ b ∷ bs) × (pick u true (whole bs) ≡ false)
    go true g i = absurd (omega arith)
    go false g i = (ap {B = List ℕ} (λ l. b ∷ l) (i (omega arith)).0, (i (omega arith)).1)

pub no_feed_text : (t : List ℕ) → whole t ≡ false → text_of t ≡ t
no_feed_text [] e = refl
no_feed_text (b ∷ bs) e = go (eqb b line_feed) e (no_feed_text bs)
  where
    go : (u : Bool) → pick u true (whole bs) ≡ false → (whole bs ≡ false → text_of bs ≡ bs) → pick u [] (b ∷ text_of bs) ≡ b ∷ bs
    go true f i = let z : ◌≡◌ {A = ℕ} 0 1 = cc in absurd (omega arith)
    go false f i = ap {B = List ℕ} (λ l. b ∷ l) (i f)

pub longer_text : (t more : List ℕ) → whole t ≡ false → text_of (t ++ more) ≡ t ++ text_of more
longer_text [] more e = refl
longer_text (b ∷ bs) more e = go (eqb b line_feed) e (longer_text bs more)
  where
    go : (u : Bool) → pick u true (whole bs) ≡ false → (whole bs ≡ false → text_of (bs ++ more) ≡ bs ++ text_of more) → pick u [] (b ∷ text_of (bs ++ more)) ≡ b ∷ (bs ++ text_of more)
    go true f i = let z : ◌≡◌ {A = ℕ} 0 1 = cc in absurd (omega arith)
    go false f i = ap {B = List ℕ} (λ l. b ∷ l) (i f)

pub first-text : (t : List ℕ) → text_of (first_line t) ≡ text_of t
first-text [] = refl
first-text (b ∷ bs) = go (eqb b line_feed) refl (first-text bs)
  where
    go : (u : Bool) → eqb b line_feed ≡ u → text_of (first_line bs) ≡ text_of bs → text_of (pick u (b ∷ []) (b ∷ first_line bs)) ≡ pick u [] (b ∷ text_of bs)
    go true e i = rw e
    go false e i = rw e (ap {B = List ℕ} (λ l. b ∷ l) i)

pub text_of_lem : (t more : List ℕ) → text_of (text_of t ++ (line_feed ∷ more)) ≡ text_of t
text_of_lem [] more = refl
text_of_lem (b ∷ bs) more = go (eqb b line_feed) refl (text_of_lem bs more)
  where
    go : (u : Bool) → eqb b line_feed ≡ u → text_of (text_of bs ++ (line_feed ∷ more)) ≡ text_of bs → text_of (pick u [] (b ∷ text_of bs) ++ (line_feed ∷ more)) ≡ pick u [] (b ∷ text_of bs)
    go true e i = refl
    go false e i = rw e (ap {B = List ℕ} (λ l. b ∷ l) i)

is_whole : (t more : List ℕ) → whole (t ++ (line_feed ∷ more)) ≡ true
is_whole [] more = refl
is_whole (b ∷ bs) more = go (eqb b line_feed) (is_whole bs more)
  where
    go : (u : Bool) → whole (bs ++ (line_feed ∷ more)) ≡ true → pick u true (whole (bs ++ (line_feed ∷ more))) ≡ true
    go true i = refl
    go false i = i

-- the first line has its line feed
pub record FirstWhole (t line : List ℕ) : Type 0 where
  pub split : lines t ≡ line ∷ lines (drop (suc (length (text_of t))) t)
  pub text : text_of line ≡ text_of t
  pub ends : whole line ≡ true
  pub bytes : length line ≡ suc (length (text_of t))

pub first-whole : (t : List ℕ) → length (text_of t) < length t → FirstWhole t (text_of t ++ (line_feed ∷ []))
first-whole t h =
    let f : first_line t ≡ text_of t ++ (line_feed ∷ []) = feed_last t h in
    let l : length (text_of t ++ (line_feed ∷ [])) ≡ suc (length (text_of t)) = omega (arith, length-append (text_of t) (line_feed ∷ [])) in
    let s : lines t ≡ first_line t ∷ lines (drop (length (first_line t)) t) = lines-first t (omega arith) in
    record { split = s ∙ (rw (f, l)); text = text_of_lem t []; ends = is_whole (text_of t) []; bytes = l }

-- the only line has none
pub record NoWhole (t : List ℕ) : Type 0 where
  pub split : lines t ≡ t ∷ []
  pub unfinished : whole t ≡ false

pub no_whole : (t : List ℕ) → 0 < length t → length t ≤ length (text_of t) → NoWhole t
unfolding lines
no_whole t o h =
    let p = no_feed t h in
    record { split = lines-first t o ∙ (rw (p.0, drop-length t)); unfinished = p.1 }
