-- The first line of a text, and what is left.
use Prim.Native.Nat.{ℕ, suc, ◌≤◌, ◌<◌}
use mathlib.Core.Path.{◌≡◌, refl, sym, ap, ◌∙◌}
use mathlib.Core.Bool.{Bool, true, false}
use mathlib.Core.List.{List, [], ◌∷◌, ◌++◌}
use native.Mathlib.Omega.{arith}
use lib.Dec.{eqb}
use lib.ListN.{length, drop}
use lib.Seq.{drop-append-le}
use Rattle.word.specs.Choice.{pick}
use Rattle.word.specs.Tick.{tail_of}
use Rattle.number.specs.Row.{line_feed}
use Rattle.column.specs.Line.{lines}
use Rattle.column.specs.Promises.{first_line}
use Rattle.column.proofs.Lines.{lines-first, first-within}
use Rattle.player.specs.Samples.{whole}

first_feed : (t : List ℕ) → whole (first_line t) ≡ whole t
first_feed [] = refl
first_feed (b ∷ bs) = go (eqb b line_feed) refl (first_feed bs)
  where
    go : (u : Bool) → eqb b line_feed ≡ u → whole (first_line bs) ≡ whole bs → whole (pick u (b ∷ []) (b ∷ first_line bs)) ≡ pick u true (whole bs)
    go true e i = rw e
    go false e i = rw e i

first_some : (b : ℕ) (bs : List ℕ) → length (first_line (b ∷ bs)) ≡ suc (length (tail_of (first_line (b ∷ bs))))
first_some b bs = go (eqb b line_feed)
  where
    go : (u : Bool) → length (pick u (b ∷ []) (b ∷ first_line bs)) ≡ suc (length (tail_of (pick u (b ∷ []) (b ∷ first_line bs))))
    go true = refl
    go false = refl

first_append : (t more : List ℕ) → whole (first_line t) ≡ true → first_line (t ++ more) ≡ first_line t
first_append [] more e = let z : ◌≡◌ {A = ℕ} 0 1 = cc in absurd (omega arith)
first_append (b ∷ bs) more e = go (eqb b line_feed) refl (first_append bs more)
  where
    go : (u : Bool) → eqb b line_feed ≡ u → (whole (first_line bs) ≡ true → first_line (bs ++ more) ≡ first_line bs) → pick u (b ∷ []) (b ∷ first_line (bs ++ more)) ≡ pick u (b ∷ []) (b ∷ first_line bs)
    go true f i = refl
    go false f i = ap {B = List ℕ} (λ l. b ∷ l) (i (rw (f, f) at e))

-- the first line of a text; one that has its line feed is that of any longer text
pub record Split (text l : List ℕ) (ls : List (List ℕ)) : Type 0 where
  pub some : 0 < length l
  pub within : length l ≤ length text
  pub feed : whole l ≡ whole text
  pub rest : lines (drop (length l) text) ≡ ls
  pub longer : whole l ≡ true → (more : List ℕ) → lines (text ++ more) ≡ l ∷ lines (drop (length l) text ++ more)

pub splits : (text l : List ℕ) (ls : List (List ℕ)) → lines text ≡ l ∷ ls → Split text l ls
unfolding lines
splits [] l ls e = let z : ◌≡◌ {A = ℕ} 0 1 = cc in absurd (omega arith)
splits (b ∷ bs) l ls e =
    let text : List ℕ = b ∷ bs in
    let s : lines text ≡ first_line text ∷ lines (drop (length (first_line text)) text) = lines-first text (omega arith) in
    let f : first_line text ≡ l = cc in
    let r : lines (drop (length (first_line text)) text) ≡ ls = cc in
    let w : length (first_line text) ≤ length text = omega (arith, first-within text 0) in
    let o : length (first_line text) ≡ suc (length (tail_of (first_line text))) = first_some b bs in
    record {
      some = omega (arith, ap length f);
      within = omega (arith, ap length f);
      feed = ap whole (sym f) ∙ first_feed text;
      rest = rw f at r;
      longer = λ h. λ more.
          let g : first_line (text ++ more) ≡ l = first_append text more (rw f h) ∙ f in
          let d : drop (length l) (text ++ more) ≡ drop (length l) text ++ more = drop-append-le (length l) text more (rw f at w) in
          lines-first (text ++ more) (omega arith) ∙ rw (g, d);
    }

-- a text without lines
pub no_lines : (text : List ℕ) → lines text ≡ [] → whole text ≡ false
no_lines [] e = refl
no_lines (b ∷ bs) e = let s = lines-first (b ∷ bs) (omega arith) in let z : ◌≡◌ {A = ℕ} 0 1 = cc in absurd (omega arith)
