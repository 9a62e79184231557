-- The ticks of all lines are those of the first block and of what is left after it.
use Prim.Native.Nat.{ℕ, suc, ◌+◌, ◌-◌}
use mathlib.Core.Path.{◌≡◌, refl, sym, ap, ◌∙◌}
use mathlib.Core.Bool.{Bool, true, false}
use mathlib.Core.List.{List, [], ◌∷◌, ◌++◌}
use native.Mathlib.Omega.{arith}
use borrow.Author.Tests.{le-ltb}
use lib.ListN.{length, drop, length-append, drop_of_length-le}
use lib.Seq.{drop-drop}
use Rattle.word.specs.Choice.{pick}
use Rattle.word.specs.Tick.{Tick, tick}
use Rattle.number.specs.Row.{line_feed}
use Rattle.column.specs.Line.{lines}
use Rattle.column.specs.Promises.{first_line}
use Rattle.column.proofs.Lines.{lines-first}
use Rattle.player.specs.declared.samples.Stop.TheVariants.{Full, Rest}
use Rattle.player.specs.Samples.{Said, longest_line, said, text_of, whole, Start, stopped, line_then, no_more, starting, line_before, history}
use Rattle.player.specs.Samples.Said.{inputs, control, malformed}
use Rattle.player.specs.Laws.{block_then, BlocksJoin, LastLine, LongLine}
use Rattle.player.proofs.WholeLines.{first-whole, no_whole, no_feed_text, text_of_lem, longer_text, first-text}
use Rattle.player.proofs.Splits.{Split, splits}

module _ (n : ℕ) (more : List ℕ) where
  history-line : (controls l : List ℕ) (ls : List (List ℕ)) → history n controls (l ∷ ls) ≡ line_before (said n (text_of l)) controls (λ cs. history n cs ls)
  unfolding history
  history-line controls l ls = refl

  -- a line that has its line feed, and the block after it
  line_joins : (controls l text : List ℕ) (s : Said) (next : Start) → history n controls (lines (drop (length l) text ++ more)) ≡ block_then n controls next (drop (length l) text) more
      → line_before s controls (λ cs. history n cs (lines (drop (length l) text ++ more))) ≡ block_then n controls (line_then s (length l) next) text more
  line_joins controls l text (inputs xs) next i = ap {B = List Tick} (λ ts. tick xs controls ∷ ts) (rw (drop-drop next.bytes (length l) text) at i)
  line_joins controls l text (control slot value) next i = refl
  line_joins controls l text malformed next i = refl

  joins : (most room : ℕ) (controls : List ℕ) (ls : List (List ℕ)) (text : List ℕ) → lines text ≡ ls → history n controls (lines (text ++ more)) ≡ block_then n controls (starting n most room ls) text more
  unfolding starting
  joins most room controls [] text e = go (no_more n most room)
    where
      go : (t : Bool) → history n controls (lines (text ++ more)) ≡ block_then n controls (pick t (stopped 0 Full) (stopped 0 Rest)) text more
      go true = refl
      go false = refl
  joins most room controls (l ∷ ls) text e =
      let p = splits text l ls e in
      go (no_more n most room) (whole l) refl p (joins (most - 1) (room - n) controls ls (drop (length l) text) p.rest)
    where
      next : Start
      next = starting n (most - 1) (room - n) ls

      go : (t u : Bool) → whole l ≡ u → Split text l ls → history n controls (lines (drop (length l) text ++ more)) ≡ block_then n controls next (drop (length l) text) more
          → history n controls (lines (text ++ more)) ≡ block_then n controls (pick t (stopped 0 Full) (pick u (line_then (said n (text_of l)) (length l) next) (stopped 0 Rest))) text more
      go true u w p i = refl
      go false false w p i = refl
      go false true w p i = ap (history n controls) (p.longer w more) ∙ history-line controls l (lines (drop (length l) text ++ more)) ∙ line_joins controls l text (said n (text_of l)) next i

pub blocks_join : BlocksJoin
blocks_join n most room controls text more = joins n more most room controls (lines text) text refl

one_line : (n : ℕ) (controls text line : List ℕ) → lines text ≡ line ∷ [] → history n controls (lines text) ≡ line_before (said n (text_of line)) controls (λ cs. [])
unfolding history
one_line n controls text line e = rw e

pub last_line : LastLine
unfolding lines
last_line n controls rest o w =
    let ended : List ℕ = rest ++ (line_feed ∷ []) in
    let t : text_of rest ≡ rest = no_feed_text rest w in
    let f : text_of ended ≡ rest = ap (λ (x : List ℕ). text_of (x ++ (line_feed ∷ []))) (sym t) ∙ text_of_lem rest [] ∙ t in
    let l : length ended ≡ suc (length rest) = omega (arith, length-append rest (line_feed ∷ [])) in
    let p = first-whole ended (omega (arith, ap length f)) in
    let d : drop (suc (length (text_of ended))) ended ≡ [] = drop_of_length-le ended {i = suc (length (text_of ended))} (omega (arith, ap length f)) in
    let q = no_whole rest (omega arith) (omega (arith, ap length t)) in
    one_line n controls ended _ (p.split ∙ ap {B = List (List ℕ)} (λ u. (text_of ended ++ (line_feed ∷ [])) ∷ lines u) d)
    ∙ ap (λ (u : List ℕ). line_before (said n u) controls (λ cs. [])) (p.text ∙ f ∙ sym t)
    ∙ sym (one_line n controls rest rest q.split)

pub long-line : LongLine
unfolding history said
long-line n controls piece more h w =
    let t : List ℕ = piece ++ more in
    let l : length t ≡ length piece + length more = length-append piece more in
    let f : text_of (first_line t) ≡ piece ++ text_of more = first-text t ∙ longer_text piece more w in
    let k : length (text_of (first_line t)) ≡ length piece + length (text_of more) = ap length f ∙ length-append piece (text_of more) in
    rw (lines-first t (omega arith), le-ltb (length (text_of (first_line t))) longest_line (omega arith))
