-- There and back: cells that are saved and restored are the same, and a file that is restored and saved again has the same bytes.
use Prim.Native.Nat.{ℕ, ◌≤◌}
use mathlib.Core.Path.{◌≡◌, refl, sym, ap, ◌∙◌}
use mathlib.Core.Bool.{true}
use mathlib.Core.List.{List, ◌++◌}
use native.Mathlib.Omega.{arith}
use lib.ListN.{length, take, drop, length-append}
use lib.Seq.{take_at, length-take-le}
use Rattle.word.specs.Limits.{most_cells}
use Rattle.word.specs.Tick.{Words}
use Rattle.word.proofs.Each.{words_take}
use Rattle.refusal.specs.Answer.{count}
use Rattle.refusal.specs.Outcome.{Outcome, outcome}
use Rattle.saving.specs.File.{state_file, state_bytes, state_cells, is_state}
use Rattle.saving.specs.Saved.{cell_count, saved, restored}
use Rattle.saving.specs.Laws.{FileOf, StateLaw, CellsAgain, FileAgain}
use Rattle.saving.proofs.Text.{words_in_lem, words_count, file-length, file-holds, file_passes, file_of_cells, file-bytes}
use Rattle.saving.proofs.Accepted.{CanSave, CanRestore, save_accepted, can_save, saves, restore-accepted, can_restore, restores}

pub state_law : StateLaw
state_law n file few = (file_of, passes)
  where
    file_of : is_state n file ≡ true → (cells : List ℕ) × FileOf n file cells
    file_of e = (state_cells n file, record { many = words_count n (drop 13 file); words = words_in_lem n (drop 13 file); bytes = file_of_cells n file e; held = refl })

    passes : ((cells : List ℕ) × FileOf n file cells) → is_state n file ≡ true
    passes (cells, f) = rw (← f.many, ← f.bytes) (file_passes cells f.words (omega (arith, f.many)))

counted_same : (x y : ℕ) → count x ≡ count y → x ≡ y
counted_same x y f = cc

-- the bytes that an accepted saving has written: the file of the table's cells
pub saved-file : (table cells file : List ℕ) (b : ℕ) → Words cells → (saved table cells file).answer ≡ count b
    → take b (saved table cells file).buffer ≡ state_file (take (cell_count table) cells)
saved-file table cells file b w e =
    let n : ℕ = cell_count table in
    let p : CanSave n cells file = can_save table cells file b e in
    let s = saves table cells file (save_accepted table cells file b e) p in
    let k : state_bytes n ≡ b = counted_same (state_bytes n) b (sym (ap (λ (o : Outcome). o.answer) s) ∙ e) in
    let l : length (take n cells) ≡ n = length-take-le n cells p.all in
    ap (λ (o : Outcome). take b o.buffer) s
    ∙ take_at (state_file (take n cells)) (drop (state_bytes n) file) b (file-length (take n cells) (words_take n cells w) (omega (arith, p.few)) ∙ ap state_bytes l ∙ k)

pub cells-again : CellsAgain
cells-again table cells file cells' b w e h =
    let n : ℕ = cell_count table in
    let p : CanSave n cells file = can_save table cells file b e in
    let ws : List ℕ = take n cells in
    let l : length ws ≡ n = length-take-le n cells p.all in
    let v : Words ws = words_take n cells w in
    let few : length ws ≤ most_cells = omega (arith, p.few) in
    rw (saved-file table cells file b w e)
    (restores table (state_file ws) cells' (save_accepted table cells file b e) (record { few = p.few; state = rw l at (file_passes ws v few); room = h })
    ∙ ap (λ (xs : List ℕ). outcome (count n) (xs ++ drop n cells')) (rw l at (file-holds ws v few)))

pub file-again : FileAgain
file-again table file cells out b e h =
    let n : ℕ = cell_count table in
    let a = restore-accepted table file cells b e in
    let p : CanRestore n file cells = can_restore table file cells b e in
    let cs : List ℕ = state_cells n file in
    let k : length cs ≡ n = words_count n (drop 13 file) in
    let m : length file ≡ state_bytes n = file-bytes n file p.state p.few in
    let f : (restored table file cells).buffer ≡ cs ++ drop n cells = ap (λ (o : Outcome). o.buffer) (restores table file cells a p) in
    let t : take n (cs ++ drop n cells) ≡ cs = take_at cs (drop n cells) n k in
    rw f
    (saves table (cs ++ drop n cells) out a (record { few = p.few; all = omega (arith, length-append cs (drop n cells)); room = omega arith })
    ∙ rw (t, file_of_cells n file p.state, ← m))
