-- A restoring takes the place of the load: the block then holds the cells of the history at the saving.
use Prim.Native.Nat.{ℕ, ◌+◌, ◌≤◌}
use mathlib.Core.Path.{◌≡◌, refl, sym, ap, ◌∙◌}
use mathlib.Core.Bool.{Bool, true, false}
use mathlib.Core.List.{List, [], ◌∷◌, ◌++◌}
use native.Mathlib.Omega.{arith}
use lib.Dec.{leb}
use lib.IntN.{ℤ}
use lib.ListN.{length, take, drop, length-take}
use lib.Seq.{take-take}
use Rattle.word.specs.Choice.{pick}
use Rattle.word.specs.Limits.{most_cells}
use Rattle.word.specs.Tick.{Words}
use Rattle.refusal.specs.Answer.{Answer, count, refused_all}
use Rattle.refusal.specs.Answer.Answer.{counts, refused}
use Rattle.refusal.specs.Outcome.{Outcome, outcome}
use Rattle.cells.specs.Block.{ran_as}
use Rattle.arity.specs.Tree.{ins}
use Rattle.arity.specs.Table.{nodes, circuit}
use Rattle.arity.specs.Check.{checked}
use Rattle.arity.specs.Promise.{Promise}
use Rattle.arity.proofs.Promise.{promise}
use Rattle.signal.specs.Signal.{History}
use Rattle.signal.specs.Contents.{cells_after}
use Rattle.calls.specs.Calls.{Program, Refused, left, written, reported}
use Rattle.calls.specs.Law.{IsProgramOf, HoldsPast}
use Rattle.calls.proofs.Law.{holds_around}
use Rattle.calls.proofs.Throughout.{from_past}
use Rattle.calls.proofs.SamePast.{left_append, written_append, reported_append, history_append, left-holds, same_past}
use Rattle.calls.proofs.Loads.{load_holds}
use Rattle.saving.specs.File.{is_state, state_cells}
use Rattle.saving.specs.Saved.{cell_count, restored_cells, checked_by, restored}
use Rattle.saving.specs.Tests.{Saving, history_at, saved_file, Begun, LawfulFromBeginning, FromBeginning, GoesOn, restore_call}
use Rattle.saving.specs.Tests.Begun.{load, restore}
use Rattle.saving.proofs.Accepted.{can_save, can_restore}
use Rattle.saving.proofs.Again.{cells-again}

module _ (table : List ℕ) {n m i d : ℕ} (k : checked table ≡ counts (n ∷ m ∷ i ∷ d ∷ [])) (w : Words table) where
  p : Promise table n m i d
  p = promise k w

  module _ {past : History} {block : List ℕ} (held : HoldsPast (nodes table) (circuit table) 0 past block) (s : Saving table past block) where
    -- the list leaves the cells of its history
    list-holds : HoldsPast (nodes table) (circuit table) 0 (history_at s) (left s.work 0 block s.list)
    list-holds = left-holds (nodes table) (circuit table) p.well_formed p.complete s.work s.works 0 past block held s.list s.others

    -- and so does the restoring
    restored-holds : (cells : List ℕ) (b : ℕ) → (restored table (saved_file s) cells).answer ≡ count b → HoldsPast (nodes table) (circuit table) 0 (history_at s) (restored table (saved_file s) cells).buffer
    restored-holds cells b e =
        let K : ℕ = cell_count table in
        let all : List ℕ = left s.work 0 block s.list in
        let lent : List ℕ = take s.lent all in
        let long : K ≤ length lent = (can_save table lent s.file s.bytes s.accepted).all in
        let room : K ≤ length cells = (can_restore table (saved_file s) cells b e).room in
        let same : take K lent ≡ cells_after (nodes table) (circuit table) (history_at s) = take-take K s.lent all (omega (arith, length-take s.lent all)) ∙ list-holds.cells in
        rw (cells-again table lent s.file cells s.bytes s.words s.accepted room, same)
        (holds_around (nodes table) (circuit table) p.well_formed p.complete 0 (history_at s) [] (drop K cells) refl)

  -- however the test began
  pub begun_holds : {past : History} {block : List ℕ} → Begun table past block → HoldsPast (nodes table) (circuit table) 0 past block
  begun_holds (load named cells e h) = load_holds (nodes table) (circuit table) p.well_formed p.complete (cell_count table) (omega arith) named cells e h
  begun_holds (restore g s cells b e) = restored-holds (begun_holds g) s cells b e

  lawful : (work : Program) → IsProgramOf (nodes table) (circuit table) work → LawfulFromBeginning table work
  lawful work same past block g = from_past (nodes table) (circuit table) p.well_formed p.complete work same 0 past block (begun_holds g)

pub from_beginning : FromBeginning
from_beginning table n m i d k w = lawful table k w

-- the same calls on the restored cells and on those of the list that was saved
pub goes_on : GoesOn
goes_on table n m i d k w past block g s cells b e later o₁ o₂ =
    let held = begun_holds table k w g in
    let r : List ℕ = (restored table (saved_file s) cells).buffer in
    let u : List ℕ = left s.work 0 block s.list in
    let a = promise k w in
    let alike = same_past (nodes table) (circuit table) a.well_formed a.complete s.work s.works 0 (history_at s) r u (restored-holds table k w held s cells b e) (list-holds table k w held s) later o₁ o₂ in
    record {
      history = alike.history ∙ sym (history_append s.work 0 (ins (circuit table)) past block s.list later);
      samples = ap (λ (ys : List ℕ). written s.work 0 block s.list ++ ys) alike.written ∙ sym (written_append s.work 0 block s.list later);
      reports = ap (λ (k : ℕ). reported s.work 0 block s.list + k) alike.reported ∙ sym (reported_append s.work 0 block s.list later);
      cells = alike.cells ∙ ap (take (cell_count table)) (sym (left_append s.work 0 block s.list later));
    }

-- the ends of a restoring: the cells of the file, or a refusal
data RestoreEnd (cells : List ℕ) : Outcome → Type 0 where
  restores : (n : ℕ) (cells' : List ℕ) → RestoreEnd cells (outcome (count n) cells')
  refuses : (x : ℕ) (p : ℤ) → RestoreEnd cells (outcome (refused x p) cells)

cells-end : (n : ℕ) (file cells : List ℕ) → RestoreEnd cells (restored_cells n file cells)
unfolding restored_cells
cells-end n file cells = go (leb n most_cells) (is_state n file) (leb n (length cells))
  where
    go : (a b c : Bool) → RestoreEnd cells (pick a (pick b (pick c (outcome (count n) (state_cells n file ++ drop n cells)) (outcome (refused_all 12) cells)) (outcome (refused_all 18) cells)) (outcome (refused_all 11) cells))
    go true true true = restores n (state_cells n file ++ drop n cells)
    go true true false = refuses 12 _
    go true false c = refuses 18 _
    go false b c = refuses 11 _

restore-end : (table file cells : List ℕ) → RestoreEnd cells (restored table file cells)
unfolding restored
restore-end table file cells = go (checked table)
  where
    go : (a : Answer) → RestoreEnd cells (checked_by a cells (restored_cells (cell_count table) file cells))
    go (counts ks) = cells-end (cell_count table) file cells
    go (refused x p) = refuses x p

-- a refused restoring may lie in a list of calls
pub refused-restore : (table file : List ℕ) (from lent : ℕ) (cells : List ℕ) (x : ℕ) (p : ℤ) → (restored table file cells).answer ≡ refused x p → Refused (restore_call table file from lent) cells
refused-restore table file from lent cells x p e = record { number = x; place = p; nothing = go (restored table file cells) (restore-end table file cells) e }
  where
    go : (o : Outcome) → RestoreEnd cells o → o.answer ≡ refused x p → ran_as o.answer o.buffer [] ≡ ran_as (refused x p) cells []
    go o (restores n cells') f = absurd (let z : ◌≡◌ {A = ℕ} 0 1 = cc in omega arith)
    go o (refuses y q) f = cc
