-- What an accepted saving or restoring has passed, and what it leaves, with any table.
use Prim.Native.Nat.{ℕ, ◌≤◌}
use mathlib.Core.Path.{◌≡◌, refl, sym, ap, ◌∙◌}
use mathlib.Core.Bool.{Bool, true, false}
use mathlib.Core.List.{List, ◌++◌}
use native.Mathlib.Omega.{arith}
use borrow.Author.Tests.{leb-true}
use lib.Dec.{leb}
use lib.ListN.{length, take, drop}
use Rattle.word.specs.Choice.{pick, ◌and◌}
use Rattle.word.specs.Limits.{most_cells}
use Rattle.refusal.specs.Answer.{Answer, count, refused_all}
use Rattle.refusal.specs.Answer.Answer.{counts, refused}
use Rattle.refusal.specs.Outcome.{Outcome, outcome}
use Rattle.arity.specs.Check.{checked, IsAccepted}
use Rattle.saving.specs.File.{state_file, state_bytes, state_cells, is_state}
use Rattle.saving.specs.Saved.{cell_count, saved_cells, restored_cells, checked_by, saved, restored}
use Rattle.saving.proofs.Ends.{save_done, restore_done}

-- n cells saved
pub record CanSave (n : ℕ) (cells file : List ℕ) : Type 0 where
  pub few : n ≤ most_cells
  pub all : n ≤ length cells
  pub room : state_bytes n ≤ length file

module _ (n : ℕ) (cells file : List ℕ) where
  save_passed : (b : ℕ) → (saved_cells n cells file).answer ≡ count b → CanSave n cells file
  unfolding saved_cells
  save_passed b e = go (leb n most_cells) (leb n (length cells)) (leb (state_bytes n) (length file)) refl refl refl e
    where
      go : (x y z : Bool) → leb n most_cells ≡ x → leb n (length cells) ≡ y → leb (state_bytes n) (length file) ≡ z
          → (pick x (pick (y and z) (outcome (count (state_bytes n)) (state_file (take n cells) ++ drop (state_bytes n) file)) (outcome (refused_all 12) file)) (outcome (refused_all 11) file)).answer ≡ count b
          → CanSave n cells file
      go true true true p q r f = record { few = leb-true n most_cells p; all = leb-true n (length cells) q; room = leb-true (state_bytes n) (length file) r }
      go true true false p q r f = absurd (let x : ◌≡◌ {A = ℕ} 0 1 = cc in omega arith)
      go true false z p q r f = absurd (let x : ◌≡◌ {A = ℕ} 0 1 = cc in omega arith)
      go false y z p q r f = absurd (let x : ◌≡◌ {A = ℕ} 0 1 = cc in omega arith)

-- and restored
pub record CanRestore (n : ℕ) (file cells : List ℕ) : Type 0 where
  pub few : n ≤ most_cells
  pub state : is_state n file ≡ true
  pub room : n ≤ length cells

module _ (n : ℕ) (file cells : List ℕ) where
  restore_passed : (b : ℕ) → (restored_cells n file cells).answer ≡ count b → CanRestore n file cells
  unfolding restored_cells
  restore_passed b e = go (leb n most_cells) (is_state n file) (leb n (length cells)) refl refl refl e
    where
      go : (x y z : Bool) → leb n most_cells ≡ x → is_state n file ≡ y → leb n (length cells) ≡ z
          → (pick x (pick y (pick z (outcome (count n) (state_cells n file ++ drop n cells)) (outcome (refused_all 12) cells)) (outcome (refused_all 18) cells)) (outcome (refused_all 11) cells)).answer ≡ count b
          → CanRestore n file cells
      go true true true p q r f = record { few = leb-true n most_cells p; state = q; room = leb-true n (length cells) r }
      go true true false p q r f = absurd (let x : ◌≡◌ {A = ℕ} 0 1 = cc in omega arith)
      go true false z p q r f = absurd (let x : ◌≡◌ {A = ℕ} 0 1 = cc in omega arith)
      go false y z p q r f = absurd (let x : ◌≡◌ {A = ℕ} 0 1 = cc in omega arith)

-- a call that answers with a count was given an accepted table, and is the call on its count of cells
check_passed : (a : Answer) (buffer : List ℕ) (further : Outcome) (b : ℕ) → (checked_by a buffer further).answer ≡ count b → (ks : List ℕ) × (a ≡ counts ks)
check_passed (counts ks) buffer further b e = (ks, refl)
check_passed (refused r p) buffer further b e = absurd (let x : ◌≡◌ {A = ℕ} 0 1 = cc in omega arith)

module _ (table : List ℕ) where
  module _ (cells file : List ℕ) where
    saved_by : IsAccepted table → saved table cells file ≡ saved_cells (cell_count table) cells file
    unfolding saved
    saved_by a = ap (λ (x : Answer). checked_by x file (saved_cells (cell_count table) cells file)) a.1

    pub save_accepted : (b : ℕ) → (saved table cells file).answer ≡ count b → IsAccepted table
    unfolding saved
    save_accepted b e = check_passed (checked table) file (saved_cells (cell_count table) cells file) b e

    pub can_save : (b : ℕ) → (saved table cells file).answer ≡ count b → CanSave (cell_count table) cells file
    can_save b e = save_passed (cell_count table) cells file b (sym (ap (λ (o : Outcome). o.answer) (saved_by (save_accepted b e))) ∙ e)

    pub saves : IsAccepted table → CanSave (cell_count table) cells file
        → saved table cells file ≡ outcome (count (state_bytes (cell_count table))) (state_file (take (cell_count table) cells) ++ drop (state_bytes (cell_count table)) file)
    saves a p = saved_by a ∙ save_done (cell_count table) cells file p.few p.all p.room

  module _ (file cells : List ℕ) where
    restored_by : IsAccepted table → restored table file cells ≡ restored_cells (cell_count table) file cells
    unfolding restored
    restored_by a = ap (λ (x : Answer). checked_by x cells (restored_cells (cell_count table) file cells)) a.1

    pub restore-accepted : (b : ℕ) → (restored table file cells).answer ≡ count b → IsAccepted table
    unfolding restored
    restore-accepted b e = check_passed (checked table) cells (restored_cells (cell_count table) file cells) b e

    pub can_restore : (b : ℕ) → (restored table file cells).answer ≡ count b → CanRestore (cell_count table) file cells
    can_restore b e = restore_passed (cell_count table) file cells b (sym (ap (λ (o : Outcome). o.answer) (restored_by (restore-accepted b e))) ∙ e)

    pub restores : IsAccepted table → CanRestore (cell_count table) file cells → restored table file cells ≡ outcome (count (cell_count table)) (state_cells (cell_count table) file ++ drop (cell_count table) cells)
    restores a p = restored_by a ∙ restore_done (cell_count table) file cells p.few p.state p.room
