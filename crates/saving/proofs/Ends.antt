-- How a call ends once the table's count of cells is known: each refusal in its turn, or what an accepted call leaves.
use Prim.Native.Nat.{ℕ, ◌≤◌, ◌<◌}
use mathlib.Core.Path.{◌≡◌}
use mathlib.Core.Bool.{true, false}
use mathlib.Core.List.{List, ◌++◌}
use borrow.Author.Tests.{le-leb, lt-leb}
use lib.ListN.{length, take, drop}
use Rattle.word.specs.Limits.{most_cells}
use Rattle.refusal.specs.Answer.{count, refused_all}
use Rattle.refusal.specs.Outcome.{outcome}
use Rattle.saving.specs.File.{state_file, state_bytes, state_cells, is_state}
use Rattle.saving.specs.Saved.{saved_cells, restored_cells}

-- n cells saved
module _ (n : ℕ) (cells file : List ℕ) where
  pub save_many : most_cells < n → saved_cells n cells file ≡ outcome (refused_all 11) file
  unfolding saved_cells
  save_many h = rw (lt-leb n most_cells h)

  module _ (few : n ≤ most_cells) where
    pub save_fewer : length cells < n → saved_cells n cells file ≡ outcome (refused_all 12) file
    unfolding saved_cells
    save_fewer h = rw (le-leb n most_cells few, lt-leb n (length cells) h)

    module _ (all : n ≤ length cells) where
      pub save_short : length file < state_bytes n → saved_cells n cells file ≡ outcome (refused_all 12) file
      unfolding saved_cells
      save_short h = rw (le-leb n most_cells few, le-leb n (length cells) all, lt-leb (state_bytes n) (length file) h)

      pub save_done : state_bytes n ≤ length file → saved_cells n cells file ≡ outcome (count (state_bytes n)) (state_file (take n cells) ++ drop (state_bytes n) file)
      unfolding saved_cells
      save_done h = rw (le-leb n most_cells few, le-leb n (length cells) all, le-leb (state_bytes n) (length file) h)

-- and restored
module _ (n : ℕ) (file cells : List ℕ) where
  pub restore-many : most_cells < n → restored_cells n file cells ≡ outcome (refused_all 11) cells
  unfolding restored_cells
  restore-many h = rw (lt-leb n most_cells h)

  module _ (few : n ≤ most_cells) where
    pub restore_wrong : is_state n file ≡ false → restored_cells n file cells ≡ outcome (refused_all 18) cells
    unfolding restored_cells
    restore_wrong e = rw (le-leb n most_cells few, e)

    module _ (right : is_state n file ≡ true) where
      pub restore-short : length cells < n → restored_cells n file cells ≡ outcome (refused_all 12) cells
      unfolding restored_cells
      restore-short h = rw (le-leb n most_cells few, right, lt-leb n (length cells) h)

      pub restore_done : n ≤ length cells → restored_cells n file cells ≡ outcome (count n) (state_cells n file ++ drop n cells)
      unfolding restored_cells
      restore_done h = rw (le-leb n most_cells few, right, le-leb n (length cells) h)
