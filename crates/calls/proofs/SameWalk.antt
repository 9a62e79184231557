-- A walk with probes that are not refused is the walk without them.
use Prim.Native.Nat.{ℕ, ◌*◌}
use mathlib.Core.Path.{◌≡◌, refl}
use mathlib.Core.Bool.{Bool, true, false}
use mathlib.Core.List.{List}
use native.Mathlib.Omega.{arith}
use lib.ListN.{length}
use lib.Dec.{leb}
use Rattle.word.specs.Choice.{pick, ◌and◌}
use Rattle.refusal.specs.Answer.{refused_all}
use Rattle.refusal.specs.Answer.Answer.{counts}
use Rattle.cells.specs.Block.{refusal, block_ok, answered, called}
use Rattle.arity.specs.Tree.{Tree, ins, outs}
use Rattle.arity.specs.Nodes.{cells_before}
use Rattle.calls.specs.Step.{step}
use Rattle.calls.specs.Probed.{Probed, probes_of, probes_ok, probes_fit, untouched, watches, probed, SameWalk, SameWhereAccepted}

module _ (n : ℕ) (t : Tree) (xs : List ℕ) (ticks : ℕ) (inputs controls cells outputs latest recording : List ℕ) where
  abbrev block_test : Bool
  block_test = block_ok (ins t) ticks inputs controls

  abbrev probes_test : Bool
  probes_test = probes_ok n t xs

  abbrev room_test : Bool
  room_test = leb (cells_before t n) (length cells) and leb (ticks * outs t) (length outputs)

  abbrev list_test : Bool
  list_test = probes_fit (length (probes_of xs)) ticks latest recording

  -- the four tests, and the ends: the watched walk where all hold, else a refusal
  pub data End : Probed → Type 0 where
    watched : block_test ≡ true → probes_test ≡ true → room_test ≡ true → list_test ≡ true
        → End (watches n t (probes_of xs) ticks inputs controls cells outputs latest recording)
    refuses : (x : ℕ) → End (untouched (refused_all x) cells outputs latest recording)

  pub end : End (probed n t xs ticks inputs controls cells outputs latest recording)
  unfolding probed
  end = go block_test probes_test room_test list_test refl refl refl refl
    where
      no : ℕ → Probed
      no x = untouched (refused_all x) cells outputs latest recording

      go : (a b c d : Bool) → block_test ≡ a → probes_test ≡ b → room_test ≡ c → list_test ≡ d
          → End (pick a (pick b (pick c (pick d (watches n t (probes_of xs) ticks inputs controls cells outputs latest recording) (no 12)) (no 12)) (no 15)) (no 14))
      go true true true true p q r s = watched p q r s
      go true true true false p q r s = refuses 12
      go true true false d p q r s = refuses 12
      go true false c d p q r s = refuses 15
      go false b c d p q r s = refuses 14

pub same-walk : (n : ℕ) (t : Tree) → SameWalk n t
unfolding probed watches called
same-walk n t xs ticks inputs controls cells outputs latest recording p q = rw (p, q) (go (block_test n t xs ticks inputs controls cells outputs latest recording) (room_test n t xs ticks inputs controls cells outputs latest recording))
  where
    full : Probed
    full = watches n t (probes_of xs) ticks inputs controls cells outputs latest recording

    none : ℕ → Probed
    none x = untouched (refused_all x) cells outputs latest recording

    go : (a c : Bool) → (pick a (pick c full (none 12)) (none 14)).ran
        ≡ pick a (pick c (answered (step (cells_before t) t) (ins t) (outs t) (cells_before t n) ticks inputs controls cells outputs) (refusal 12 cells outputs)) (refusal 14 cells outputs)
    go true true = refl
    go true false = refl
    go false c = refl

pub same_where_accepted : (n : ℕ) (t : Tree) → SameWhereAccepted n t
same_where_accepted n t xs ticks inputs controls cells outputs latest recording ks e = go (end n t xs ticks inputs controls cells outputs latest recording) e
  where
    go : {r : Probed} → End n t xs ticks inputs controls cells outputs latest recording r → r.ran.answer ≡ counts ks
        → (probed n t xs ticks inputs controls cells outputs latest recording).ran
        ≡ called (step (cells_before t) t) (ins t) (outs t) (cells_before t n) ticks inputs controls cells outputs
    go (watched a b c d) f = same-walk n t xs ticks inputs controls cells outputs latest recording b d
    go (refuses x) f = absurd (let z : ◌≡◌ {A = ℕ} 0 1 = cc in omega arith)
