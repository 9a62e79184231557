-- The complete result of a walk with probes, refusal by refusal.
use Prim.Native.Nat.{ℕ, ◌+◌, ◌-◌, ◌*◌, ◌/◌, ◌≤◌, ◌<◌}
use mathlib.Core.Path.{◌≡◌, refl, sym, ap, ap₂, ◌∙◌}
use mathlib.Core.Bool.{Bool, true, false}
use mathlib.Core.Logic.{◌⊎◌, inl, inr}
use mathlib.Core.List.{List, ◌++◌, append-nil}
use native.Mathlib.Omega.{arith}
use lib.Dec.{leb}
use lib.ListN.{length, take, drop, drop_of_length-le}
use lib.Seq.{length-take-le}
use borrow.Author.Tests.{le-leb, lt-leb}
use Rattle.word.specs.Choice.{pick, ◌and◌}
use Rattle.refusal.specs.Answer.{refused_all}
use Rattle.cells.specs.Block.{with_report, ran_as, ticks_of, Played, played_as, played, block_ok, answered}
use Rattle.cells.specs.Cells.{store}
use Rattle.cells.proofs.Calls.{few, block_says}
use Rattle.cells.proofs.Parts.{store_parts}
use Rattle.arity.specs.Table.{nodes, circuit}
use Rattle.calls.specs.Probes.{Noted, noted_as, recorded}
use Rattle.calls.specs.Probed.{Probed, probed_as, probes_of, probes_ok, untouched, watches, probed}
use Rattle.probes.specs.Marks.{Marked}
use Rattle.walker.specs.Ready.{base, step_of, Playable, Surveyed, Walkable}
use Rattle.walker.specs.Probing.{Watching, Recordable, Watchable}
use Rattle.walker.specs.Walk.{probed_circuit}
use Rattle.walker.proofs.Naming.{count-is, passed}
use Rattle.walker.proofs.Showing.{watching-kept}

module _ {table : List ℕ} {n m k : ℕ} (s : Surveyed table n m k) where
  last_in : nodes table - 1 < nodes table
  last_in = omega (arith, s.least)

  pub inputs-few : n ≤ 32
  inputs-few = omega (arith, s.inputs_are, (s.promise.node (nodes table - 1) last_in).inputs)

  pub outputs-few : m ≤ 32
  outputs-few = omega (arith, s.outputs_are, (s.promise.node (nodes table - 1) last_in).outputs)

-- two numbers a probe
abbrev probe_count : List ℕ → ℕ
probe_count xs = length xs / 2

-- a call that is not refused: each buffer as far as it is needed, and the rest behind it
module _ {table : List ℕ} {n m k ticks : ℕ} {inputs controls cells outputs : List ℕ} (w : Walkable table n m k ticks inputs controls cells outputs) where
  pub playable : Playable table (nodes table - 1) n m ticks inputs (take k cells) (take (ticks * m) outputs)
  playable =
      let s = w.surveyed in
      record {
        promise = s.promise;
        least = s.least;
        last = refl;
        inputs_are = s.inputs_are;
        outputs_are = s.outputs_are;
        short = w.short;
        reads = w.reads;
        writes = length-take-le (ticks * m) outputs w.outputs_fit;
        room = length-take-le k cells w.cells_fit ∙ s.cells_are;
      }

  pub samples-few : ticks * m ≤ 131072
  samples-few = few ticks m 32 w.short (outputs-few w.surveyed)

  module _ {xs latest recording : List ℕ} (v : Watchable table xs ticks latest recording) where
    pub recordings-few : ticks * probe_count xs ≤ 65536
    recordings-few = few ticks (probe_count xs) 16 w.short v.named.few

    module _ {marks : List ℕ} (are : Marked xs (probe_count xs) marks) where
      pub watching : Watching table xs (length (take (probe_count xs) latest)) marks
      watching = watching-kept (record { named = v.named; marked = are }) (length-take-le (probe_count xs) latest v.latest-fits)

      pub recordable : Recordable table marks ticks (take (probe_count xs) latest) (take (ticks * probe_count xs) recording)
      recordable =
          record {
            watched = record { numbers = xs; watching = watching };
            room = length-take-le (ticks * probe_count xs) recording v.recording-fits ∙ ap (λ x. ticks * x) (sym (length-take-le (probe_count xs) latest v.latest-fits));
          }

    pub all-walked : {set ys cs vs zs : List ℕ} {j : ℕ} → set ≡ controls → played (step_of table) (ticks_of n set ticks inputs) (take k cells) ≡ played_as ys cs j
        → recorded (base table) (circuit table) (probes_of xs) (ticks_of n set ticks inputs) (take k cells) (take (probe_count xs) latest) ≡ noted_as vs zs
        → probed_as (ran_as (with_report (ticks * m) j) (cs ++ drop k cells) (ys ++ drop (ticks * m) outputs)) (vs ++ drop (probe_count xs) latest) (zs ++ drop (ticks * probe_count xs) recording)
        ≡ watches (nodes table) (circuit table) (probes_of xs) ticks inputs controls cells outputs latest recording
    unfolding watches answered
    all-walked c e f =
        let s = w.surveyed in
        sym
        (rw (count-is xs, ← s.inputs_are, ← s.outputs_are, ← s.cells_are, ← c)
        (ap₂ (λ (a : Played) (b : Noted). probed_as (ran_as (with_report (ticks * m) a.clips) (a.cells ++ drop k cells) (a.outputs ++ drop (ticks * m) outputs)) (b.latest ++ drop (probe_count xs) latest) (b.recording ++ drop (ticks * probe_count xs) recording)) e f))

-- a list stored over one that is as long
pub stored_over : (xs ys : List ℕ) → length ys ≡ length xs → store 0 xs ys ≡ xs
stored_over xs ys l =
    store_parts 0 xs ys (omega arith) ∙ ap (λ r. xs ++ r) (drop_of_length-le ys {i = 0 + length xs} (omega arith)) ∙ append-nil xs

-- two buffers: one is too short, or both are long enough
either_short : (a b x y : ℕ) → (b < a) ⊎ (y < x) → leb a b and leb x y ≡ false
either_short a b x y (inl h) = rw (lt-leb a b h)
either_short a b x y (inr h) = rw (lt-leb x y h) (go (leb a b))
  where
    go : (c : Bool) → c and false ≡ false
    go true = refl
    go false = refl

both_fit : (a b x y : ℕ) → a ≤ b → x ≤ y → leb a b and leb x y ≡ true
both_fit a b x y h g = rw (le-leb a b h, le-leb x y g)

-- any call: the tests one after another
module _ {table : List ℕ} {n m k : ℕ} (s : Surveyed table n m k) (xs : List ℕ) (ticks : ℕ) (inputs controls cells outputs latest recording : List ℕ) where
  abbrev no : ℕ → Probed
  no r = untouched (refused_all r) cells outputs latest recording

  abbrev all : ℕ → Probed
  all t = watches (nodes table) (circuit table) (probes_of xs) t inputs controls cells outputs latest recording

  abbrev tested : (a b c d e : Bool) → Probed
  tested a b c d e = pick a (pick b (pick c (pick d (pick e (all ticks) (no 12)) (no 12)) (no 15)) (no 14)) (no 11)

  abbrev result : Probed
  result = probed_circuit (nodes table) (circuit table) xs ticks inputs controls cells outputs latest recording

  opened : result ≡ tested (leb k 16384) (block_ok n ticks inputs controls) (probes_ok (nodes table) (circuit table) xs) (leb k (length cells) and leb (ticks * m) (length outputs))
      (leb (probe_count xs) (length latest) and leb (ticks * probe_count xs) (length recording))
  unfolding probed_circuit probed
  opened = rw (s.inputs_are, s.outputs_are, s.cells_are, ← count-is xs)

  -- the numbers as the code has them
  module _ {k' : ℕ} (ek : k' ≡ k) where
    pub too_many : 16384 < k' → no 11 ≡ result
    too_many h = sym (opened ∙ rw (lt-leb k 16384 (omega arith)))

    module _ (few-cells : k' ≤ 16384) where
      fits : leb k 16384 ≡ true
      fits = le-leb k 16384 (omega arith)

      pub wrong_block : block_ok n ticks inputs controls ≡ false → no 14 ≡ result
      wrong_block b = sym (opened ∙ rw (fits, b))

      module _ (block : block_ok n ticks inputs controls ≡ true) where
        pub wrong_probes : probes_ok (nodes table) (circuit table) xs ≡ false → no 15 ≡ result
        wrong_probes b = sym (opened ∙ rw (fits, block, b))

        module _ (ok : probes_ok (nodes table) (circuit table) xs ≡ true) {t m' : ℕ} (et : t ≡ ticks) (em : m' ≡ m) where
          pub total-few : t * m' ≤ 131072
          total-few = few t m' 32 (omega (arith, (block_says n ticks inputs controls block).short)) (omega (arith, outputs-few s))

          pub all-few : t * probe_count xs ≤ 65536
          all-few = few t (probe_count xs) 16 (omega (arith, (block_says n ticks inputs controls block).short)) (passed {xs = xs} s.promise ok).few

          pub short-buffer : (length cells < k') ⊎ (length outputs < t * m') → no 12 ≡ result
          short-buffer h = sym (opened ∙ rw (fits, block, ok, ← ek, ← et, ← em, either_short k' (length cells) (t * m') (length outputs) h))

          module _ (c : k' ≤ length cells) (d : t * m' ≤ length outputs) where
            rooms : leb k (length cells) and leb (ticks * m) (length outputs) ≡ true
            rooms = rw (← ek, ← et, ← em) (both_fit k' (length cells) (t * m') (length outputs) c d)

            pub short_list : (length latest < probe_count xs) ⊎ (length recording < t * probe_count xs) → no 12 ≡ result
            short_list h = sym (opened ∙ rw (fits, block, ok, rooms, ← et, either_short (probe_count xs) (length latest) (t * probe_count xs) (length recording) h))

            module _ (e : probe_count xs ≤ length latest) (f : t * probe_count xs ≤ length recording) where
              pub walkable : {n' : ℕ} → n' ≡ n → Walkable table n' m' k' t inputs controls cells outputs
              walkable en =
                  record {
                    surveyed = rw (en, em, ek) s;
                    short = omega (arith, (block_says n ticks inputs controls block).short);
                    reads = (block_says n ticks inputs controls block).ins ∙ ap₂ ◌*◌ (sym et) (sym en);
                    controls_are = (block_says n ticks inputs controls block).sixteen;
                    cells_fit = c;
                    outputs_fit = d;
                  }

              pub watchable : Watchable table xs t latest recording
              watchable = record { named = passed s.promise ok; latest-fits = e; recording-fits = f }

              pub not-refused : all t ≡ result
              not-refused = sym (opened ∙ rw (fits, block, ok, rooms, ← et, both_fit (probe_count xs) (length latest) (t * probe_count xs) (length recording) e f))
