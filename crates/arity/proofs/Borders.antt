-- The theorems at their borders, spelled out: a premise that asked for more, or a conclusion that said less, would fail here.
use Prim.Native.Nat.{ℕ, zero, suc, ◌+◌, ◌*◌, ◌≤◌, ◌<◌}
use mathlib.Core.Path.{◌≡◌, refl, ◌∙◌}
use mathlib.Core.Bool.{true, false}
use mathlib.Core.List.{List, [], ◌∷◌, ◌++◌}
use native.Mathlib.Omega.{arith}
use lib.Dec.{lit<, lit≤}
use lib.ListN.{length}
use borrow.Author.Tests.{le-leb, ne_eqb}
use Rattle.word.specs.Operation.{operands}
use Rattle.word.specs.Tick.{zeros, Words}
use Rattle.word.proofs.Each.{words_by}
use Rattle.refusal.specs.Answer.{refused_at}
use Rattle.refusal.specs.Answer.Answer.{counts}
use Rattle.arity.specs.Tree.{Tree, ins, outs, need, size}
use Rattle.arity.specs.Tree.Tree.{join}
use Rattle.arity.specs.Tree.Composition.{recursion}
use Rattle.arity.specs.Table.{nodes, kind_at, first_at, second_at, tree, tree_at, circuit}
use Rattle.arity.specs.Rules.{Arity}
use Rattle.arity.specs.WellFormed.{Ruled, WellFormed}
use Rattle.arity.specs.Nodes.{Complete, subtree, sum_to, cells_before}
use Rattle.arity.specs.Lowest.{lowest}
use Rattle.arity.specs.Check.{rule, checked, refusal_at, children_free, taken, rule_fits, feeds_back, loose, first_loose, IsAccepted}
use Rattle.arity.specs.Formed.{Children, Fields, Formed, Counted, FeedsBack, Fitted, Fitting, Begun}
use Rattle.arity.proofs.Exact.{exact}
use Rattle.arity.proofs.Feedback.{leaf_feeds}
use Rattle.arity.proofs.Loose.{first-loose}
use Rattle.arity.proofs.RefusedLoose.{refused-loose}
use Rattle.arity.proofs.RefusedFeedback.{refused-feedback}
use Rattle.arity.proofs.Acceptance.{acceptance, accepted, last_decides}
use Rattle.arity.proofs.Promise.{promise, whole}

-- the published rules and the counts, each from the other
only-counted : (x : Tree) (a b : ℕ) → Arity x a b → Ruled x × (a ≡ ins x) × (b ≡ outs x)
only-counted x a b = (exact x a b).0

all-counted : (x : Tree) → Ruled x → Arity x (ins x) (outs x)
all-counted x u = (exact x (ins x) (outs x)).1 (u, refl, refl)

-- one delay, as long as a delay can be
abbrev longest : List ℕ
longest = 4 ∷ 4095 ∷ 0 ∷ []

only-node : (P : ℕ → Type 0) → P 0 → (i : ℕ) → i < nodes longest → P i
only-node P p zero h = p
only-node P p (suc i) h = absurd (omega arith)

longest_formed : Formed longest
longest_formed =
    record {
      whole = refl;
      least = lit≤ tt;
      most = lit≤ tt;
      kinds = only-node (λ i. (1 ≤ kind_at longest i) × (kind_at longest i ≤ 12)) (lit≤ tt, lit≤ tt);
      fields = only-node (λ i. Fields (kind_at longest i) (first_at longest i) (second_at longest i))
          (record {
            control = λ e. absurd (omega arith);
            operation = λ e. absurd (omega arith);
            delay = λ e. lit≤ tt;
            cable = λ e. absurd (omega arith);
            cut = λ e. absurd (omega arith);
            unused = λ e. refl;
          });
      children = only-node (Children longest) (record { first = λ h. absurd (omega arith); second = λ h g. absurd (omega arith); apart = λ h g e. omega arith });
      attached = λ j h. absurd (omega arith);
    }

longest_fits : Fitting longest
unfolding tree tree_at
longest_fits = only-node (λ i. Fitted (tree longest i)) ((2, 1, Arity.delay, lit≤ tt, lit≤ tt), leaf_feeds _ _)

longest_accepted : (ks : List ℕ) × (checked longest ≡ counts ks)
longest_accepted = (acceptance longest longest_formed).1 longest_fits

longest_counted : (ks : List ℕ) → checked longest ≡ counts ks → (a : ℕ) × (b : ℕ) × Arity (tree longest 0) a b × (a ≤ 32) × (b ≤ 32)
longest_counted ks e = ((acceptance longest longest_formed).0 (ks, e) 0 (lit< tt)).0

-- a node of an accepted table is no recursion of a right side 0 → 0
accepted_feeds : (t : List ℕ) → Formed t → (ks : List ℕ) → checked t ≡ counts ks → (i : ℕ) → i < nodes t → (x y : Tree) → tree t i ≡ join i recursion x y
    → Arity y 0 0 → ⊥
accepted_feeds t f ks e i h = ((acceptance t f).0 (ks, e) i h).1 i

-- n + 1 cables side by side
cables : ℕ → List ℕ
cables zero = 5 ∷ 0 ∷ 0 ∷ []
cables (suc n) = cables n ++ (5 ∷ 0 ∷ 0 ∷ 8 ∷ (2 * n) ∷ (2 * n + 1) ∷ [])

-- "32 inputs pass; 33 get 8."
widest : checked (cables 31) ≡ counts (32 ∷ 32 ∷ 0 ∷ 0 ∷ [])
unfolding cables checked lowest refusal_at children_free taken rule_fits feeds_back tree tree_at ins outs need size sum_to
widest = refl

wider : checked (cables 32) ≡ refused_at 8 64
unfolding cables checked lowest refusal_at children_free taken rule_fits feeds_back tree tree_at ins outs need size sum_to
wider = refl

-- 512 nodes are looked at, and the first gets 4; 513 get 3
fullest : checked (zeros 1536) ≡ refused_at 4 0
unfolding checked lowest refusal_at
fullest = refl

fuller : checked (zeros 1539) ≡ refused_at 3 512
unfolding checked
fuller = refl

-- "Four delays of D 4095 fit 16,384 cells", side by side
abbrev pub four_delays : List ℕ
four_delays = 4 ∷ 4095 ∷ 0 ∷ 4 ∷ 4095 ∷ 0 ∷ 8 ∷ 0 ∷ 1 ∷ 4 ∷ 4095 ∷ 0 ∷ 4 ∷ 4095 ∷ 0 ∷ 8 ∷ 3 ∷ 4 ∷ 8 ∷ 2 ∷ 5 ∷ []

pub four_delays_accepted : checked four_delays ≡ counts (8 ∷ 4 ∷ 4 ∷ 16384 ∷ [])
unfolding checked lowest refusal_at children_free taken rule_fits feeds_back tree tree_at ins outs need size sum_to
four_delays_accepted = refl

pub four_delays_words : Words four_delays
four_delays_words = words_by four_delays refl

-- an addition in a loop through a cable
abbrev pub integrator : List ℕ
integrator = 3 ∷ 1 ∷ 0 ∷ 5 ∷ 0 ∷ 0 ∷ 11 ∷ 0 ∷ 1 ∷ []

pub integrator_accepted : checked integrator ≡ counts (1 ∷ 1 ∷ 3 ∷ 1 ∷ [])
unfolding checked lowest refusal_at children_free taken rule_fits feeds_back tree tree_at ins outs need size sum_to operands
integrator_accepted = refl

pub integrator_words : Words integrator
integrator_words = words_by integrator refl

-- a delay of D 1
abbrev pub short_delay : List ℕ
short_delay = 4 ∷ 1 ∷ 0 ∷ []

pub short_delay_accepted : checked short_delay ≡ counts (2 ∷ 1 ∷ 1 ∷ 2 ∷ [])
unfolding checked lowest refusal_at children_free taken rule_fits feeds_back tree tree_at ins outs need size sum_to
short_delay_accepted = refl

pub short_delay_words : Words short_delay
short_delay_words = words_by short_delay refl

abbrev pub ondemand_cable : List ℕ
ondemand_cable = 5 ∷ 0 ∷ 0 ∷ 12 ∷ 0 ∷ 0 ∷ []

pub ondemand-accepted : checked ondemand_cable ≡ counts (2 ∷ 1 ∷ 3 ∷ 1 ∷ [])
unfolding checked lowest refusal_at children_free taken rule_fits feeds_back tree tree_at ins outs need size sum_to
ondemand-accepted = refl

pub ondemand-words : Words ondemand_cable
ondemand-words = words_by ondemand_cable refl

-- the promise with 2,048 instructions and 16,384 cells
module _ (t : List ℕ) (n m : ℕ) (k : checked t ≡ counts (n ∷ m ∷ 2048 ∷ 16384 ∷ [])) (words : Words t) where
  largest_limits : (ins (circuit t) ≤ 32) × (outs (circuit t) ≤ 32) × (need (circuit t) ≤ 2048) × (cells_before (circuit t) (nodes t) ≤ 16384)
  largest_limits =
      let s = (promise k words).small (omega arith) (omega arith) in
      (s.inputs, s.outputs, s.instructions, s.cells)

  largest_tree : Arity (circuit t) n m × WellFormed (circuit t) × Complete (nodes t) (circuit t)
  largest_tree = let p = promise k words in (p.arity, p.well_formed, p.complete)

  largest_counts : (n ≡ ins (circuit t)) × (m ≡ outs (circuit t)) × (2048 ≡ need (circuit t)) × (16384 ≡ cells_before (circuit t) (nodes t))
  largest_counts = let p = promise k words in (p.counted.0, p.counted.1, p.counted.2, p.celled)

  largest_size : (3 * nodes t ≡ length t) × (1 ≤ nodes t) × (nodes t ≤ 512)
  largest_size = let p = promise k words in (p.whole, p.least, p.most)

  largest_node : (i : ℕ) → i < nodes t → Arity (tree t i) (ins (tree t i)) (outs (tree t i)) × (subtree (circuit t) i ≡ tree t i) × (need (tree t i) ≤ need (circuit t))
  largest_node i h = let p = (promise k words).node i h in (p.arity, p.part, p.instructions)

  -- the right side of a recursion without inputs has an output
  largest_feedback : (i : ℕ) → i < nodes t → kind_at t i ≡ 11 → ins (tree t (second_at t i)) ≡ 0 → 1 ≤ outs (tree t (second_at t i))
  largest_feedback i h e z = omega (arith, ((promise k words).node i h).feedback e)

-- and with the largest word
abbrev minus_one : List ℕ
minus_one = 1 ∷ 4294967295 ∷ 0 ∷ []

minus_one_accepted : checked minus_one ≡ counts (0 ∷ 1 ∷ 1 ∷ 0 ∷ [])
unfolding checked lowest refusal_at children_free taken rule_fits feeds_back tree tree_at ins outs need size sum_to
minus_one_accepted = refl

largest_number : WellFormed (circuit minus_one)
largest_number = (promise minus_one_accepted (words_by minus_one refl)).well_formed

-- any loose node tells that the first one is loose, and the node just before it is not
first_is_loose : (t : List ℕ) (q : ℕ) → loose t q ≡ true → loose t (first_loose t) ≡ true
first_is_loose t = (first-loose t).is_loose

before-first : (t : List ℕ) (q : ℕ) → suc q ≡ first_loose t → loose t q ≡ false
before-first t q e = (first-loose t).no_lower q (omega (arith, e))

refused_at_1 : (t : List ℕ) → checked t ≡ refused_at 9 1 → (loose t 1 ≡ true) × (loose t 0 ≡ false)
refused_at_1 t e = let (l, f) = refused-loose t 1 e in (l, f 0 (omega arith))

-- a right side 0 → 0 fits every left side, so that no node gets 7 where it would get 16
empty-fits : (a b : ℕ) → rule 11 a b 0 0 ≡ true
empty-fits a b = rw (le-leb 0 b (omega arith), le-leb 0 a (omega arith))

-- the place with 16 is the recursion, and the node just below it fits
refused_at_4 : (t : List ℕ) → checked t ≡ refused_at 16 4 → (x : Tree) × (y : Tree) × (tree t 4 ≡ join 4 recursion x y) × Arity y 0 0
refused_at_4 t e = let f = refused-feedback t 4 e in (f.left, f.right, f.recursive, f.empty)

below_4 : (t : List ℕ) → checked t ≡ refused_at 16 4 → Counted (tree t 3) × FeedsBack (tree t 3)
below_4 t e = (refused-feedback t 4 e).first 3 (omega arith)

-- the last of 512 nodes decides
last_of_512 : (t : List ℕ) → length t ≡ 1536 → Begun t 511 → (refusal_at t 511 ≡ 0 → ⊥) → checked t ≡ refused_at (refusal_at t 511) 511
last_of_512 t e b n = last_decides t 511 e (omega arith) b (λ z. absurd (n z)) ∙ rw (ne_eqb (refusal_at t 511) 0 n)

-- each accepted table is of the stated form, and has each node once
accepted_formed : (t : List ℕ) → IsAccepted t → Formed t × Complete (nodes t) (circuit t)
accepted_formed t a = (((accepted t).0 a).0, whole t a)
