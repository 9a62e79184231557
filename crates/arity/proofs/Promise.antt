-- The promise of the check: what a crate above it has of an accepted table.
use Prim.Native.Nat.{ℕ, zero, suc, ◌-◌, ◌*◌, ◌≤◌, ◌<◌}
use mathlib.Core.Path.{◌≡◌, refl, sym, ap, ◌∙◌, subst₂}
use mathlib.Core.Logic.{inl, inr}
use mathlib.Core.List.{List, [], ◌∷◌}
use native.Mathlib.Omega.{arith}
use native.Mathlib.Decide.{dec_le}
use lib.ListN.{length}
use Rattle.word.specs.Tick.{Words}
use Rattle.word.proofs.Each.{word_at}
use Rattle.refusal.specs.Answer.Answer.{counts}
use Rattle.arity.specs.Tree.{ins, outs, need}
use Rattle.arity.specs.Table.{kind_at, first_at, second_at, nodes, tree, circuit, composition_of}
use Rattle.arity.specs.Rules.{Arity}
use Rattle.arity.specs.WellFormed.{Fits, WellFormed}
use Rattle.arity.specs.Nodes.{Numbered, Complete, cells_before}
use Rattle.arity.specs.Check.{rule_fits, feeds_back, report, cells_of, first_cell}
use Rattle.arity.specs.Formed.{Child, Children}
use Rattle.arity.specs.Survey.{row_of, row_at, put_row, filled}
use Rattle.arity.specs.Promise.{Node, Promised, Recounted, Whole, Rows}
use Rattle.arity.specs.declared.rows.Row.{Row}
use Rattle.arity.proofs.Sizes.{cells-before, cells_after_node}
use Rattle.arity.proofs.ByKind.{alone_of, two_of, fits_of, known_of}
use Rattle.arity.proofs.Feedback.{some-feedback}
use Rattle.arity.proofs.Trees.{View, view, as_leaf, as_join, as_ondemand}
use Rattle.arity.proofs.Trees.View.{alone, two, one}
use Rattle.arity.proofs.Right.{Right, rights, kids}
use Rattle.arity.proofs.Once.{nodewise, below, distinct, sized, everywhere}
use Rattle.arity.proofs.Parts.{part, part-need}
use Rattle.arity.proofs.Bounds.{need-most, cells-most}
use Rattle.arity.proofs.Walk.{Passed, has_passed}
use Rattle.arity.proofs.Acceptance.{formed}
use Rattle.arity.proofs.Fitting.{arities}
use Rattle.arity.proofs.Next.{put-length, row_other, row_same, one_more}
use Rattle.arity.proofs.End.{surveyed-all}

module _ (t : List ℕ) (x : Passed t) where
  rights_of : (i : ℕ) → i < nodes t → Right t i
  rights_of = rights t (nodes t) x.right

  kids_of : (i : ℕ) → i < nodes t → Children t i
  kids_of = kids t (nodes t) x.right

  last : nodes t - 1 < nodes t
  last = omega (arith, x.least)

  inner : (j : ℕ) → Numbered (circuit t) j → j < nodes t
  inner j m = omega (arith, below t (nodes t) kids_of (nodes t - 1) last j m, last)

  whole-tree : Complete (nodes t) (circuit t)
  whole-tree =
      record {
        distinct = distinct t (nodes t) kids_of _ last;
        every = everywhere t (nodes t) kids_of (nodes t - 1) (omega (arith, x.least)) (λ j h. (formed t x).attached j (omega arith));
        only = inner;
      }

  -- the first cell of a node, from the tree
  first-cell : (i : ℕ) → i ≤ nodes t → cells_before (circuit t) i ≡ first_cell t i
  first-cell i h = cells-before (cells_of t) (nodes t) (circuit t) whole-tree (sized t (nodes t) kids_of _ last) i h

  fits : (i : ℕ) → i < nodes t → 7 ≤ kind_at t i → kind_at t i ≤ 11 → Fits (composition_of (kind_at t i)) (tree t (first_at t i)) (tree t (second_at t i))
  unfolding rule_fits
  fits i h l m = fits_of (kind_at t i) _ _ (two_of _ l m) (rights_of i h).fits

  fits-kind : (i : ℕ) → i < nodes t → (k : ℕ) → 7 ≤ k → k ≤ 11 → kind_at t i ≡ k → Fits (composition_of k) (tree t (first_at t i)) (tree t (second_at t i))
  fits-kind i h k l m e = rw e at (fits i h (omega arith) (omega arith))

  wellformed : Words t → (i : ℕ) → i < nodes t → WellFormed (tree t i)
  unfolding WellFormed
  wellformed words = nodewise t (nodes t) kids_of (λ i. WellFormed (tree t i)) (λ i h kid. step i h kid (view t (nodes t) kids_of i h))
    where
      step : (i : ℕ) → i < nodes t → ((c : ℕ) → Child t i c → WellFormed (tree t c)) → View t i → WellFormed (tree t i)
      step i h kid (alone a e) = rw e (known_of (kind_at t i) (first_at t i) (alone_of _ (rights_of i h).least a) (word_at t _ words) (rights_of i h).first)
      step i h kid (two a b e) = rw e (kid _ (inl (a, refl)), kid _ (inr (a, b, refl)), fits i h a b)
      step i h kid (one a e) = rw e (kid _ (inl (omega arith, refl)))

  module _ (words : Words t) (i : ℕ) (h : i < nodes t) where
    second-lower : 7 ≤ kind_at t i → second_at t i < i
    second-lower l = go (dec_le (kind_at t i) 11)
      where
        go : Dec (kind_at t i ≤ 11) → second_at t i < i
        go (yes m) = ((kids_of i h).second l m).lower
        go (no m) = let z = ((formed t x).fields i h).unused (λ u v. omega arith) in omega (arith, ((kids_of i h).first l).lower)

    node : Node t i
    unfolding feeds_back
    node =
        let f = (formed t x).fields i h in
        let q = part t (nodes t) kids_of (nodes t - 1) last i (whole-tree.every i h) in
        record {
          inside = omega (arith, x.whole);
          least = (rights_of i h).least;
          most = (rights_of i h).most;
          control = λ e. omega (arith, f.control e);
          operation = f.operation;
          delay = f.delay;
          left = λ l. ((kids_of i h).first l).lower;
          right = second-lower;
          is_leaf = as_leaf (view t (nodes t) kids_of i h);
          is_join = as_join (view t (nodes t) kids_of i h);
          is_ondemand = as_ondemand (view t (nodes t) kids_of i h);
          well_formed = wellformed words i h;
          arity = arities t (nodes t) x.right i h;
          sequence = fits-kind i h 7 (omega arith) (omega arith);
          split = fits-kind i h 9 (omega arith) (omega arith);
          merge = fits-kind i h 10 (omega arith) (omega arith);
          recursion = fits-kind i h 11 (omega arith) (omega arith);
          feedback = λ e. some-feedback (kind_at t i) (tree t (second_at t i)) e (rights_of i h).feeds;
          inputs = (rights_of i h).inputs;
          outputs = (rights_of i h).outputs;
          instructions = rw q at (part-need (circuit t) whole-tree.distinct i (whole-tree.every i h));
          cells = rw q at (cells_after_node (circuit t) i (nodes t) h);
          part = q;
        }

pub whole : (t : List ℕ) → Whole t
whole t (ks, e) = whole-tree t (has_passed t ks e).0

pub recounted : (t : List ℕ) → Recounted t
recounted t (ks, e) =
    let (x, r) = has_passed t ks e in
    rw (first-cell t x (nodes t) (omega arith)) (e ∙ sym r)

pub promise : {t : List ℕ} {a b c d : ℕ} → Promised t a b c d
promise {t} {a} {b} {c} {d} e words =
    record {
      whole = x.whole;
      least = x.least;
      most = x.most;
      arity = subst₂ (λ (m n : ℕ). Arity (circuit t) m n) (sym inputs) (sym outputs) (arities t (nodes t) x.right (nodes t - 1) (last t x));
      counted = (inputs, outputs, instructions);
      celled = total;
      modest = (omega (arith, instructions, x.most, need-most t (nodes t) x.right (nodes t - 1) (last t x)), omega (arith, cells, x.most, cells-most t (nodes t) x.right));
      well_formed = wellformed t x words (nodes t - 1) (last t x);
      complete = whole-tree t x;
      small = λ p q. record {
        inputs = (rights_of t x (nodes t - 1) (last t x)).inputs;
        outputs = (rights_of t x (nodes t - 1) (last t x)).outputs;
        instructions = omega (arith, instructions);
        cells = omega (arith, total);
      };
      node = node t x words;
    }
  where
    x : Passed t
    x = (has_passed t _ e).0

    r : report t ≡ counts (a ∷ b ∷ c ∷ d ∷ [])
    r = (has_passed t _ e).1

    inputs : a ≡ ins (circuit t)
    inputs = cc r

    outputs : b ≡ outs (circuit t)
    outputs = cc r

    instructions : c ≡ need (circuit t)
    instructions = cc r

    cells : d ≡ first_cell t (nodes t)
    cells = cc r

    total : d ≡ cells_before (circuit t) (nodes t)
    total = cells ∙ sym (first-cell t x (nodes t) (omega arith))

-- a shape with rows is as long as before
filled-length : (t s : List ℕ) (i : ℕ) → length (filled t i s) ≡ length s
unfolding filled
filled-length t s zero = refl
filled-length t s (suc i) = put-length (filled t i s) i (row_of t i) ∙ filled-length t s i

filled_row : (t s : List ℕ) (i : ℕ) → 4 * i ≤ length s → (j : ℕ) → j < i → row_at (filled t i s) j ≡ row_of t j
unfolding filled
filled_row t s zero h = λ j k. absurd (omega arith)
filled_row t s (suc i) h =
    one_more (λ j. row_at (put_row (filled t i s) i (row_of t i)) j ≡ row_of t j) i
    (λ j k. row_other (filled t i s) i (row_of t i) j (λ e. omega arith) ∙ filled_row t s i (omega arith) j k)
    (row_same (filled t i s) i (row_of t i) (omega (arith, filled-length t s i)))

pub rows : {t : List ℕ} (s : List ℕ) {s' : List ℕ} → Rows t s s'
rows {t} s {s'} (ks, e) long f i h =
    let q = row-at in
    record {
      inputs = ap (λ (r : Row). r.inputs) q;
      outputs = ap (λ (r : Row). r.outputs) q;
      instructions = ap (λ (r : Row). r.instructions) q;
      cell = ap (λ (r : Row). r.cell) q ∙ sym (first-cell t x i (omega arith));
    }
  where
    x : Passed t
    x = (has_passed t ks e).0

    row-at : row_at s' i ≡ row_of t i
    row-at =
        ap (λ (l : List ℕ). row_at l i) (f ∙ surveyed-all t s (λ z. omega (arith, x.whole, x.least)) (omega (arith, x.whole)) x.most x.right)
        ∙ filled_row t s (nodes t) (omega (arith, x.most)) i h
