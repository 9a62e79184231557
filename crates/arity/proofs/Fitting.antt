-- Nodes that no row refuses: the published rules count each of them, none above 32, and each recursion feeds something back.
use Prim.Native.Nat.{ℕ, ◌<◌}
use mathlib.Core.Path.{◌≡◌, refl}
use mathlib.Core.Logic.{inl, inr}
use mathlib.Core.List.{List}
use native.Mathlib.Omega.{arith}
use Rattle.arity.specs.Tree.{ins, outs}
use Rattle.arity.specs.Table.{kind_at, tree}
use Rattle.arity.specs.Rules.{Arity}
use Rattle.arity.specs.WellFormed.{Ruled}
use Rattle.arity.specs.Check.{rule_fits, feeds_back, refusal_at}
use Rattle.arity.specs.Formed.{Child, FeedsBack, Fitted}
use Rattle.arity.proofs.Exact.{arity}
use Rattle.arity.proofs.ByKind.{two_of, fits_of}
use Rattle.arity.proofs.Feedback.{leaf_feeds, join_feeds, ondemand_feeds}
use Rattle.arity.proofs.Trees.{View, view}
use Rattle.arity.proofs.Trees.View.{alone, two, one}
use Rattle.arity.proofs.Right.{rights, kids}
use Rattle.arity.proofs.Once.{nodewise}

module _ (t : List ℕ) (n : ℕ) (passes : (i : ℕ) → i < n → refusal_at t i ≡ 0) where
  rules : (i : ℕ) → i < n → Ruled (tree t i)
  unfolding Ruled rule_fits
  rules = nodewise t n (kids t n passes) (λ i. Ruled (tree t i)) (λ i h kid. step i h kid (view t n (kids t n passes) i h))
    where
      step : (i : ℕ) → i < n → ((c : ℕ) → Child t i c → Ruled (tree t c)) → View t i → Ruled (tree t i)
      step i h kid (alone a e) = rw e tt
      step i h kid (two a b e) =
          rw e (kid _ (inl (a, refl)), kid _ (inr (a, b, refl)), fits_of (kind_at t i) _ _ (two_of _ a b) (rights t n passes i h).fits)
      step i h kid (one a e) = rw e (kid _ (inl (omega arith, refl)))

  pub arities : (i : ℕ) → i < n → Arity (tree t i) (ins (tree t i)) (outs (tree t i))
  arities i h = arity (tree t i) (rules i h)

  feeding : (i : ℕ) → i < n → FeedsBack (tree t i)
  unfolding feeds_back
  feeding i h = go (view t n (kids t n passes) i h)
    where
      go : View t i → FeedsBack (tree t i)
      go (alone a e) = rw e (leaf_feeds i _)
      go (two a b e) = rw e (join_feeds i (kind_at t i) _ _ (two_of (kind_at t i) a b) (rights t n passes i h).feeds)
      go (one a e) = rw e (ondemand_feeds i _)

  pub fitting : (i : ℕ) → i < n → Fitted (tree t i)
  fitting i h =
      let r = rights t n passes i h in
      ((ins (tree t i), outs (tree t i), arities i h, r.inputs, r.outputs), feeding i h)
