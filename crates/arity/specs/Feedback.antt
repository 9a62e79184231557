-- What the place with refusal 16 is: "the node as its place".
use Rattle.std.specs.Prelude.{ℕ, ◌<◌, ◌≡◌, List}
use Rattle.refusal.specs.Answer.{refused_at}
use Rattle.arity.specs.Tree.{Tree}
use Rattle.arity.specs.Tree.Tree.{join}
use Rattle.arity.specs.Tree.Composition.{recursion}
use Rattle.arity.specs.Table.{tree}
use Rattle.arity.specs.Rules.{Arity}
use Rattle.arity.specs.Check.{checked}
use Rattle.arity.specs.Formed.{Fitted}

-- a recursion whose right side the published rules give neither inputs nor outputs; each lower node fits
pub record EmptyFeedback (table : List ℕ) (p : ℕ) : Type 0 where
  pub left : Tree
  pub right : Tree
  pub recursive : tree table p ≡ join p recursion left right
  pub empty : Arity right 0 0
  pub first : (q : ℕ) → q < p → Fitted (tree table q)

abbrev pub RefusedFeedback : List ℕ → Type 0
RefusedFeedback table = (p : ℕ) → checked table ≡ refused_at 16 p → EmptyFeedback table p
