-- What is proved of drawings, of the table that joins two, and of the renumbered table.
use Rattle.std.specs.Prelude.{ℕ, ◌+◌, ◌<◌, ◌≡◌, ◌↔◌, true, List}
use Rattle.word.specs.Limits.{most_nodes}
use Rattle.arity.specs.Tree.{Tree, ins, outs, need}
use Rattle.arity.specs.Table.{nodes, circuit}
use Rattle.arity.specs.Check.{two_children, checked, IsAccepted}
use Rattle.arity.specs.Formed.{Fitted}
use Rattle.signal.specs.Signal.{History, signal, samples}
use Rattle.signal.specs.Clips.{clipped_ticks}
use Rattle.drawing.specs.Drawing.{Alike, cells_in}
use Rattle.drawing.specs.Numbering.{joined, renumbered}
use Rattle.drawing.specs.Joined.{composed, join_answer}

-- what does not turn on the numbers of the nodes
pub record Same (x y : Tree) : Type 0 where
  pub inputs : ins x ≡ ins y
  pub outputs : outs x ≡ outs y
  pub instructions : need x ≡ need y
  pub cells : cells_in x ≡ cells_in y
  pub fitted : Fitted x → Fitted y
  pub meaning : (h : History) → signal x h ≡ signal y h
  pub samples : (h : History) → samples x h ≡ samples y h
  pub reports : (h : History) → clipped_ticks x h ≡ clipped_ticks y h

abbrev pub Unnumbered : Type 0
Unnumbered = (x y : Tree) → Alike x y → Same x y

-- two accepted tables whose nodes, with one more, are no more than 512
pub record Joinable (t u : List ℕ) : Type 0 where
  pub first : IsAccepted t
  pub second : IsAccepted u
  pub few : nodes t + nodes u < most_nodes

-- the check's answer to the joined table, whatever the kind
abbrev pub JoinedAnswer : Type 0
JoinedAnswer = (kind : ℕ) (t u : List ℕ) → Joinable t u → checked (joined kind t u) ≡ join_answer kind t u

-- "The result is accepted if and only if the arity rule, the limit of 32 and the feedback check pass at the joining node", and its kind is 7 to 11
abbrev pub JoinedAccepted : Type 0
JoinedAccepted = (kind : ℕ) (t u : List ℕ) → Joinable t u
    → IsAccepted (joined kind t u) ↔ ((two_children kind ≡ true) × Fitted (composed kind (circuit t) (circuit u)))

-- it draws the composition, so "its samples are the composition of the two meanings"
abbrev pub JoinedDraws : Type 0
JoinedDraws = (kind : ℕ) (t u : List ℕ) → Joinable t u → IsAccepted (joined kind t u) → Alike (circuit (joined kind t u)) (composed kind (circuit t) (circuit u))

abbrev pub JoinedMeaning : Type 0
JoinedMeaning = (kind : ℕ) (t u : List ℕ) → Joinable t u → IsAccepted (joined kind t u)
    → (h : History) → signal (circuit (joined kind t u)) h ≡ signal (composed kind (circuit t) (circuit u)) h

-- an accepted table, renumbered: accepted with the same counts, the same drawing, and renumbering it again changes no number
pub record Renumbering (t : List ℕ) : Type 0 where
  pub length : nodes (renumbered (circuit t)) ≡ nodes t
  pub answer : checked (renumbered (circuit t)) ≡ checked t
  pub draws : Alike (circuit (renumbered (circuit t))) (circuit t)
  pub again : renumbered (circuit (renumbered (circuit t))) ≡ renumbered (circuit t)

abbrev pub Renumbered : Type 0
Renumbered = (t : List ℕ) → IsAccepted t → Renumbering t

-- two accepted tables draw the same exactly where their renumbered tables are equal
abbrev pub SameTable : Type 0
SameTable = (t u : List ℕ) → IsAccepted t → IsAccepted u → Alike (circuit t) (circuit u) ↔ (renumbered (circuit t) ≡ renumbered (circuit u))
