-- Loads and lists of calls.
use Rattle.std.specs.Prelude.{ℕ, ◌≤◌, ◌≡◌, List, []}
use Rattle.refusal.specs.Answer.{count}
use Rattle.cells.specs.Block.{ran_as}
use Rattle.cells.specs.Load.{loaded}
use Rattle.arity.specs.Tree.{Tree}
use Rattle.calls.specs.Calls.{Call, Program, Element, OthersRefused}
use Rattle.calls.specs.Law.{LawfulThroughout}

-- the claim "from an empty history and the cells left by a load that named at least the table's count", d, whatever the cells held before
abbrev pub LawfulFromLoad : ℕ → Tree → Program → ℕ → Type 0
LawfulFromLoad n t work d = (named : ℕ) (cells : List ℕ) → (loaded named cells).answer ≡ count named → d ≤ named
    → (list : List Element) → OthersRefused work 0 (loaded named cells).buffer list → LawfulThroughout n t work 0 [] (loaded named cells).buffer list

-- a load as one of a list of calls; it has no output buffer
abbrev pub load_call : (named from lent : ℕ) → Call
load_call named from lent = record { from = from; lent = lent; outputs = []; work = λ cells. ran_as (loaded named cells).answer (loaded named cells).buffer [] }
