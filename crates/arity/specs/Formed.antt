-- Tables of the stated form, and tables whose nodes have arities by the published rules.
use Rattle.std.specs.Prelude.{ℕ, suc, ◌*◌, ◌≤◌, ◌<◌, ◌≡◌, ◌⊎◌, List, length}
use Rattle.word.specs.Limits.{most_nodes, widest, last_slot, longest_delay}
use Rattle.word.specs.Operation.{operands}
use Rattle.arity.specs.Tree.{Tree}
use Rattle.arity.specs.Tree.Tree.{join}
use Rattle.arity.specs.Tree.Composition.{recursion}
use Rattle.arity.specs.Table.{kind_at, first_at, second_at, nodes, tree}
use Rattle.arity.specs.Rules.{Arity}

-- node j has the child c: the kinds 7 to 12 have a left one, or a body, and 7 to 11 a right one
abbrev pub Child : List ℕ → ℕ → ℕ → Type 0
Child table j c = ((7 ≤ kind_at table j) × (first_at table j ≡ c)) ⊎ ((7 ≤ kind_at table j) × (kind_at table j ≤ 11) × (second_at table j ≡ c))

-- "Children have lower numbers, and each node but the last is a child once."
pub record Free (table : List ℕ) (i c : ℕ) : Type 0 where
  pub lower : c < i
  pub new : (j : ℕ) → j < i → Child table j c → ⊥

pub record Children (table : List ℕ) (i : ℕ) : Type 0 where
  pub first : 7 ≤ kind_at table i → Free table i (first_at table i)
  pub second : 7 ≤ kind_at table i → kind_at table i ≤ 11 → Free table i (second_at table i)
  pub apart : 7 ≤ kind_at table i → kind_at table i ≤ 11 → first_at table i ≡ second_at table i → ⊥

-- the fields of a node, by its kind; "Unused fields are 0."
pub record Fields (kind first second : ℕ) : Type 0 where
  pub control : kind ≡ 2 → first ≤ last_slot
  pub operation : kind ≡ 3 → 0 < operands first
  pub delay : kind ≡ 4 → first ≤ longest_delay
  pub cable : kind ≡ 5 → first ≡ 0
  pub cut : kind ≡ 6 → first ≡ 0
  pub unused : (7 ≤ kind → kind ≤ 11 → ⊥) → second ≡ 0

-- each node but the last is a child
abbrev pub Attached : List ℕ → Type 0
Attached table = (j : ℕ) → suc j < nodes table → (p : ℕ) × (p < nodes table) × Child table p j

-- a table of the stated form: what the section "The node table" says of it, but for the arities
pub record Formed (table : List ℕ) : Type 0 where
  pub whole : 3 * nodes table ≡ length table
  pub least : 1 ≤ nodes table
  pub most : nodes table ≤ most_nodes
  pub kinds : (i : ℕ) → i < nodes table → (1 ≤ kind_at table i) × (kind_at table i ≤ 12)
  pub fields : (i : ℕ) → i < nodes table → Fields (kind_at table i) (first_at table i) (second_at table i)
  pub children : (i : ℕ) → i < nodes table → Children table i
  pub attached : Attached table

-- the published rules count the inputs and outputs of a tree, none above 32
abbrev pub Counted : Tree → Type 0
Counted x = (a : ℕ) × (b : ℕ) × Arity x a b × (a ≤ widest) × (b ≤ widest)

-- a tree is no recursion whose right side has "neither inputs nor outputs", by the same rules
abbrev pub FeedsBack : Tree → Type 0
FeedsBack t = (i : ℕ) (x y : Tree) → t ≡ join i recursion x y → Arity y 0 0 → ⊥

-- both, and both of each node of a table
abbrev pub Fitted : Tree → Type 0
Fitted x = Counted x × FeedsBack x

abbrev pub Fitting : List ℕ → Type 0
Fitting table = (i : ℕ) → i < nodes table → Fitted (tree table i)

-- the first n nodes of a table are of the stated form, and fit
pub record Begun (table : List ℕ) (n : ℕ) : Type 0 where
  pub kinds : (i : ℕ) → i < n → (1 ≤ kind_at table i) × (kind_at table i ≤ 12)
  pub fields : (i : ℕ) → i < n → Fields (kind_at table i) (first_at table i) (second_at table i)
  pub children : (i : ℕ) → i < n → Children table i
  pub fitting : (i : ℕ) → i < n → Fitted (tree table i)
