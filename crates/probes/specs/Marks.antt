-- Which probes are on which node, so that a tick looks at each probe once: each node that has any has a row of them.
use Rattle.std.specs.Prelude.{ℕ, ◌+◌, ◌*◌, ◌<◌, ◌≤◌, ◌≡◌, List, length, get_or, set, replicate}
use Rattle.word.specs.Limits.{most_nodes, widest, most_probes}

-- probe k of numbers two a probe
abbrev pub node_of : List ℕ → ℕ → ℕ
node_of xs k = get_or xs (2 * k) 0

abbrev pub output_of : List ℕ → ℕ → ℕ
output_of xs k = get_or xs (2 * k + 1) 0

-- k probes, each on a node and an output that a table can have
pub record Probing (xs : List ℕ) (k : ℕ) : Type 0 where
  pub two : length xs ≡ 2 * k
  pub few : k ≤ most_probes
  pub nodes : (i : ℕ) → i < k → node_of xs i < most_nodes
  pub outputs : (i : ℕ) → i < k → output_of xs i < widest

-- the first probe on node j, counted from 1; 0 where there is none
abbrev pub mark_of : List ℕ → ℕ → ℕ
mark_of marks j = get_or marks j 0

-- where the row of probe f begins: its count of probes, and two numbers for each, its place in the list and its output
abbrev pub row_width : ℕ
row_width = 1 + 2 * most_probes

abbrev pub row_at : ℕ → ℕ
row_at f = most_nodes + row_width * f

abbrev pub count_at : List ℕ → ℕ → ℕ
count_at marks at = get_or marks at 0

abbrev pub probe_at : List ℕ → ℕ → ℕ → ℕ
probe_at marks at i = get_or marks (at + 1 + 2 * i) 0

abbrev pub output_at : List ℕ → ℕ → ℕ → ℕ
output_at marks at i = get_or marks (at + 1 + 2 * i + 1) 0

-- no node is marked, and no row has a probe
pub record Clear (marks : List ℕ) : Type 0 where
  pub is : marks ≡ replicate (row_at most_probes) 0

-- one entry more, probe k and its output o, in the row of probe f, the first on node j, that has n
abbrev pub entered : List ℕ → (j f n k o : ℕ) → List ℕ
entered marks j f n k o = set (set (set (set marks j (f + 1)) (row_at f + 1 + 2 * n) k) (row_at f + 1 + 2 * n + 1) o) (row_at f) (n + 1)

-- it lies within the marks
pub record Enters (j f n k o : ℕ) : Type 0 where
  pub node : j < most_nodes
  pub first : f < most_probes
  pub entry : n < most_probes
  pub probe : k < most_probes
  pub output : o < widest

-- the entry at e is one of k probes and an output
pub record Shows (marks : List ℕ) (e k : ℕ) : Type 0 where
  pub fits : e + 1 < row_at most_probes
  pub probe : get_or marks e 0 < k
  pub output : get_or marks (e + 1) 0 < widest

-- entry i of the row of node j that begins at `at`: one of the first k probes, on that node, and its output
pub record Entry (xs : List ℕ) (k : ℕ) (marks : List ℕ) (j at i : ℕ) : Type 0 where
  pub known : probe_at marks at i < k
  pub on : node_of xs (probe_at marks at i) ≡ j
  pub output : output_at marks at i ≡ output_of xs (probe_at marks at i)

-- the row of probe f, the first on node j
pub record Row (xs : List ℕ) (k : ℕ) (marks : List ℕ) (j f : ℕ) : Type 0 where
  pub known : f < k
  pub on : node_of xs f ≡ j
  pub few : f + count_at marks (row_at f) ≤ k
  pub entry : (i : ℕ) → i < count_at marks (row_at f) → Entry xs k marks j (row_at f) i

-- probe k stands in the row of its node
pub record Listed (xs marks : List ℕ) (k : ℕ) : Type 0 where
  pub first : ℕ
  pub mark : mark_of marks (node_of xs k) ≡ first + 1
  pub entry : ℕ
  pub within : entry < count_at marks (row_at first)
  pub is : probe_at marks (row_at first) entry ≡ k

-- the marks of the first k probes: of each node the row of its probes, all of them
pub record Marked (xs : List ℕ) (k : ℕ) (marks : List ℕ) : Type 0 where
  pub rows : (j f : ℕ) → j < most_nodes → mark_of marks j ≡ f + 1 → Row xs k marks j f
  pub listed : (i : ℕ) → i < k → Listed xs marks i

-- k probes have these marks
pub record MarksOf (k : ℕ) (marks : List ℕ) : Type 0 where
  pub numbers : List ℕ
  pub probing : Probing numbers k
  pub marked : Marked numbers k marks
