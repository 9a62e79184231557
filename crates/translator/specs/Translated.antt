-- The flat code of a table.
use Rattle.std.specs.Prelude.{ℕ, List}
use Rattle.arity.specs.Tree.{Tree, ins}
use Rattle.arity.specs.Table.{nodes, circuit}
use Rattle.arity.specs.Nodes.{cells_before}
use Rattle.flat.specs.Code.{Code, encode}
use Rattle.translator.specs.Emit.{emit, up_from}

-- the code of a circuit of n nodes: its inputs are the first registers, its nodes' cells stand in node order
unfoldable pub translation : ℕ → Tree → Code
unfolding emit cells_before ins
translation n t =
    let e = emit (cells_before t) t (up_from 0 (ins t)) (ins t) in
    record { inputs = ins t; cells = cells_before t n; instructions = e.code; results = e.results }

-- the numbers of a table's code
unfoldable pub translated : List ℕ → List ℕ
unfolding translation encode
translated table = encode (translation (nodes table) (circuit table))
