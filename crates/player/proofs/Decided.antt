-- The first bytes of an input decide on its circuit, as those of a file do.
use mathlib.Core.Path.{sym, ap, ◌∙◌}
use Prim.Native.Nat.{ℕ}
use mathlib.Core.List.{List}
use native.Mathlib.Omega.{arith}
use Rattle.column.specs.File.{file_refusal, reading}
use Rattle.column.proofs.Prefix.{prefix_reads, refused-alike, right_prefix}
use Rattle.player.specs.Samples.{circuit_part}
use Rattle.player.specs.Laws.{CircuitDecided, CircuitComplete}
use Rattle.player.proofs.Parts.{circuit_of_first}

pub circuit_decided : CircuitDecided
circuit_decided k input table h = ap (λ (file : List ℕ). reading file table) (circuit_of_first k input) ∙ prefix_reads k (circuit_part input) table h

pub circuit-complete : CircuitComplete
circuit-complete k input h e =
    circuit_of_first k input
    ∙ right_prefix k (circuit_part input) (omega arith) (sym (refused-alike k (circuit_part input) (omega arith)) ∙ ap file_refusal (sym (circuit_of_first k input)) ∙ e)
