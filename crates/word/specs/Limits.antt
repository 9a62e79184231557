-- The document's limits.
use Rattle.std.specs.Prelude.{ℕ}

-- "It has 1 to 512 nodes"
abbrev pub most_nodes : ℕ
most_nodes = 512

-- "inputs or outputs above 32"
abbrev pub widest : ℕ
widest = 32

-- "16 controls"
abbrev pub control_count : ℕ
control_count = 16

-- "slot 0 to 15"
abbrev pub last_slot : ℕ
last_slot = 15

-- "D, 0 to 4095"
abbrev pub longest_delay : ℕ
longest_delay = 4095

-- "more than 2,048 instructions"
abbrev pub most_instructions : ℕ
most_instructions = 2048

-- "cells not 0 to 16,384"
abbrev pub most_cells : ℕ
most_cells = 16384

-- "ticks not 0 to 4,096"
abbrev pub most_ticks : ℕ
most_ticks = 4096

-- "more than 16 probes"
abbrev pub most_probes : ℕ
most_probes = 16
