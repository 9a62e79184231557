-- The laws at their borders: a premise that asked for more, or a conclusion that said less, would fail here.
use Prim.Native.Nat.{ℕ}
use mathlib.Core.Path.{◌≡◌}
use mathlib.Core.List.{List}
use native.Mathlib.Omega.{arith}
use lib.ListN.{take}
use Rattle.listing.specs.Print.{file_text}
use Rattle.listing.proofs.Prefix.{prefix_prints}

-- 512 lines and a byte more
enough_prints : (file : List ℕ) → file_text (take 20993 file) ≡ file_text file
enough_prints file = prefix_prints 20993 file (omega arith)
