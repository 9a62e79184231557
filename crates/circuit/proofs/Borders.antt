-- The laws at their borders: a premise that asked for more, or a conclusion that said less, would fail here.
use Prim.Native.Nat.{◌/◌, ◌%◌, ◌^◌}
use mathlib.Core.Path.{◌≡◌}
use lib.Dec.{lit<}
use lib.IntN.{pos, negsuc}
use Rattle.word.specs.Word.{low}
use Rattle.refusal.specs.Answer.{count}
use Rattle.refusal.specs.Answer.Answer.{refused}
use Rattle.cells.specs.Block.{with_report}
use Rattle.circuit.specs.Encoded.{encoded}
use Rattle.circuit.proofs.Decoded.{count-tells, report-tells, refusal-tells}

-- the largest count, the largest report beside the most samples, a place, and no place
largest_count : (encoded (count 4294967295) / 2 ^ 32 % 2 ^ 16 ≡ 0) × (encoded (count 4294967295) % 2 ^ 32 ≡ 4294967295) × (encoded (count 4294967295) / 2 ^ 48 ≡ 0)
largest_count = let t = count-tells 4294967295 (lit< tt) in (t.refusal_is, t.count-is, t.clipped-is)

all-clipped : (encoded (with_report 131072 4096) / 2 ^ 32 % 2 ^ 16 ≡ 0) × (encoded (with_report 131072 4096) % 2 ^ 32 ≡ 131072) × (encoded (with_report 131072 4096) / 2 ^ 48 ≡ 4096)
all-clipped = let t = report-tells 131072 4096 (lit< tt) in (t.refusal_is, t.count-is, t.clipped-is)

at_512 : (encoded (refused 3 (pos 512)) / 2 ^ 32 % 2 ^ 16 ≡ 3) × (encoded (refused 3 (pos 512)) % 2 ^ 32 ≡ 512) × (encoded (refused 3 (pos 512)) / 2 ^ 48 ≡ 0)
unfolding low
at_512 = let t = refusal-tells 3 (pos 512) (lit< tt) in (t.refusal_is, t.count-is, t.clipped-is)

at_none : (encoded (refused 14 (negsuc 0)) / 2 ^ 32 % 2 ^ 16 ≡ 14) × (encoded (refused 14 (negsuc 0)) % 2 ^ 32 ≡ 4294967295) × (encoded (refused 14 (negsuc 0)) / 2 ^ 48 ≡ 0)
unfolding low
at_none = let t = refusal-tells 14 (negsuc 0) (lit< tt) in (t.refusal_is, t.count-is, t.clipped-is)
