-- An answer as one number of 64 bits. Bits 0 to 31: the count, or the place as a 32-bit two's complement number, so that "-1" is 4294967295. Bits 32 to 47: the
-- refusal's number, 0 where there is none. Bits 48 to 63: what walker and runner report beside the count.
use Rattle.std.specs.Prelude.{ℕ, ◌+◌, ◌*◌, ◌^◌, List, [], ◌∷◌}
use Rattle.word.specs.Word.{low}
use Rattle.refusal.specs.Answer.{Answer}
use Rattle.refusal.specs.Answer.Answer.{counts, refused}

abbrev pub encoded_counts : List ℕ → ℕ
encoded_counts [] = 0
encoded_counts (n ∷ []) = n
encoded_counts (n ∷ clips ∷ ks) = clips * 2 ^ 48 + n

abbrev pub encoded : Answer → ℕ
encoded (counts ks) = encoded_counts ks
encoded (refused n p) = n * 2 ^ 32 + low p
