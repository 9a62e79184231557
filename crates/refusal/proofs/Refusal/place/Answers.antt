-- `Refusal::place` meets its contract: a line or node of 32 bits is its own low 32 bits.
use Rattle.std.proofs.Common.{◌≡◌, ℕ, ◌^◌, ◌<◌, Option, Some, None, unwrap_or, refl, ◌∙◌, arith}
use Rattle.word.specs.Word.{low}
use Rattle.refusal.specs.Refusals.{carried_place}
use Rattle.refusal.specs.declared.TheConstants.{NO_PLACE}
use Rattle.refusal.proofs.Refusal.place.Goals as goal

word_low : (o : Option ℕ) → unwrap_or o NO_PLACE < 2 ^ 32 → unwrap_or o NO_PLACE ≡ low (carried_place o)
unfolding low
word_low (Some p) h = omega arith
word_low None h = refl

pub returns : goal.returns
returns c =
    let fits : unwrap_or c.carried.result NO_PLACE < 2 ^ 32 = omega (arith, c.unwrap_or.ensures, c.unwrap_or.type_inv) in
    rw c.carried.ensures (c.unwrap_or.ensures ∙ word_low _ fits)
