-- What stands before the first byte c, byte by byte.
use Prim.Native.Nat.{ℕ, zero, suc, ◌<◌}
use mathlib.Core.Path.{◌≡◌, refl, ap}
use mathlib.Core.Bool.{Bool, true, false}
use mathlib.Core.List.{List, [], ◌∷◌}
use mathlib.Core.Logic.{◌≢◌}
use native.Mathlib.Omega.{arith}
use borrow.Author.Tests.{eq-eqb, ne_eqb}
use lib.Dec.{eqb}
use lib.ListN.{length, get_or, take}
use Rattle.std.specs.Prelude.{Option as StdOption, Some, None, unwrap_or}
use Rattle.word.specs.Choice.{pick}
use Rattle.player.specs.Samples.{up_to}
use Rattle.player.specs.Promises.{FirstByte}

pub up_to_take : (c : ℕ) (text : List ℕ) → up_to c text ≡ take (length (up_to c text)) text
up_to_take c [] = refl
up_to_take c (b ∷ bs) = go (eqb b c) (up_to_take c bs)
  where
    go : (t : Bool) → up_to c bs ≡ take (length (up_to c bs)) bs → pick t [] (b ∷ up_to c bs) ≡ take (length (pick t [] (b ∷ up_to c bs))) (b ∷ bs)
    go true e = refl
    go false e = ap {B = List ℕ} (λ l. b ∷ l) e

-- where it stands
at_byte : (c : ℕ) (text : List ℕ) (p : ℕ) → p < length text → ((k : ℕ) → k < p → get_or text k 0 ≢ c) → get_or text p 0 ≡ c → p ≡ length (up_to c text)
at_byte c [] p h before e = absurd (omega arith)
at_byte c (b ∷ bs) zero h before e = rw (eq-eqb b c e)
at_byte c (b ∷ bs) (suc p) h before e =
    let r : p ≡ length (up_to c bs) = at_byte c bs p (omega arith) (λ k l. before (suc k) (omega arith)) e in
    rw (ne_eqb b c (before 0 (omega arith))) (omega arith)

nowhere : (c : ℕ) (text : List ℕ) → ((k : ℕ) → k < length text → get_or text k 0 ≢ c) → length text ≡ length (up_to c text)
nowhere c [] none = refl
nowhere c (b ∷ bs) none =
    let r : length bs ≡ length (up_to c bs) = nowhere c bs (λ k l. none (suc k) (omega arith)) in
    rw (ne_eqb b c (none 0 (omega arith))) (omega arith)

pub byte_found : (c : ℕ) (text : List ℕ) (r : StdOption ℕ) → FirstByte text c r → unwrap_or r (length text) ≡ length (up_to c text)
byte_found c text None f = nowhere c text f
byte_found c text (Some p) f = at_byte c text p f.0 f.1.0 f.1.1
