-- The keys of a code's instructions: one more, and on from the next.
use Prim.Native.Nat.{ℕ, ◌+◌, ◌-◌, ◌*◌, ◌≤◌, ◌<◌}
use mathlib.Core.Path.{◌≡◌, ap, ◌∙◌, subst₂}
use mathlib.Core.List.{List}
use native.Mathlib.Decide.{dec_le}
use native.Mathlib.Nat.{add-zero}
use native.Mathlib.Omega.{arith}
use lib.ListN.{length, get_or, set, length-set}
use lib.Seq.{get_or-set_same, get_or-set_other}
use Rattle.flat.specs.declared.keys.Key.{Key}
use Rattle.flat.specs.declared.keys.Key.TheVariants.{Skip}
use Rattle.flat.specs.Flat.{Instruction, width}
use Rattle.flat.specs.Code.{instruction_at}
use Rattle.flat.specs.Steps.{key_of, Keys}

-- none yet
pub keys_none : (code : List ℕ) (keys : List Key) (p r : ℕ) → r ≤ length keys → Keys code keys r p r
keys_none code keys p r h = record { room = h; here = λ j l. absurd (omega arith) }

module _ {code : List ℕ} {keys : List Key} {end p r : ℕ} (g : Keys code keys end p r) where
  -- the same numbers
  pub keys_as : {end' r' : ℕ} → end ≡ end' → r ≡ r' → Keys code keys end' p r'
  keys_as e f = subst₂ (λ n m. Keys code keys n p m) e f g

  -- one more, at place q
  pub keys_one : {key : Key} {q : ℕ} {x : Instruction} → r ≤ end → end < length keys → q ≡ p + width * (end - r) → x ≡ instruction_at code q → key ≡ key_of x → Keys code (set keys end key) (end + 1) p r
  keys_one {key} {q} {x} l h eq ex ek = record { room = rw length-set (omega arith); here = λ j i. go j i (dec_le end (r + j)) }
    where
      go : (j : ℕ) → r + j < end + 1 → Dec (end ≤ r + j) → get_or (set keys end key) (r + j) Skip ≡ key_of (instruction_at code (p + width * j))
      go j i (yes d) =
          let e : r + j ≡ end = omega arith in
          let f : p + width * j ≡ q = omega arith in
          rw (e, f) (get_or-set_same keys end key Skip h ∙ ek ∙ ap key_of ex)
      go j i (no d) = get_or-set_other keys end (r + j) key Skip (omega arith) ∙ g.here j (omega arith)

  -- the first
  pub key_here : {x : Instruction} → r < end → x ≡ instruction_at code p → get_or keys r Skip ≡ key_of x
  key_here h e = rw e (simp add-zero at (g.here 0 (omega arith)))

  -- those behind the first and s more
  pub keys_on : (s : ℕ) → Keys code keys end (p + (width + width * s)) (r + (1 + s))
  keys_on s = record {
    room = g.room;
    here = λ j h.
        let a : r + (1 + s) + j ≡ r + (1 + s + j) = omega arith in
        let b : p + (width + width * s) + width * j ≡ p + width * (1 + s + j) = omega arith in
        rw (a, b) (g.here (1 + s + j) (omega arith));
  }
