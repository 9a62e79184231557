-- A text that is put part by part: what is left completes what is put.
use Prim.Native.Nat.{ℕ, ◌+◌, ◌≤◌}
use mathlib.Core.Path.{◌≡◌, refl, sym, ap, ◌∙◌}
use mathlib.Core.List.{List, [], ◌++◌}
use native.Mathlib.Omega.{arith}
use lib.ListN.{length, length-append}
use lib.Seq.{sets, length-sets}
use Rattle.number.specs.Put.{Put}
use Rattle.number.proofs.Stores.{sets_append}

pub record Filling (shown text₀ : List ℕ) (from : ℕ) (rest text : List ℕ) (at : ℕ) : Type 0 where
  pub long : length text ≡ length text₀
  pub ends : at + length rest ≡ from + length shown
  pub done : sets text at rest ≡ sets text₀ from shown

pub filling_start : (shown text₀ : List ℕ) (from : ℕ) → Filling shown text₀ from shown text₀ from
filling_start shown text₀ from = record { long = refl; ends = refl; done = refl }

module _ {shown text₀ : List ℕ} {from : ℕ} {rest text : List ℕ} {at : ℕ} (p : Filling shown text₀ from rest text at) where
  -- the next part has room
  pub filling_room : (part left : List ℕ) → rest ≡ part ++ left → from + length shown ≤ length text₀ → at + length part ≤ length text
  filling_room part left e h = omega (arith, p.ends, p.long, ap length e ∙ length-append part left)

  pub filling_next : (part left : List ℕ) → rest ≡ part ++ left → {next : ℕ} {text' : List ℕ} → Put part text at next text' → Filling shown text₀ from left text' next
  filling_next part left e {next} {text'} q =
      let s : sets text at (part ++ left) ≡ sets text₀ from shown = rw (← e) p.done in
      record {
        long = ap length q.put ∙ length-sets text at part ∙ p.long;
        ends = omega (arith, p.ends, q.next-is, ap length e ∙ length-append part left);
        done = rw (q.put, q.next-is) (sym (sets_append part left text at) ∙ s);
      }

  pub filling_last : {next : ℕ} {text' : List ℕ} → Put rest text at next text' → Put shown text₀ from next text'
  filling_last q = record { next-is = omega (arith, q.next-is, p.ends); within = omega (arith, q.within, p.long); put = q.put ∙ p.done }

pub filling_end : {shown text₀ : List ℕ} {from : ℕ} {text : List ℕ} {at : ℕ} → from + length shown ≤ length text₀ → Filling shown text₀ from [] text at → Put shown text₀ from at text
filling_end h p = record { next-is = omega (arith, p.ends); within = omega (arith, p.ends); put = p.done }
