-- Bytes that go to the front of their buffer, the first first: those that are yet to go are still as they were.
use Rattle.std.proofs.Common.{◌≡◌, ℕ, suc, ◌+◌, ◌-◌, ◌<◌, ◌≤◌, List, [], ◌∷◌, ◌++◌, length, get_or, take, drop, set, sym, refl, ◌∙◌, arith, length-drop, take-append-drop, length-take-le, drop-cons, get_or-set_other}
use Rattle.number.specs.Put.{Put, Begins}
use Rattle.number.proofs.Stores.{begins_of, begins_within}
use Rattle.number.proofs.Filling.{Filling, filling_start, filling_next, filling_end}
use Rattle.console.specs.Held.{Moved}

pub record Moving (buffer₀ : List ℕ) (at count : ℕ) (buffer : List ℕ) (i : ℕ) : Type 0 where
  pub few : i ≤ count
  pub fill : Filling (take count (drop at buffer₀)) buffer₀ 0 (take (count - i) (drop (at + i) buffer₀)) buffer i
  pub ahead : (k : ℕ) → i ≤ k → get_or buffer k 0 ≡ get_or buffer₀ k 0

pub moving_starts : (buffer : List ℕ) (at count : ℕ) → Moving buffer at count buffer 0
moving_starts buffer at count =
    let z : count - 0 ≡ count = omega arith in
    let y : at + 0 ≡ at = omega arith in
    record { few = omega arith; fill = rw (z, y) (filling_start (take count (drop at buffer)) buffer 0); ahead = λ k h. refl }

module _ {buffer₀ : List ℕ} {at count : ℕ} (inside : at + count ≤ length buffer₀) {buffer : List ℕ} {i : ℕ} (p : Moving buffer₀ at count buffer i) where
  next_byte : i < count → take (count - i) (drop (at + i) buffer₀) ≡ (get_or buffer₀ (at + i) 0 ∷ []) ++ take (count - (i + 1)) (drop (at + (i + 1)) buffer₀)
  next_byte h =
      let e : count - i ≡ suc (count - (i + 1)) = omega arith in
      let f : at + (i + 1) ≡ suc (at + i) = omega arith in
      rw (e, f, drop-cons buffer₀ (at + i) 0 (omega arith))

  -- byte j goes to k: the next in turn
  pub moving_next : {j k : ℕ} → i < count → k ≡ i → j ≡ at + i → Moving buffer₀ at count (set buffer k (get_or buffer j 0)) (i + 1)
  moving_next {j} {k} h d e =
      let x : ℕ = get_or buffer₀ (at + i) 0 in
      let q : Put (x ∷ []) buffer i (i + 1) (set buffer i x) = record { next-is = refl; within = omega (arith, p.fill.long); put = refl } in
      let f : Filling (take count (drop at buffer₀)) buffer₀ 0 (take (count - (i + 1)) (drop (at + (i + 1)) buffer₀)) (set buffer i x) (i + 1) =
      filling_next p.fill (x ∷ []) (take (count - (i + 1)) (drop (at + (i + 1)) buffer₀)) (next_byte h) q in
      rw (d, e, p.ahead (at + i) (omega arith))
      (record {
        few = omega arith;
        fill = f;
        ahead = λ l g. get_or-set_other buffer i l x 0 (λ (e : l ≡ i). omega arith) ∙ p.ahead l (omega arith);
      })

  pub moved : (end : ℕ) → end - at ≡ count → count ≤ i → Moved buffer₀ at end count buffer
  moved end s h =
      let e : i ≡ count = omega (arith, p.few) in
      let z : count - count ≡ 0 = omega arith in
      let l : length (take count (drop at buffer₀)) ≡ count = length-take-le count (drop at buffer₀) (rw (length-drop at buffer₀) (omega arith)) in
      let f : Filling (take count (drop at buffer₀)) buffer₀ 0 (take (count - count) (drop (at + count) buffer₀)) buffer count = rw e at p.fill in
      let g : Filling (take count (drop at buffer₀)) buffer₀ 0 [] buffer count = rw z at f in
      let b : Begins (take count (drop at buffer₀)) buffer₀ count buffer = begins_of (take count (drop at buffer₀)) buffer₀ count buffer (filling_end (omega arith) g) in
      record { within = begins_within b; front = rw s b }

-- nothing is moved that stands at the front
pub stays : (buffer : List ℕ) (at end : ℕ) → at ≡ 0 → end ≤ length buffer → Moved buffer at end end buffer
stays buffer at end e h =
    let z : end - 0 ≡ end = omega arith in
    rw e (record { within = h; front = rw z (record { bytes = sym (length-take-le end buffer h); put = sym (take-append-drop end buffer) }) })
