-- Copying a table node by node, its child numbers moved on.
use Prim.Native.Nat.{ℕ, suc, ◌+◌, ◌-◌, ◌*◌, ◌/◌, ◌^◌, ◌≤◌, ◌<◌}
use mathlib.Core.Path.{◌≡◌, refl, sym, ap, ap₂, ◌∙◌}
use mathlib.Core.Bool.{Bool, true, false, not, false≢true}
use mathlib.Core.List.{List, [], ◌∷◌, ◌++◌}
use native.Mathlib.Omega.{arith}
use native.Mathlib.Decide.{dec_le}
use native.Mathlib.Nat.{add-zero}
use borrow.Author.Tests.{leb-true, le-leb, lt-leb}
use lib.Dec.{leb}
use lib.ListN.{length, get_or, drop, set, drop_of_length-le}
use lib.Seq.{sets, length-sets, drop-cons}
use Rattle.std.specs.Prelude.{Option, Some, None, MatchOption}
use Rattle.std.specs.Option.{IsSome}
use Rattle.word.specs.Choice.{pick}
use Rattle.arity.specs.Table.{kind_at, first_at, second_at}
use Rattle.arity.specs.Check.{known_kind, two_children, IsAccepted}
use Rattle.arity.specs.Kinds.{number_of}
use Rattle.arity.specs.declared.kinds.Kind.{Kind}
use Rattle.drawing.specs.Numbering.{moved, closed, joined}
use Rattle.drawing.specs.Laws.{Joinable}
use Rattle.drawing.proofs.Closed.{moved_length, moved_none}
use Rattle.drawing.proofs.Accepted.{formed}
use Rattle.drawing.proofs.Joined.{two-kinds}
use Rattle.joining.specs.Copy.{Space}

sets_append : (xs ys c : List ℕ) (a : ℕ) → sets (sets c a xs) (a + length xs) ys ≡ sets c a (xs ++ ys)
sets_append [] ys c a = rw add-zero
sets_append (x ∷ xs) ys c a = let e : a + suc (length xs) ≡ suc a + length xs = omega arith in rw e (sets_append xs ys (set c a x) (suc a))

pub not_low : (k : ℕ) → not (leb k 6) ≡ leb 7 k
not_low k = go (dec_le k 6)
  where
    go : Dec (k ≤ 6) → not (leb k 6) ≡ leb 7 k
    go (yes h) = rw (le-leb k 6 h, lt-leb 7 k (omega arith))
    go (no h) = rw (lt-leb k 6 (omega arith), le-leb 7 k (omega arith))

-- i nodes are written: what is left is to be written from node at + i on
pub record Going (t : List ℕ) (at n : ℕ) (out : List ℕ) (i : ℕ) (now : List ℕ) : Type 0 where
  pub same : length now ≡ length out
  pub rest : sets now (3 * (at + i)) (moved n (drop (3 * i) t)) ≡ sets out (3 * at) (moved n t)

module _ {t : List ℕ} {at n : ℕ} {out : List ℕ} (a : IsAccepted t) (s : Space t at n out) where
  pub going_ends : {i : ℕ} {now : List ℕ} → Going t at n out i now → length t / 3 ≤ i → now ≡ sets out (3 * at) (moved n t)
  unfolding moved
  going_ends {i} {now} g h =
      let k : length t ≤ 3 * i = omega (arith, (formed t a).whole) in
      rw (drop_of_length-le t k) at g.rest

  module _ {i : ℕ} {now : List ℕ} (g : Going t at n out i now) (h : i < length t / 3) where
    pub room : (at + i < 512) × (3 * (at + i) + 3 ≤ length now)
    room = (omega (arith, s.few), omega (arith, g.same, s.long))

    pub named : {k : ℕ} (o : Option Kind) → k ≡ kind_at t i → MatchOption o (known_kind k ≡ false) (λ kind. number_of kind ≡ k) → IsSome o
    named (Some kind) e q = refl
    named None e q =
        let (l, m) = (formed t a).kinds i h in
        absurd (false≢true (sym q ∙ rw (e, le-leb 1 (kind_at t i) l, le-leb (kind_at t i) 12 m)))

    module _ {k : ℕ} (e : k ≡ kind_at t i) where
      pub first_fits : {child : Bool} → child ≡ leb 7 k → child ≡ true → n + first_at t i < 2 ^ 32
      first_fits q u =
          let l : leb 7 (kind_at t i) ≡ true = ap (leb 7) (sym e) ∙ sym q ∙ u in
          omega (arith, (((formed t a).children i h).first (leb-true 7 (kind_at t i) l)).lower, (formed t a).most, s.near)

      pub second_fits : {both : Bool} → both ≡ two_children k → both ≡ true → n + second_at t i < 2 ^ 32
      second_fits q u =
          let (l, m) = two-kinds (kind_at t i) (ap two_children (sym e) ∙ sym q ∙ u) in
          omega (arith, (((formed t a).children i h).second l m).lower, (formed t a).most, s.near)

    row : drop (3 * i) t ≡ kind_at t i ∷ first_at t i ∷ second_at t i ∷ drop (3 * (i + 1)) t
    row =
        let w = (formed t a).whole in
        let d : suc (3 * i) ≡ 3 * i + 1 = omega arith in
        let e : suc (3 * i + 1) ≡ 3 * i + 2 = omega arith in
        let f : suc (3 * i + 2) ≡ 3 * (i + 1) = omega arith in
        let z : 3 * i + 0 ≡ 3 * i = omega arith in
        drop-cons t (3 * i) 0 (omega arith)
        ∙ ap₂ {C = List ℕ} ◌∷◌ (ap (λ (k : ℕ). get_or t k 0) (sym z))
        (ap (λ (k : ℕ). drop k t) d ∙ drop-cons t (3 * i + 1) 0 (omega arith)
        ∙ ap {B = List ℕ} (λ l. first_at t i ∷ l)
        (ap (λ (k : ℕ). drop k t) e ∙ drop-cons t (3 * i + 2) 0 (omega arith) ∙ ap {B = List ℕ} (λ l. second_at t i ∷ l) (ap (λ (k : ℕ). drop k t) f)))

    pub going_on : {k j f s x y : ℕ} {child both : Bool} {next : List ℕ} → k ≡ kind_at t i → j ≡ kind_at t i → f ≡ first_at t i → s ≡ second_at t i
        → child ≡ leb 7 j → both ≡ two_children j → x ≡ pick child (n + f) f → y ≡ pick both (n + s) s → next ≡ sets now (3 * (at + i)) (k ∷ x ∷ y ∷ [])
        → Going t at n out (i + 1) next
    going_on {k} {j} {f} {s} {x} {y} {child} {both} {next} c b u v z w d e p =
        record {
          same = ap length p ∙ length-sets now (3 * (at + i)) (k ∷ x ∷ y ∷ []) ∙ g.same;
          rest =
              let q : 3 * (at + (i + 1)) ≡ 3 * (at + i) + 3 = omega arith in
              ap₂ (λ (z : ℕ) (l : List ℕ). sets l z (moved n (drop (3 * (i + 1)) t))) q p
              ∙ sets_append (k ∷ x ∷ y ∷ []) (moved n (drop (3 * (i + 1)) t)) now (3 * (at + i))
              ∙ ap (λ (l : List ℕ). sets now (3 * (at + i)) l) (sym shown)
              ∙ g.rest;
        }
      where
        shown : moved n (drop (3 * i) t) ≡ (k ∷ x ∷ y ∷ []) ++ moved n (drop (3 * (i + 1)) t)
        shown = ap (moved n) row ∙ (unfold moved in rw (d, e, z, w, b, u, v, c))

-- the joined table from its three parts
module _ (t u out : List ℕ) (j : Joinable t u) (long : length t + length u + 3 ≤ length out) where
  module _ {out₁ : List ℕ} (p : out₁ ≡ sets out 0 (moved 0 t)) where
    same_first : length out₁ ≡ length out
    same_first = ap length p ∙ length-sets out 0 (moved 0 t)

    module _ {out₂ : List ℕ} (q : out₂ ≡ sets out₁ (3 * (length t / 3)) (moved (length t / 3) u)) where
      same_second : length out₂ ≡ length out
      same_second = ap length q ∙ length-sets out₁ (3 * (length t / 3)) (moved (length t / 3) u) ∙ same_first

      pub last-room : (length t / 3 + length u / 3 < 512) × (3 * (length t / 3 + length u / 3) + 3 ≤ length out₂)
      last-room = (j.few, omega (arith, same_second))

      pub all-written : (k : ℕ) {out₃ : List ℕ}
          → out₃ ≡ sets out₂ (3 * (length t / 3 + length u / 3)) (k ∷ (length t / 3 - 1) ∷ (length t / 3 + length u / 3 - 1) ∷ []) → out₃ ≡ sets out 0 (joined k t u)
      unfolding closed
      all-written k {out₃} w =
          let n = length t / 3 in
          let l = length t / 3 + length u / 3 in
          let a : 3 * n ≡ 0 + length t = omega (arith, (formed t j.first).whole) in
          let b : 3 * l ≡ 3 * n + length (moved n u) = omega (arith, moved_length n u, (formed u j.second).whole) in
          w
          ∙ ap₂ (λ (z : ℕ) (o : List ℕ). sets o z (k ∷ (n - 1) ∷ (l - 1) ∷ [])) b q
          ∙ sets_append (moved n u) (k ∷ (n - 1) ∷ (l - 1) ∷ []) out₁ (3 * n)
          ∙ ap₂ (λ (z : ℕ) (o : List ℕ). sets o z (moved n u ++ (k ∷ (n - 1) ∷ (l - 1) ∷ []))) a (p ∙ ap (λ (o : List ℕ). sets out 0 o) (moved_none t))
          ∙ sets_append t (moved n u ++ (k ∷ (n - 1) ∷ (l - 1) ∷ [])) out 0
