-- The samples of a history that goes on from a past: those of the past, and then the new ones.
use Prim.Native.Nat.{ℕ}
use mathlib.Core.Path.{◌≡◌, refl, sym, ap, ◌∙◌}
use mathlib.Core.List.{List, [], ◌∷◌, ◌++◌, reverse, reverse_aux, reverse-cons, flatten, append_assoc, append-nil}
use native.Mathlib.Omega.{arith}
use lib.ListN.{length, drop, length-append}
use lib.Seq.{drop_at}
use Rattle.word.specs.Tick.{Beam, Tick, head_or}
use Rattle.word.proofs.Lists.{flatten_append, flatten-last}
use Rattle.arity.specs.Tree.{Tree}
use Rattle.signal.specs.Signal.{History, Processor, signal, samples}
use Rattle.signal.specs.Laws.{Causal}
use Rattle.signal.proofs.Causal.{causal}
use Rattle.calls.specs.Law.{samples_after}

append_cancel : {A : Type 0} (xs ys zs : List A) → xs ++ ys ≡ xs ++ zs → ys ≡ zs
append_cancel xs ys zs e = sym (drop_at xs ys (length xs) refl) ∙ ap (drop (length xs)) e ∙ drop_at xs zs (length xs) refl

-- of whatever gives a beam at each tick
module _ (g : Processor) (c : Causal g) where
  -- the beams of each tick, the first tick first, and all their samples
  abbrev in_order : History → List Beam
  in_order h = reverse (g h)

  abbrev pub all_of : History → List ℕ
  all_of h = flatten (in_order h)

  in_order_next : (f : Tick) (h : History) → in_order (f ∷ h) ≡ in_order h ++ head_or [] (g (f ∷ h)) ∷ []
  in_order_next f h = ap reverse (c.next f h) ∙ reverse-cons (head_or [] (g (f ∷ h))) (g h)

  -- a tick more adds the beam at it
  pub all-next : (f : Tick) (h : History) → all_of (f ∷ h) ≡ all_of h ++ head_or [] (g (f ∷ h))
  all-next f h = ap flatten (in_order_next f h) ∙ flatten-last (in_order h) (head_or [] (g (f ∷ h)))

  in_order_long : (h : History) → length (in_order h) ≡ length h
  in_order_long [] = ap (λ (ys : List Beam). length (reverse ys)) c.empty
  in_order_long (f ∷ h) = ap length (in_order_next f h) ∙ length-append (in_order h) (head_or [] (g (f ∷ h)) ∷ []) ∙ omega (arith, in_order_long h)

  module _ (past : History) where
    -- h goes on from the past
    record GoesOn (h : History) : Type 0 where
      new : List Beam
      is : in_order h ≡ in_order past ++ new

    goes_on : (fs : List Tick) (h : History) → GoesOn h → GoesOn (reverse_aux fs h)
    goes_on [] h p = p
    goes_on (f ∷ fs) h p =
        let y : List Beam = head_or [] (g (f ∷ h)) ∷ [] in
        goes_on fs (f ∷ h) (record { new = p.new ++ y; is = in_order_next f h ∙ ap (λ ys. ys ++ y) p.is ∙ append_assoc (in_order past) p.new y })

    pub since : (fs : List Tick) (ys : List ℕ) → all_of past ++ ys ≡ all_of (reverse_aux fs past) → ys ≡ flatten (drop (length past) (in_order (reverse_aux fs past)))
    since fs ys e =
        let p : GoesOn (reverse_aux fs past) = goes_on fs past (record { new = []; is = sym (append-nil (in_order past)) }) in
        append_cancel (flatten (in_order past)) ys (flatten p.new) (e ∙ ap flatten p.is ∙ flatten_append (in_order past) p.new)
        ∙ ap flatten (sym (ap (drop (length past)) p.is ∙ drop_at (in_order past) p.new (length past) (in_order_long past)))

pub samples-next : (t : Tree) (f : Tick) (h : History) → samples t (f ∷ h) ≡ samples t h ++ head_or [] (signal t (f ∷ h))
unfolding samples
samples-next t f h = all-next (signal t) (causal t) f h

pub samples_since : (t : Tree) (past : History) (fs : List Tick) (ys : List ℕ)
    → samples t past ++ ys ≡ samples t (reverse_aux fs past) → ys ≡ samples_after (length past) t (reverse_aux fs past)
unfolding samples samples_after
samples_since t past fs ys e = since (signal t) (causal t) past fs ys e
