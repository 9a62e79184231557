-- Ticks one after another, with probes: what they record, and the latest values, are the meaning's.
use Prim.Native.Nat.{ℕ, ◌*◌, ◌<◌}
use mathlib.Core.Path.{◌≡◌, refl, sym, ap, ap₂, ◌∙◌}
use mathlib.Core.List.{List, [], ◌∷◌, ◌++◌, map, reverse_aux, append_assoc, append-nil}
use native.Mathlib.Nat.{zero-mul}
use native.Mathlib.Omega.{arith}
use lib.ListN.{length, length-append, length-map}
use Rattle.word.specs.Tick.{Tick, Each}
use Rattle.arity.specs.Tree.{Tree}
use Rattle.arity.specs.Nodes.{Complete, cells_before}
use Rattle.arity.specs.WellFormed.{WellFormed}
use Rattle.signal.specs.Signal.{History}
use Rattle.signal.specs.Wire.{Probe, wire_after, watched}
use Rattle.signal.proofs.Wire.{watched_causal}
use Rattle.calls.specs.Probes.{shown, zip_with, Noted, recorded}
use Rattle.calls.proofs.Works.{works}
use Rattle.calls.proofs.Placing.{all_placed}
use Rattle.calls.proofs.Run.{after, run_right}
use Rattle.calls.proofs.NewSamples.{all_of, all-next}
use Rattle.calls.proofs.Plays.{cells_at}

module _ (t : Tree) (ps : List Probe) where
  -- all that the probes show in a history, the first tick first
  abbrev pub shown_in : History → List ℕ
  shown_in h = all_of (watched t ps) (watched_causal t ps) h

  shown-next : (f : Tick) (h : History) → shown_in (f ∷ h) ≡ shown_in h ++ map (wire_after t (f ∷ h)) ps
  unfolding watched
  shown-next f h = all-next (watched t ps) (watched_causal t ps) f h

module _ (n : ℕ) (t : Tree) (w : WellFormed t) (c : Complete n t) where
  -- one tick
  shows_on : (f : Tick) (h : History) (ps : List Probe) → Each (λ p. p.node < n) ps
      → zip_with (shown (cells_before t) t f (cells_at n t w c h)) ps (map (wire_after t h) ps) ≡ map (wire_after t (f ∷ h)) ps
  shows_on f h [] q = refl
  shows_on f h (p ∷ ps) q =
      let r = run_right (cells_before t) t (cells_before t n) w (all_placed n t c) h in
      let s = works (cells_before t) t w h f (cells_at n t w c h) (rw r.long (all_placed n t c)) r.holds in
      ap₂ {C = List ℕ} (λ v vs. v ∷ vs) (s.shows p c.distinct (c.every p.node q.0)) (shows_on f h ps q.1)

  module _ (ps : List Probe) (named : Each (λ p. p.node < n) ps) where
    pub record Records (fs : List Tick) (h : History) (r : Noted) : Type 0 where
      pub recording : shown_in t ps h ++ r.recording ≡ shown_in t ps (reverse_aux fs h)
      pub long : length r.recording ≡ length fs * length ps
      pub latest : r.latest ≡ map (wire_after t (reverse_aux fs h)) ps

    pub records : (fs : List Tick) (h : History) → Records fs h (recorded (cells_before t) t ps fs (cells_at n t w c h) (map (wire_after t h) ps))
    unfolding recorded after
    records [] h = record { recording = append-nil (shown_in t ps h); long = sym (zero-mul (length ps)); latest = refl }
    records (f ∷ fs) h =
        let r = records fs (f ∷ h) in
        let us : List ℕ = map (wire_after t (f ∷ h)) ps in
        let x = recorded (cells_before t) t ps fs (cells_at n t w c (f ∷ h)) us in
        rw (shows_on f h ps named)
        (record {
          recording = sym (append_assoc (shown_in t ps h) us x.recording) ∙ ap (λ l. l ++ x.recording) (sym (shown-next t ps f h)) ∙ r.recording;
          long = length-append us x.recording ∙ omega (arith, length-map ps (wire_after t (f ∷ h)), r.long);
          latest = r.latest;
        })
