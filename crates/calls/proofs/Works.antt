-- A tick is right: it gives what the meaning says, and leaves the cells as they are to be.
use Prim.Native.Nat.{ℕ, ◌≤◌}
use mathlib.Core.Path.{◌≡◌, refl, sym, ap, ap₂, ◌∙◌, subst}
use mathlib.Core.Bool.{Bool, true, false}
use mathlib.Core.Logic.{inl, inr}
use mathlib.Core.List.{List, [], ◌∷◌, ◌++◌, map}
use lib.ListN.{length, get_or, drop, take}
use lib.Seq.{length-take-le}
use Rattle.word.specs.Choice.{◌or◌}
use Rattle.word.specs.Tick.{Beam, Tick, tick, Stepped, stepped, head_or, tail_of, zeros}
use Rattle.word.proofs.Lists.{or_either_way}
use Rattle.cells.specs.Cells.{part, store}
use Rattle.cells.proofs.Parts.{Stored, stores}
use Rattle.arity.specs.Tree.{Tree, Composition, ins, outs, size}
use Rattle.arity.specs.Tree.Tree.{leaf, join, ondemand}
use Rattle.arity.specs.Tree.Primitive.{number, control, operation, delay, cable, cut}
use Rattle.arity.specs.Tree.Composition.{sequence, parallel, split, merge, recursion}
use Rattle.arity.specs.Nodes.{Apart, Distinct}
use Rattle.arity.specs.WellFormed.{WellFormed}
use Rattle.signal.specs.Signal.{History, wire, rewire, fill, sums, demanded, demands, signal, loop}
use Rattle.signal.specs.History.{loop_right, loop_left, left_history, right_history}
use Rattle.signal.specs.Wire.{Probe, wire_after}
use Rattle.signal.specs.Clips.{clips}
use Rattle.signal.specs.Contents.{contents}
use Rattle.signal.proofs.Causal.{causal, width, wire-next, map_next, beside_head, late-first, head_any, loop_right_next, loop_left_next, loop-left, loop_causal}
use Rattle.calls.specs.Step.{step}
use Rattle.calls.specs.Probes.{noted, shown}
use Rattle.calls.proofs.Holds.{Owned, Placed, Holds, frame}
use Rattle.calls.proofs.Ring.{delay-reads, delay_moves}
use Rattle.calls.proofs.Shows.{ShowsBy, left_alone, leaf_shows, join_shows, demand_shows}

-- what a tick of t is to leave: the outputs, the cells of t, the other cells, how many there are, what a probe shows, and whether a delay was clipped
pub record Right (base : ℕ → ℕ) (t : Tree) (h : History) (f : Tick) (cs : List ℕ) (s : Stepped) : Type 0 where
  pub outputs : s.outputs ≡ head_or [] (signal t (f ∷ h))
  pub holds : Holds base t (f ∷ h) s.cells
  pub same : (k : ℕ) → (Owned base t k → ⊥) → get_or s.cells k 0 ≡ get_or cs k 0
  pub long : length s.cells ≡ length cs
  pub shows : ShowsBy t h f (shown base t f cs)
  pub clipped : s.clipped ≡ clips t (f ∷ h)

abbrev pub Works : (ℕ → ℕ) → Tree → Type 0
Works base t = (h : History) (f : Tick) (cs : List ℕ) → Placed base (length cs) t → Holds base t h cs → Right base t h f cs (step base t f cs)

-- two trees whose cells are apart, one after the other
record Both (base : ℕ → ℕ) (l r : Tree) (hl hr : History) (fl fr : Tick) (cs : List ℕ) (a b : Stepped) : Type 0 where
  first : a.outputs ≡ head_or [] (signal l (fl ∷ hl))
  second : b.outputs ≡ head_or [] (signal r (fr ∷ hr))
  holds-first : Holds base l (fl ∷ hl) b.cells
  holds-second : Holds base r (fr ∷ hr) b.cells
  same : (k : ℕ) → (Owned base l k → ⊥) → (Owned base r k → ⊥) → get_or b.cells k 0 ≡ get_or cs k 0
  long : length b.cells ≡ length cs
  shows_first : ShowsBy l hl fl (shown base l fl cs)
  shows_second : ShowsBy r hr fr (shown base r fr a.cells)
  clips-first : a.clipped ≡ clips l (fl ∷ hl)
  clips-second : b.clipped ≡ clips r (fr ∷ hr)

both : (base : ℕ → ℕ) (l r : Tree) → Works base l → Works base r → Apart (Owned base l) (Owned base r)
    → (hl hr : History) (fl fr : Tick) (cs : List ℕ) → Placed base (length cs) l → Placed base (length cs) r → Holds base l hl cs → Holds base r hr cs
    → Both base l r hl hr fl fr cs (step base l fl cs) (step base r fr (step base l fl cs).cells)
both base l r wl wr ap' hl hr fl fr cs pl pr ul ur =
    let a : Right base l hl fl cs (step base l fl cs) = wl hl fl cs pl ul in
    let cs' : List ℕ = (step base l fl cs).cells in
    let b : Right base r hr fr cs' (step base r fr cs') =
    wr hr fr cs' (rw a.long pr) (frame base r hr cs cs' (λ k o. a.same k (λ o'. ap' k o' o)) ur) in
    record {
      first = a.outputs;
      second = b.outputs;
      holds-first = frame base l (fl ∷ hl) cs' (step base r fr cs').cells (λ k o. b.same k (λ o'. ap' k o o')) a.holds;
      holds-second = b.holds;
      same = λ k nl nr. b.same k nr ∙ a.same k nl;
      long = b.long ∙ a.long;
      shows_first = a.shows;
      shows_second = b.shows;
      clips-first = a.clipped;
      clips-second = b.clipped;
    }

-- a composition with no cells of its own
joined : (base : ℕ → ℕ) (i : ℕ) (c : Composition) (l r : Tree) (h : History) (f fl fr : Tick) (cs : List ℕ) (a b : Stepped)
    → Both base l r (left_history c l r h) (right_history c l r h) fl fr cs a b
    → fl ∷ left_history c l r h ≡ left_history c l r (f ∷ h)
    → fr ∷ right_history c l r h ≡ right_history c l r (f ∷ h)
    → part (base i) (size (join i c l r)) b.cells ≡ contents (join i c l r) (f ∷ h)
    → (y : Beam) → y ≡ head_or [] (signal (join i c l r) (f ∷ h))
    → ((p : Probe) (v : ℕ) → shown base (join i c l r) f cs p v ≡ noted i y p (shown base r fr a.cells p (shown base l fl cs p v)))
    → Right base (join i c l r) h f cs (stepped y b.cells (a.clipped or b.clipped))
unfolding Holds Owned Distinct clips
joined base i c l r h f fl fr cs a b w el er own y ey es =
    record {
      outputs = ey;
      holds = (own, rw el at w.holds-first, rw er at w.holds-second);
      same = λ k n. w.same k (λ o. n (inr (inl o))) (λ o. n (inr (inr o)));
      long = w.long;
      shows = λ p d m. es p _ ∙ join_shows i c l r h f y (λ p v. shown base r fr a.cells p (shown base l fl cs p v)) ey
          (λ p d m. ap (shown base r fr a.cells p) (w.shows_first p d.0 m ∙ ap (λ H. wire_after l H p) el) ∙ left_alone base r p (λ o. d.4 p.node m o) fr a.cells _)
          (λ p d m. ap (shown base r fr a.cells p) (left_alone base l p (λ o. d.4 p.node o m) fl cs _) ∙ w.shows_second p d.1 m ∙ ap (λ H. wire_after r H p) er)
          p d m;
      clipped = ap₂ ◌or◌ (w.clips-first ∙ ap (clips l) el) (w.clips-second ∙ ap (clips r) er);
    }

sequence_works : (base : ℕ → ℕ) (i : ℕ) (l r : Tree) → Works base l → Works base r → Works base (join i sequence l r)
unfolding step shown Holds Placed size contents left_history right_history
sequence_works base i l r wl wr h f cs p u =
    let fr : Tick = tick (step base l f cs).outputs f.controls in
    let b = both base l r wl wr p.5 h (wire h (signal l h)) f fr cs p.1 p.2 u.1 u.2 in
    let er : fr ∷ wire h (signal l h) ≡ wire (f ∷ h) (signal l (f ∷ h)) = rw b.first (sym (wire-next (signal l) (causal l) f h)) in
    joined base i sequence l r h f f fr cs (step base l f cs) (step base r fr (step base l f cs).cells) b refl er refl (step base r fr (step base l f cs).cells).outputs (b.second ∙ ap (λ H. head_or [] (signal r H)) er) (λ p v. refl)

parallel_works : (base : ℕ → ℕ) (i : ℕ) (l r : Tree) → Works base l → Works base r → Works base (join i parallel l r)
unfolding step shown Holds Placed size contents left_history right_history
parallel_works base i l r wl wr h f cs p u =
    let fl : Tick = tick (take (ins l) f.inputs) f.controls in
    let fr : Tick = tick (drop (ins l) f.inputs) f.controls in
    let b = both base l r wl wr p.5 (rewire (take (ins l)) h) (rewire (drop (ins l)) h) fl fr cs p.1 p.2 u.1 u.2 in
    joined base i parallel l r h f fl fr cs (step base l fl cs) (step base r fr (step base l fl cs).cells) b refl refl refl
    ((step base l fl cs).outputs ++ (step base r fr (step base l fl cs).cells).outputs)
    (rw (b.first, b.second) (sym (beside_head _ _ _ ((causal l).next fl (rewire (take (ins l)) h))))) (λ p v. refl)

-- the left outputs through g are the right inputs
through_works : (g : Beam → Beam) (base : ℕ → ℕ) (l r : Tree) (h : History) (f : Tick) (cs : List ℕ)
    → (step base l f cs).outputs ≡ head_or [] (signal l (f ∷ h))
    → tick (g (step base l f cs).outputs) f.controls ∷ wire h (map g (signal l h)) ≡ wire (f ∷ h) (map g (signal l (f ∷ h)))
through_works g base l r h f cs e = rw e (sym (map_next (signal l) (causal l) f h g))

split_works : (base : ℕ → ℕ) (i : ℕ) (l r : Tree) → Works base l → Works base r → Works base (join i split l r)
unfolding step shown Holds Placed size contents left_history right_history
split_works base i l r wl wr h f cs p u =
    let g : Beam → Beam = fill (ins r) (outs l) in
    let fr : Tick = tick (g (step base l f cs).outputs) f.controls in
    let b = both base l r wl wr p.5 h (wire h (map g (signal l h))) f fr cs p.1 p.2 u.1 u.2 in
    let er : fr ∷ wire h (map g (signal l h)) ≡ wire (f ∷ h) (map g (signal l (f ∷ h))) = through_works g base l r h f cs b.first in
    joined base i split l r h f f fr cs (step base l f cs) (step base r fr (step base l f cs).cells) b refl er refl (step base r fr (step base l f cs).cells).outputs (b.second ∙ ap (λ H. head_or [] (signal r H)) er) (λ p v. refl)

merge_works : (base : ℕ → ℕ) (i : ℕ) (l r : Tree) → Works base l → Works base r → Works base (join i merge l r)
unfolding step shown Holds Placed size contents left_history right_history
merge_works base i l r wl wr h f cs p u =
    let g : Beam → Beam = sums (outs l) (ins r) in
    let fr : Tick = tick (g (step base l f cs).outputs) f.controls in
    let b = both base l r wl wr p.5 h (wire h (map g (signal l h))) f fr cs p.1 p.2 u.1 u.2 in
    let er : fr ∷ wire h (map g (signal l h)) ≡ wire (f ∷ h) (map g (signal l (f ∷ h))) = through_works g base l r h f cs b.first in
    joined base i merge l r h f f fr cs (step base l f cs) (step base r fr (step base l f cs).cells) b refl er refl (step base r fr (step base l f cs).cells).outputs (b.second ∙ ap (λ H. head_or [] (signal r H)) er) (λ p v. refl)

called : (base : ℕ → ℕ) (i : ℕ) (b : Tree) → Works base b
    → (h : History) (f : Tick) (cs : List ℕ) → Placed base (length cs) (ondemand i b) → Holds base (ondemand i b) h cs
    → (a : Stepped) → step base b (tick (tail_of f.inputs) f.controls) cs ≡ a → demanded f ≡ true
    → Right base (ondemand i b) h f cs (stepped (part (base i) (outs b) (store (base i) a.outputs a.cells)) (store (base i) a.outputs a.cells) a.clipped)
unfolding step shown Holds Placed Owned size contents clips
called base i b wb h f cs p u a ea e =
    let g : Tick = tick (tail_of f.inputs) f.controls in
    let ra : Right base b (demands h) g cs a = rw ea at (wb (demands h) g cs p.1 u.1) in
    let eh : g ∷ demands h ≡ demands (f ∷ h) = rw e in
    let ey : a.outputs ≡ head_or (zeros (outs b)) (signal b (demands (f ∷ h))) =
    ra.outputs ∙ head_any [] (zeros (outs b)) _ _ ((causal b).next g (demands h)) ∙ ap (λ H. head_or (zeros (outs b)) (signal b H)) eh in
    let s : Stored (base i) (outs b) a.outputs a.cells (store (base i) a.outputs a.cells) =
    stores (base i) (outs b) a.outputs a.cells (rw ra.outputs (width b g (demands h))) (rw ra.long p.0) in
    let y : Beam = part (base i) (outs b) (store (base i) a.outputs a.cells) in
    let es : (q : Probe) (v : ℕ) → shown base (ondemand i b) f cs q v ≡ noted i y q (shown base b g cs q v) = λ q v. rw (e, ea) in
    record {
      outputs = s.own ∙ ey;
      holds = (s.own ∙ ey, frame base b _ a.cells _ (λ k o. s.other k (λ o'. p.2 k o' o)) (subst (λ H. Holds base b H a.cells) eh ra.holds));
      same = λ k n. s.other k (λ o. n (inl o)) ∙ ra.same k (λ o. n (inr o));
      long = s.long ∙ ra.long;
      shows = λ q d m. es q _ ∙ demand_shows i b h f y (shown base b g cs) (s.own ∙ ey) (λ q d m. ra.shows q d m ∙ ap (λ H. wire_after b H q) eh) q d m;
      clipped = ra.clipped ∙ ap (clips b) eh ∙ rw e;
    }

held : (base : ℕ → ℕ) (i : ℕ) (b : Tree) (h : History) (f : Tick) (cs : List ℕ) → Holds base (ondemand i b) h cs → demanded f ≡ false
    → Right base (ondemand i b) h f cs (stepped (part (base i) (outs b) cs) cs false)
unfolding step shown Holds size contents clips
held base i b h f cs u e =
    let eh : demands h ≡ demands (f ∷ h) = rw e in
    let ey : part (base i) (outs b) cs ≡ head_or (zeros (outs b)) (signal b (demands (f ∷ h))) =
    u.0 ∙ ap (λ H. head_or (zeros (outs b)) (signal b H)) eh in
    let y : Beam = part (base i) (outs b) cs in
    let es : (q : Probe) (v : ℕ) → shown base (ondemand i b) f cs q v ≡ noted i y q v = λ q v. rw e in
    record {
      outputs = ey;
      holds = (ey, subst (λ H. Holds base b H cs) eh u.1);
      same = λ k n. refl;
      long = refl;
      shows = λ q d m. es q _ ∙ demand_shows i b h f y (λ q v. v) ey (λ q d m. ap (λ H. wire_after b H q) eh) q d m;
      clipped = rw e;
    }

demand_works : (base : ℕ → ℕ) (i : ℕ) (b : Tree) → Works base b
    → (h : History) (f : Tick) (cs : List ℕ) → Placed base (length cs) (ondemand i b) → Holds base (ondemand i b) h cs
    → (d : Bool) → demanded f ≡ d → Right base (ondemand i b) h f cs (step base (ondemand i b) f cs)
unfolding step
demand_works base i b wb h f cs p u true e = rw e (called base i b wb h f cs p u _ refl e)
demand_works base i b wb h f cs p u false e = rw e (held base i b h f cs u e)

recursion_works : (base : ℕ → ℕ) (i : ℕ) (l r : Tree) → ins r ≤ outs l → Works base l → Works base r → Works base (join i recursion l r)
unfolding step shown Holds Placed Owned size contents left_history right_history Distinct clips
recursion_works base i l r q wl wr h f cs p u =
    let xs : Beam = part (base i) (ins r) cs in
    let fr : Tick = tick xs f.controls in
    let a : Stepped = step base r fr cs in
    let fl : Tick = tick (a.outputs ++ f.inputs) f.controls in
    let b : Stepped = step base l fl a.cells in
    let hr : History = loop_right (signal l) (signal r) (ins r) h in
    let hl : History = loop_left (signal l) (signal r) (ins r) h in
    let w : Both base r l hr hl fr fl cs a b = both base r l wr wl (λ k o o'. p.5 k o' o) hr hl fr fl cs p.2 p.1 u.2 u.1 in
    let er : fr ∷ hr ≡ loop_right (signal l) (signal r) (ins r) (f ∷ h) = rw (u.0, ← late-first (ins r) (loop (signal l) (signal r) (ins r) h)) (sym (loop_right_next (signal l) (signal r) (ins r) (causal l) (causal r) f h)) in
    let el : fl ∷ hl ≡ loop_left (signal l) (signal r) (ins r) (f ∷ h) =
    rw (w.first, er) (sym (loop_left_next (signal l) (signal r) (ins r) (causal l) (causal r) f h)) in
    let ey : b.outputs ≡ head_or [] (loop (signal l) (signal r) (ins r) (f ∷ h)) =
    w.second ∙ ap (λ H. head_or [] (signal l H)) el ∙ ap (head_or []) (sym (loop-left (signal l) (signal r) (ins r) (causal l) (causal r) (f ∷ h))) in
    let s : Stored (base i) (ins r) (take (ins r) b.outputs) b.cells (store (base i) (take (ins r) b.outputs) b.cells) =
    stores (base i) (ins r) _ b.cells (length-take-le (ins r) b.outputs (rw (w.second, width l fl hl) q)) (rw w.long p.0) in
    record {
      outputs = ey;
      holds = (
        s.own ∙ ap (take (ins r)) (ey ∙ head_any [] (zeros (ins r)) _ _ ((loop_causal (signal l) (signal r) (ins r) (causal l) (causal r)).next f h)),
        frame base l _ b.cells _ (λ k o. s.other k (λ o'. p.3 k o' o)) (rw el at w.holds-second),
        frame base r _ b.cells _ (λ k o. s.other k (λ o'. p.4 k o' o)) (rw er at w.holds-first),
      );
      same = λ k n. s.other k (λ o. n (inl o)) ∙ w.same k (λ o. n (inr (inr o))) (λ o. n (inr (inl o)));
      long = s.long ∙ w.long;
      shows = join_shows i recursion l r h f b.outputs (λ p v. shown base l fl a.cells p (shown base r fr cs p v)) ey
          (λ p d m. ap (shown base l fl a.cells p) (left_alone base r p (λ o. d.4 p.node m o) fr cs _) ∙ w.shows_second p d.0 m ∙ ap (λ H. wire_after l H p) el)
          (λ p d m. ap (shown base l fl a.cells p) (w.shows_first p d.1 m ∙ ap (λ H. wire_after r H p) er) ∙ left_alone base l p (λ o. d.4 p.node o m) fl a.cells _);
      clipped = ap₂ ◌or◌ (w.clips-first ∙ ap (clips r) er) (w.clips-second ∙ ap (clips l) el) ∙ or_either_way (clips r _) (clips l _);
    }

pub works : (base : ℕ → ℕ) (t : Tree) → WellFormed t → Works base t
unfolding step shown WellFormed Holds Placed size contents Owned clips
works base (leaf i (number v)) w h f cs p u = record { outputs = refl; holds = refl; same = λ k n. refl; long = refl; shows = leaf_shows i (number v) h f _ refl; clipped = refl }
works base (leaf i (control s)) w h f cs p u = record { outputs = refl; holds = refl; same = λ k n. refl; long = refl; shows = leaf_shows i (control s) h f _ refl; clipped = refl }
works base (leaf i (operation o)) w h f cs p u = record { outputs = refl; holds = refl; same = λ k n. refl; long = refl; shows = leaf_shows i (operation o) h f _ refl; clipped = refl }
works base (leaf i (delay d)) w h f cs p u =
    let s = delay_moves (base i) d h f cs p u in
    let e = ap {B = Beam} (λ y. y ∷ []) (delay-reads (base i) d h f (get_or f.inputs 1 0) cs u) in
    record { outputs = e; holds = s.own; same = s.other; long = s.long; shows = leaf_shows i (delay d) h f _ e; clipped = refl }
works base (leaf i cable) w h f cs p u = record { outputs = refl; holds = refl; same = λ k n. refl; long = refl; shows = leaf_shows i cable h f _ refl; clipped = refl }
works base (leaf i cut) w h f cs p u = record { outputs = refl; holds = refl; same = λ k n. refl; long = refl; shows = leaf_shows i cut h f _ refl; clipped = refl }
works base (join i sequence l r) w h f cs p u = sequence_works base i l r (works base l w.0) (works base r w.1) h f cs p u
works base (join i parallel l r) w h f cs p u = parallel_works base i l r (works base l w.0) (works base r w.1) h f cs p u
works base (join i split l r) w h f cs p u = split_works base i l r (works base l w.0) (works base r w.1) h f cs p u
works base (join i merge l r) w h f cs p u = merge_works base i l r (works base l w.0) (works base r w.1) h f cs p u
works base (join i recursion l r) w h f cs p u = recursion_works base i l r w.2.0 (works base l w.0) (works base r w.1) h f cs p u
works base (ondemand i b) w h f cs p u = demand_works base i b (works base b w) h f cs p u (demanded f) refl
