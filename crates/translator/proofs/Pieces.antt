-- What pieces of flat code do, and how two pieces join.
use Prim.Native.Nat.{ℕ, zero, suc, ◌+◌}
use mathlib.Core.Path.{◌≡◌, refl, ap, ap₂, ◌∙◌}
use mathlib.Core.Bool.{Bool, true, false}
use mathlib.Core.List.{List, [], ◌∷◌, ◌++◌, append-nil}
use native.Mathlib.Omega.{arith}
use lib.ListN.{length, get_or, set, length-append}
use Rattle.word.specs.Choice.{◌and◌, ◌or◌, pick}
use Rattle.word.specs.Operation.{demand}
use Rattle.word.specs.Tick.{zeros}
use Rattle.word.proofs.Lists.{or_none}
use Rattle.cells.specs.Cells.{part, store}
use Rattle.flat.specs.Flat.{worked, worked_clips, Instruction, Machine, machine, effect, acted, execute, execute1, execute_clips}
use Rattle.flat.specs.Instructions as flat
use Rattle.flat.proofs.Effects.{read_works, write_works, skip_works, execute-none, execute-first, execute_append, execute_all_skipped, clips-none, clips-first, clips_append, clips_all_skipped}
use Rattle.translator.specs.Emit.{reads, writes, up_from}
use Rattle.translator.proofs.Registers.{Holds, Reads, Kept, kept-length, kept-reads, kept-one, kept_trans, kept-count, kept-holds, both_append, reads-last}
use Rattle.translator.proofs.Registers.Both.{none, more}

module _ (controls : List ℕ) where
  -- each instruction appends one register
  pub execute_keeps : (is : List Instruction) (m : Machine) → Kept m.registers (execute controls is m).registers (length is)
  unfolding execute
  execute_keeps [] m = record { fresh = []; whole = rw append-nil; count = refl }
  execute_keeps (i ∷ is) m =
      kept-count (omega arith) (kept_trans (kept-one m.registers (acted controls i m.registers m.skip m.cells).value) (execute_keeps is (execute1 controls i m)))

  -- the code `is`, run from registers ρ and cells cs with no skip to go, leaves ys in the registers rs, and the cells cs'; b says whether it clips a delay
  pub record Does (is : List Instruction) (rs ρ cs ys cs' : List ℕ) (b : Bool) : Type 0 where
    pub after : List ℕ
    pub run : execute controls is (machine ρ 0 cs) ≡ machine after 0 cs'
    pub gives : Reads after rs ys
    pub clips : execute_clips controls is (machine ρ 0 cs) ≡ b

  pub does_as : {is : List Instruction} {rs ρ cs ys cs' : List ℕ} {b c : Bool} → b ≡ c → Does is rs ρ cs ys cs' b → Does is rs ρ cs ys cs' c
  does_as e d = record { after = d.after; run = d.run; gives = d.gives; clips = d.clips ∙ e }

  pub does-kept : {is : List Instruction} {rs ρ cs ys cs' : List ℕ} {b : Bool} (d : Does is rs ρ cs ys cs' b) → Kept ρ d.after (length is)
  does-kept {is} {rs} {ρ} {cs} d = rw d.run at (execute_keeps is (machine ρ 0 cs))

  pub nothing : {rs ρ cs ys : List ℕ} → Reads ρ rs ys → Does [] rs ρ cs ys cs false
  nothing {ρ} {cs} r = record { after = ρ; run = execute-none controls (machine ρ 0 cs); gives = r; clips = clips-none controls (machine ρ 0 cs) }

  -- one instruction that skips nothing, and then a piece
  pub first_does : {x : Instruction} {is : List Instruction} {rs ρ cs ys cs' cs'' : List ℕ} {v : ℕ} {b c : Bool} → worked controls x ρ cs ≡ effect v 0 cs' → worked_clips x ρ ≡ b
      → Does is rs (ρ ++ (v ∷ [])) cs' ys cs'' c → Does (x ∷ is) rs ρ cs ys cs'' (b or c)
  first_does {x} {is} {ρ = ρ} {cs} {cs' = cs'} {v = v} e f d =
      record {
        after = d.after;
        run = execute-first controls x is ρ cs cs' v 0 e ∙ d.run;
        gives = d.gives;
        clips = clips-first controls x is ρ cs cs' v 0 e ∙ ap₂ ◌or◌ f d.clips;
      }

  -- one instruction, whose register is the result
  pub one-does : {x : Instruction} {ρ cs cs' : List ℕ} {v n : ℕ} {b : Bool} → length ρ ≡ n → worked controls x ρ cs ≡ effect v 0 cs' → worked_clips x ρ ≡ b → Does (x ∷ []) (n ∷ []) ρ cs (v ∷ []) cs' b
  one-does {ρ = ρ} {v = v} {n} {b} e w f = does_as (or_none b) (first_does w f (nothing (reads-last ρ v n e)))

  -- a piece from where another ended
  resume : (is : List Instruction) {js : List Instruction} {rs ρ cs zs cs'' : List ℕ} {b : Bool} (m : Machine) → execute controls is m ≡ machine ρ 0 cs → (d : Does js rs ρ cs zs cs'' b)
      → execute controls (is ++ js) m ≡ machine d.after 0 cs''
  resume is {js} m e d = execute_append controls is js m ∙ ap (execute controls js) e ∙ d.run

  resume_clips : (is : List Instruction) {js : List Instruction} {rs ρ cs zs cs'' : List ℕ} {b c : Bool} (m : Machine) → execute controls is m ≡ machine ρ 0 cs → execute_clips controls is m ≡ b
      → Does js rs ρ cs zs cs'' c → execute_clips controls (is ++ js) m ≡ (b or c)
  resume_clips is {js} m e f d = clips_append controls is js m ∙ ap₂ ◌or◌ f (ap (execute_clips controls js) e ∙ d.clips)

  -- one piece and then another
  pub and_then : {is js : List Instruction} {rs ss ρ cs ys zs cs' cs'' : List ℕ} {b c : Bool} → Does is rs ρ cs ys cs' b
      → ((ρ' : List ℕ) → Kept ρ ρ' (length is) → Reads ρ' rs ys → Does js ss ρ' cs' zs cs'' c) → Does (is ++ js) ss ρ cs zs cs'' (b or c)
  and_then {is} {ρ} {cs} d k =
      let e = k d.after (does-kept d) d.gives in
      record { after = e.after; run = resume is (machine ρ 0 cs) d.run e; gives = e.gives; clips = resume_clips is (machine ρ 0 cs) d.run d.clips e }

  -- what other registers hold stays
  pub besides : {is : List Instruction} {rs ss ρ cs ys zs cs' : List ℕ} {b : Bool} → Reads ρ ss zs → Does is rs ρ cs ys cs' b → Does is (ss ++ rs) ρ cs (zs ++ ys) cs' b
  besides r d = record { after = d.after; run = d.run; gives = both_append (kept-reads (does-kept d) r) d.gives; clips = d.clips }

  pub still : {is : List Instruction} {rs ss ρ cs ys zs cs' : List ℕ} {b : Bool} → Reads ρ ss zs → Does is rs ρ cs ys cs' b → Does is ss ρ cs zs cs' b
  still r d = record { after = d.after; run = d.run; gives = kept-reads (does-kept d) r; clips = d.clips }

  -- reads of k cells
  pub reads_do : (k a n : ℕ) (ρ cs : List ℕ) → length ρ ≡ n → Does (reads a k) (up_from n k) ρ cs (part a k cs) cs false
  reads_do zero a n ρ cs e = nothing none
  reads_do (suc k) a n ρ cs e =
      let v : ℕ = get_or cs a 0 in
      let d = reads_do k (suc a) (suc n) (ρ ++ (v ∷ [])) cs (omega (arith, length-append ρ (v ∷ []))) in
      first_does (read_works controls ρ cs a) refl (besides (reads-last ρ v n e) d)

  -- writes of registers
  writes-from : {ρ₀ : List ℕ} (a k : ℕ) {rs vs : List ℕ} (ρ cs : List ℕ) → Kept ρ₀ ρ k → Reads ρ₀ rs vs → Does (writes a rs) [] ρ cs [] (store a vs cs) false
  writes-from a k ρ cs g none = nothing none
  writes-from a k ρ cs g (more {x = r} {y = v} h b) =
      first_does (write_works controls ρ cs a r (kept-holds g r v h).value) refl (writes-from (suc a) (k + 1) (ρ ++ (0 ∷ [])) (set cs a v) (kept_trans g (kept-one ρ 0)) b)

  pub writes_do : (a : ℕ) {rs vs : List ℕ} (ρ cs : List ℕ) → Reads ρ rs vs → Does (writes a rs) [] ρ cs [] (store a vs cs) false
  writes_do a ρ cs b = writes-from a 0 ρ cs (record { fresh = []; whole = rw append-nil; count = refl }) b

  -- a skip over a body, and what follows it, whether the body is worked or skipped
  gated : (d : Bool) {body : List Instruction} {ρ cs cs' : List ℕ} {b : Bool} → Does body [] ρ cs [] cs' b
      → (after : List ℕ) × (execute controls body (machine ρ (pick d 0 (length body)) cs) ≡ machine after 0 (pick d cs' cs))
      × (execute_clips controls body (machine ρ (pick d 0 (length body)) cs) ≡ (d and b))
  gated true d = (d.after, d.run, d.clips)
  gated false {body} {ρ} {cs} d = (ρ ++ zeros (length body), execute_all_skipped controls body ρ cs, clips_all_skipped controls body ρ cs)

  skipped : (r v : ℕ) (body : List Instruction) {js : List Instruction} {rs ρ cs ρ' cs₁ ys cs'' : List ℕ} {b c : Bool} → Holds ρ r v
      → execute controls body (machine (ρ ++ (0 ∷ [])) (pick (demand v) 0 (length body)) cs) ≡ machine ρ' 0 cs₁
      → execute_clips controls body (machine (ρ ++ (0 ∷ [])) (pick (demand v) 0 (length body)) cs) ≡ b → Does js rs ρ' cs₁ ys cs'' c
      → Does (flat.skip r (length body) ∷ (body ++ js)) rs ρ cs ys cs'' (b or c)
  skipped r v body {js} {ρ = ρ} {cs} h e f o =
      let s : ℕ = pick (demand v) 0 (length body) in
      let w = skip_works controls ρ cs r (length body) h.value in
      record {
        after = o.after;
        run = execute-first controls (flat.skip r (length body)) (body ++ js) ρ cs cs 0 s w ∙ resume body (machine (ρ ++ (0 ∷ [])) s cs) e o;
        gives = o.gives;
        clips = clips-first controls (flat.skip r (length body)) (body ++ js) ρ cs cs 0 s w ∙ resume_clips body (machine (ρ ++ (0 ∷ [])) s cs) e f o;
      }

  pub skip_do : {r v : ℕ} {body js : List Instruction} {rs ρ cs ys cs' cs'' : List ℕ} {b c : Bool} → Holds ρ r v → Does body [] (ρ ++ (0 ∷ [])) cs [] cs' b
      → ((ρ' : List ℕ) → length ρ' ≡ length ρ + 1 + length body → Does js rs ρ' (pick (demand v) cs' cs) ys cs'' c)
      → Does (flat.skip r (length body) ∷ (body ++ js)) rs ρ cs ys cs'' ((demand v and b) or c)
  skip_do {r} {v} {body} {ρ = ρ} {cs} h d k =
      let (ρ', e, f) = gated (demand v) d in
      let g : Kept (ρ ++ (0 ∷ [])) ρ' (length body) = rw e at (execute_keeps body (machine (ρ ++ (0 ∷ [])) (pick (demand v) 0 (length body)) cs)) in
      skipped r v body h e f (k ρ' (omega (arith, kept-length g, length-append ρ (0 ∷ []))))

pub length-reads : (a k : ℕ) → length (reads a k) ≡ k
length-reads a zero = refl
length-reads a (suc k) = ap suc (length-reads (suc a) k)

pub length-writes : (a : ℕ) (rs : List ℕ) → length (writes a rs) ≡ length rs
length-writes a [] = refl
length-writes a (r ∷ rs) = ap suc (length-writes (suc a) rs)
