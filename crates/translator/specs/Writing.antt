-- Code that is written piece by piece: room for instructions, what stands there afterwards, and what is still to be written.
use Rattle.std.specs.Prelude.{ℕ, suc, ◌+◌, ◌*◌, ◌≤◌, ◌≡◌, List, [], ◌∷◌, ◌++◌, length, take}
use Rattle.cells.specs.Cells.{store}
use Rattle.flat.specs.Flat.{Instruction, width}
use Rattle.flat.specs.Instructions as flat
use Rattle.flat.specs.Code.{numbers}
use Rattle.translator.specs.Emit.{Emitted, emitted, terms}
use Rattle.translator.specs.declared.place.Place.{Place}
use Rattle.translator.specs.declared.place.Progress.{Progress}
use Rattle.translator.specs.declared.merge.Sum.{Sum}

-- the instructions fit into the code c from the place p on
pub record Room (is : List Instruction) (p : Place) (c : List ℕ) : Type 0 where
  pub places : p.at + width * length is ≤ length c
  pub registers : p.next + length is ≤ 65536

-- the instructions were written from p on: c has become c', and q is the place behind them
pub record Written (is : List Instruction) (p : Place) (c : List ℕ) (q : Place) (c' : List ℕ) : Type 0 where
  pub code : c' ≡ store p.at (numbers is) c
  pub next : q.next ≡ p.next + length is
  pub at : q.at ≡ p.at + width * length is

-- the translation e was written from p on, and its results are the first k registers of q
pub record Puts (e : Emitted) (k : ℕ) (p : Place) (c : List ℕ) (q : Progress) (c' : List ℕ) : Type 0 where
  pub written : Written e.code p c q.place c'
  pub results : take k q.regs ≡ e.results

-- the terms of one sum were written, the sum of the first of them and k more that stand b apart
pub record Summed (k b acc at : ℕ) (xs : List ℕ) (p : Place) (c : List ℕ) (s : Sum) (c' : List ℕ) : Type 0 where
  pub written : Written (terms k b acc at xs p.next).code p c s.place c'
  pub result : s.register ∷ [] ≡ (terms k b acc at xs p.next).results

-- an instruction on each cell from a on, with a register of the list: the form of reads, whose registers are 0, and of writes
unfoldable pub on_cells : (code a : ℕ) → List ℕ → List Instruction
on_cells k a [] = []
on_cells k a (x ∷ xs) = flat.on_cell k a x ∷ on_cells k (suc a) xs

-- one translation and then another, which goes on with the results and the next register that the first leaves
abbrev pub follow : Emitted → (List ℕ → ℕ → Emitted) → ℕ → Emitted
follow e k n =
    let s = k e.results (n + length e.code) in
    emitted (e.code ++ s.code) s.results
