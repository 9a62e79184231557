-- The delay step: a delay line of d owns a position and a ring of d places, the cells from a on.
use Rattle.std.specs.Prelude.{ℕ, zero, suc, ◌+◌, ◌-◌, ◌%◌, List, get_or, set, eqb, ltb}
use Rattle.word.specs.Choice.{pick}
use Rattle.word.specs.Word.{clamp}

-- a position outside the ring counts as 0
abbrev pub position : ℕ → ℕ → ℕ
position d p = pick (ltb p d) p 0

-- what it gives for the input x: the place `amount` back from the position; x itself where that is 0
abbrev pub delayed : (a d x amount : ℕ) → List ℕ → ℕ
delayed a d x amount cs =
    pick (eqb (clamp amount d) 0) x
    (get_or cs (a + 1 + (position d (get_or cs a 0) + d - clamp amount d) % d) 0)

-- the cells after it: x at the position, and the position moved on; a line of 0 touches nothing
abbrev pub moved : (a d x : ℕ) → List ℕ → List ℕ
moved a zero x cs = cs
moved a (suc d) x cs =
    let p = position (suc d) (get_or cs a 0) in
    set (set cs (a + 1 + p) x) a ((p + 1) % suc d)
