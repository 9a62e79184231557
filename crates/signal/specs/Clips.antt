-- E6: in how many ticks a delay is clipped, "from the demands and amounts alone".
use Rattle.std.specs.Prelude.{ℕ, ◌+◌, Bool, false, [], ◌∷◌, get_or}
use Rattle.word.specs.Choice.{◌and◌, ◌or◌, bit}
use Rattle.word.specs.Word.{clipped}
use Rattle.word.specs.Tick.{Tick}
use Rattle.arity.specs.Tree.{Tree, Primitive}
use Rattle.arity.specs.Tree.Tree.{leaf, join, ondemand}
use Rattle.arity.specs.Tree.Primitive.{number, control, operation, delay, cable, cut}
use Rattle.signal.specs.Signal.{History, demanded, demands}
use Rattle.signal.specs.History.{left_history, right_history}

-- a delay whose amount, its second input, lies outside 0 to D at its own tick f
abbrev pub clips_at : Primitive → Tick → Bool
clips_at (number v) f = false
clips_at (control s) f = false
clips_at (operation o) f = false
clips_at (delay d) f = clipped (get_or f.inputs 1 0) d
clips_at cable f = false
clips_at cut f = false

-- at the latest tick of a history some delay of the tree is clipped, at its own tick then; "a delay in a body without demand does not count"
unfoldable pub clips : Tree → History → Bool
unfolding left_history right_history
clips (leaf i p) [] = false
clips (leaf i p) (f ∷ h) = clips_at p f
clips (join i c l r) h = clips l (left_history c l r h) or clips r (right_history c l r h)
clips (ondemand i b) [] = false
clips (ondemand i b) (f ∷ h) = demanded f and clips b (demands (f ∷ h))

-- in how many ticks of a history
unfoldable pub clipped_ticks : Tree → History → ℕ
unfolding clips
clipped_ticks t [] = 0
clipped_ticks t (f ∷ h) = bit (clips t (f ∷ h)) + clipped_ticks t h
