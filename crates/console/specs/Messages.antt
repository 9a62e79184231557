-- What is printed instead of samples.
use Rattle.std.specs.Prelude.{ℕ, List, ◌++◌, codes}
use Rattle.std.specs.Fmt.{decimal}

-- "`line N is malformed` is printed, N counted from 0"
abbrev pub malformed_text : ℕ → List ℕ
malformed_text line = codes "line " ++ decimal line ++ codes " is malformed\n"
