-- The print of a file's beginning.
use mathlib.Core.Path.{◌≡◌, refl, ap}
use mathlib.Core.Option.{Option, none, some}
use native.Mathlib.Omega.{arith}
use lib.ListN.{take}
use Rattle.refusal.specs.Answer.{Answer}
use Rattle.column.specs.File.{file_refusal}
use Rattle.column.proofs.Prefix.{refused-alike, right_prefix}
use Rattle.listing.specs.Print.{file_text}
use Rattle.listing.specs.Laws.{PrefixPrints}

pub prefix_prints : PrefixPrints
unfolding file_text
prefix_prints k file h = go (file_refusal file) refl
  where
    go : (x : Option Answer) → file_refusal file ≡ x → file_text (take k file) ≡ file_text file
    go none e = ap file_text (right_prefix k file (omega arith) e)
    go (some a) e = rw (refused-alike k file (omega arith), e)
