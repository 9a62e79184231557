-- A control's line: what its two words behind `control` say.
use Rattle.std.proofs.Common.{◌≡◌, ℕ, ◌≤◌, ◌<◌, List, [], ◌∷◌, refl, arith, true, false}
use mathlib.Core.Option.{Option, none, some}
use borrow.Author.Tests.{lt-ltb, le-ltb}
use lib.IntN.{ℤ}
use Rattle.std.specs.Prelude.{Option as StdOption, Some, None, is_some}
use Rattle.std.specs.Borrow.{Bor}
use Rattle.word.specs.Word.{low}
use Rattle.number.specs.Number.{number_in}
use Rattle.number.specs.Promises.{found}
use Rattle.player.specs.declared.samples.Kind.TheVariants.{Control}
use Rattle.player.specs.Samples.{words, setting, control_said}
use Rattle.player.specs.Promises.{FirstWord, Word, kind_of}

pub no_slot : (line : List ℕ) → words line ≡ [] → None ≡ kind_of (control_said (words line))
no_slot line e = rw e

module _ (line first rest : List ℕ) (a : Word line first rest) where
  module _ (second behind : List ℕ) (b : Word rest second behind) (r : StdOption (Bor (List ℕ) × Bor (List ℕ))) (f : FirstWord behind r) where
    pub third-word : is_some r ≡ true → None ≡ kind_of (control_said (words line))
    third-word e = go r f e
      where
        go : (r : StdOption (Bor (List ℕ) × Bor (List ℕ))) → FirstWord behind r → is_some r ≡ true → None ≡ kind_of (control_said (words line))
        go None f e = cc
        go (Some p) f e = rw (a.words-are, b.words-are, f.words-are)

    module _ (e : is_some r ≡ false) where
      two : control_said (words line) ≡ setting (number_in first) (number_in second)
      two = rw (a.words-are, b.words-are) (go r f e)
        where
          go : (r : StdOption (Bor (List ℕ) × Bor (List ℕ))) → FirstWord behind r → is_some r ≡ false → control_said (first ∷ (second ∷ words behind)) ≡ setting (number_in first) (number_in second)
          go None f e = rw f
          go (Some p) f e = cc

      pub slot-none : None ≡ found (number_in first) → None ≡ kind_of (control_said (words line))
      slot-none p = rw two (go (number_in first) (number_in second) p)
        where
          go : (s v : Option ℤ) → None ≡ found s → None ≡ kind_of (setting s v)
          go none v p = refl
          go (some z) v p = cc

      pub value-none : None ≡ found (number_in second) → None ≡ kind_of (control_said (words line))
      value-none p = rw two (go (number_in first) (number_in second) p)
        where
          go : (s v : Option ℤ) → None ≡ found v → None ≡ kind_of (setting s v)
          go none v p = refl
          go (some z) none p = refl
          go (some z) (some y) p = cc

      module _ (slot value : ℕ) (p : Some slot ≡ found (number_in first)) (q : Some value ≡ found (number_in second)) where
        pub large_slot : 15 < slot → None ≡ kind_of (control_said (words line))
        large_slot h = rw two (go (number_in first) (number_in second) p q)
          where
            go : (s v : Option ℤ) → Some slot ≡ found s → Some value ≡ found v → None ≡ kind_of (setting s v)
            go none v p q = cc
            go (some z) none p q = refl
            go (some z) (some y) p q = let k : slot ≡ low z = cc in rw (le-ltb (low z) 16 (omega arith))

        pub is-setting : slot ≤ 15 → Some (Control slot value) ≡ kind_of (control_said (words line))
        is-setting h = rw two (go (number_in first) (number_in second) p q)
          where
            go : (s v : Option ℤ) → Some slot ≡ found s → Some value ≡ found v → Some (Control slot value) ≡ kind_of (setting s v)
            go none v p q = cc
            go (some z) none p q = cc
            go (some z) (some y) p q =
                let k : slot ≡ low z = cc in
                let l : value ≡ low y = cc in
                rw (lt-ltb (low z) 16 (omega arith), k, l)
