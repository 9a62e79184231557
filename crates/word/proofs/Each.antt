-- What holds of each element of a list, and words.
use Rattle.std.proofs.Common.{◌≡◌, ℕ, zero, suc, ◌^◌, ◌<◌, Bool, true, ltb, List, [], ◌∷◌, ◌++◌, map, get_or, take, drop, lit<, ltb-true}
use Rattle.word.specs.Choice.{◌and◌}
use Rattle.word.specs.Tick.{Each, Words, zeros, head_or, tail_of}
use Rattle.word.proofs.Lists.{first-true, second-true}

module _ {A : Type 0} (P : A → Type 0) where
  pub each_append : (xs ys : List A) → Each P xs → Each P ys → Each P (xs ++ ys)
  each_append [] ys p q = q
  each_append (x ∷ xs) ys (p, ps) q = (p, each_append xs ys ps q)

  pub each_take : (n : ℕ) (xs : List A) → Each P xs → Each P (take n xs)
  each_take zero xs p = tt
  each_take (suc n) [] p = tt
  each_take (suc n) (x ∷ xs) (p, ps) = (p, each_take n xs ps)

  pub each-drop : (n : ℕ) (xs : List A) → Each P xs → Each P (drop n xs)
  each-drop zero xs p = p
  each-drop (suc n) [] p = tt
  each-drop (suc n) (x ∷ xs) (p, ps) = each-drop n xs ps

  pub each-head : (d : A) (xs : List A) → P d → Each P xs → P (head_or d xs)
  each-head d [] q p = q
  each-head d (x ∷ xs) q (p, ps) = p

  pub each_tail : (xs : List A) → Each P xs → Each P (tail_of xs)
  each_tail [] p = tt
  each_tail (x ∷ xs) (p, ps) = ps

  pub each_at : (d : A) (xs : List A) (k : ℕ) → P d → Each P xs → P (get_or xs k d)
  each_at d [] k q p = q
  each_at d (x ∷ xs) zero q (p, ps) = p
  each_at d (x ∷ xs) (suc k) q (p, ps) = each_at d xs k q ps

  pub each_of : (d : A) (xs : List A) → ((k : ℕ) → P (get_or xs k d)) → Each P xs
  each_of d [] p = tt
  each_of d (x ∷ xs) p = (p 0, each_of d xs (λ k. p (suc k)))

pub each_map : {A B : Type 0} (P : A → Type 0) (Q : B → Type 0) (f : A → B) → ((a : A) → P a → Q (f a)) → (xs : List A) → Each P xs → Each Q (map f xs)
each_map P Q f g [] p = tt
each_map P Q f g (x ∷ xs) (p, ps) = (g x p, each_map P Q f g xs ps)

-- a test that holds of each, computed over the list
abbrev pub every : {A : Type 0} → (A → Bool) → List A → Bool
every f [] = true
every f (x ∷ xs) = f x and every f xs

pub each-every : {A : Type 0} (P : A → Type 0) (f : A → Bool) → ((x : A) → f x ≡ true → P x) → (xs : List A) → every f xs ≡ true → Each P xs
each-every P f g [] e = tt
each-every P f g (x ∷ xs) e = (g x (first-true (f x) (every f xs) e), each-every P f g xs (second-true (f x) (every f xs) e))

pub word_at : (xs : List ℕ) (k : ℕ) → Words xs → get_or xs k 0 < 2 ^ 32
word_at xs k w = each_at (λ x. x < 2 ^ 32) 0 xs k (lit< tt) w

pub words_of : (xs : List ℕ) → ((k : ℕ) → get_or xs k 0 < 2 ^ 32) → Words xs
words_of xs f = each_of (λ x. x < 2 ^ 32) 0 xs f

-- by computation
pub words_by : (xs : List ℕ) → every (λ x. ltb x (2 ^ 32)) xs ≡ true → Words xs
words_by xs e = each-every (λ x. x < 2 ^ 32) (λ x. ltb x (2 ^ 32)) (λ x h. ltb-true x (2 ^ 32) h) xs e

pub words-zeros : (n : ℕ) → Words (zeros n)
words-zeros zero = tt
words-zeros (suc n) = (lit< tt, words-zeros n)

pub words_append : (xs ys : List ℕ) → Words xs → Words ys → Words (xs ++ ys)
words_append = each_append (λ x. x < 2 ^ 32)

pub words_take : (n : ℕ) (xs : List ℕ) → Words xs → Words (take n xs)
words_take = each_take (λ x. x < 2 ^ 32)

pub words-drop : (n : ℕ) (xs : List ℕ) → Words xs → Words (drop n xs)
words-drop = each-drop (λ x. x < 2 ^ 32)
