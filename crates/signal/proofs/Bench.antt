-- Every bench sample that is marked P is what its circuit means: computed once for the whole table, and the law for each entry.
use mathlib.Core.Path.{◌≡◌, refl, ap}
use mathlib.Core.List.{List, [], ◌∷◌, map, Memᴰ}
use Rattle.word.specs.Word.{value, low, clamp}
use Rattle.word.specs.Operation.{add, subtract, multiply, select, operate, operands, demand}
use Rattle.word.specs.Tick.{head_or, tail_of}
use Rattle.signal.specs.Samples.{Sample, meaning, bench_samples, SamplesRight}

samples_computed : map meaning bench_samples ≡ map (λ (s : Sample). s.outputs) bench_samples
unfolding bench_samples meaning operate operands add subtract multiply select clamp value low demand
samples_computed = refl

same_at : {A B : Type 0} (f g : A → B) (l : List A) (a : A) → map f l ≡ map g l → Memᴰ a l → f a ≡ g a
same_at f g [] a e m = elim m [ ]
same_at f g (b ∷ l) a e (Memᴰ.head h) = rw h (ap (head_or (f b)) e)
same_at f g (b ∷ l) a e (Memᴰ.tail m) = same_at f g l a (ap tail_of e) m

pub samples-right : SamplesRight
samples-right s m = same_at meaning (λ (r : Sample). r.outputs) bench_samples s samples_computed m
