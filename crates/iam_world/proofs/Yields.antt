-- What a chain of iterators yields, read through a function.
use Rattle.std.proofs.Common.{List, [], ◌∷◌, map, Option, ap}
use Rattle.std.specs.Iterator.{AlwaysYields}
use Rattle.std.proofs.lemmas.Iterator.{YieldsList}

pub yields_mapped : {S A B C : Type 0} {steps : S → Option A → S → Type 0} {v : A → B} {s : S} {ys : List B} (f : B → C) → YieldsList steps v s ys
    → YieldsList steps (λ x. f (v x)) s (map f ys)
yields_mapped {S} {A} {B} {C} {steps} {v} {s} {ys} f yields = record { runs = go ys s yields.runs }
  where
    go : (ys : List B) (s : S) → AlwaysYields steps v s ys → AlwaysYields steps (λ x. f (v x)) s (map f ys)
    go [] s runs = runs
    go (y ∷ ys) s runs = (runs.0, λ x t step. let next = runs.1 x t step in (ap f next.0, go ys t next.1))
