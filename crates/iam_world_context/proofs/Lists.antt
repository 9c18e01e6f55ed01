-- Lists that are walked element by element, and the first element of which something holds.
use Rattle.std.proofs.Common.{◌≡◌, inl, inr, ℕ, ◌+◌, ◌<◌, List, [], ◌∷◌, ◌++◌, map, length, drop, get_or, ap, ◌∙◌, sym}
use Rattle.std.proofs.lemmas.List.{at_drop_more}
use Rattle.std.specs.List.{AllByRecursion}
use Rattle.iam_shape.specs.First.{IsFirst}

-- the values of a list from i on: that at i, and the rest
pub drop_at : {X Y : Type 0} (f : X → Y) (xs : List X) (i : ℕ) (x : X) → i < length xs → x ≡ get_or xs i x → map f (drop i xs) ≡ f x ∷ map f (drop (i + 1) xs)
drop_at f xs i x below is = at_drop_more (map f) xs i x below ∙ ap (λ z. f z ∷ map f (drop (i + 1) xs)) (sym is)

-- the first of two lists is that of the first, or else that of the second
pub first_here : {X : Type 0} (P : X → Type 0) (front back : List X) (x : X) → IsFirst P front x → IsFirst P (front ++ back) x
first_here P [] back x first = absurd first
first_here P (y ∷ front) back x (inl here) = inl here
first_here P (y ∷ front) back x (inr later) = inr (later.0, first_here P front back x later.1)

pub first_later : {X : Type 0} (P : X → Type 0) (front back : List X) (x : X) → AllByRecursion (λ y. ¬ P y) front → IsFirst P back x → IsFirst P (front ++ back) x
first_later P [] back x none first = first
first_later P (y ∷ front) back x none first = inr (none.0, first_later P front back x none.1 first)

pub none_append : {X : Type 0} (P : X → Type 0) (front back : List X) → AllByRecursion P front → AllByRecursion P back → AllByRecursion P (front ++ back)
none_append P [] back one two = two
none_append P (x ∷ front) back one two = (one.0, none_append P front back one.1 two)
