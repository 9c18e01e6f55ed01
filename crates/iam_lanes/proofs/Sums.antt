-- Sums over all views, where one of them changes.
use Rattle.std.proofs.Common.{◌≡◌, ℕ, zero, suc, ◌+◌, ◌≤◌, List, [], ◌∷◌, set, refl, sym, ap, arith}
use Rattle.std.specs.List.{sum_by}
use Rattle.std.proofs.lemmas.List.Sums.{sum_by-cons}
use mathlib.Core.Option.{some, some-injective, some-ne-none}
use lib.ListN.{get_elem?}

module _ {A : Type 0} where
  -- a sum after one view of the list is another
  pub sum_set : (f : A → ℕ) (l : List A) (i : ℕ) (a b : A) → get_elem? l i ≡ some a → sum_by f (set l i b) + f a ≡ sum_by f l + f b
  sum_set f [] i a b at = absurd (some-ne-none a (sym at))
  sum_set f (x ∷ xs) zero a b at =
      let e = ap f (some-injective x a at) in omega (arith, sum_by-cons f x xs, sum_by-cons f b xs, e)
  sum_set f (x ∷ xs) (suc i) a b at = omega (arith, sum_set f xs i a b at, sum_by-cons f x xs, sum_by-cons f x (set xs i b))

  -- one view is within the sum
  pub at_most : (f : A → ℕ) (l : List A) (i : ℕ) (a : A) → get_elem? l i ≡ some a → f a ≤ sum_by f l
  at_most f [] i a at = absurd (some-ne-none a (sym at))
  at_most f (x ∷ xs) zero a at = let e = ap f (some-injective x a at) in omega (arith, sum_by-cons f x xs, e)
  at_most f (x ∷ xs) (suc i) a at = omega (arith, at_most f xs i a at, sum_by-cons f x xs)

  -- a sum of smaller terms is smaller
  pub sum_le : (f g : A → ℕ) (l : List A) → ((i : ℕ) (a : A) → get_elem? l i ≡ some a → f a ≤ g a) → sum_by f l ≤ sum_by g l
  sum_le f g [] h = omega arith
  sum_le f g (x ∷ xs) h = let e = h 0 x refl in omega (arith, sum_by-cons f x xs, sum_by-cons g x xs, sum_le f g xs (λ i. h (suc i)), e)

  -- where f is 0 in all views, so is its sum
  pub none_at_all : (f : A → ℕ) (l : List A) → ((i : ℕ) (a : A) → get_elem? l i ≡ some a → f a ≡ 0) → sum_by f l ≡ 0
  none_at_all f [] z = refl
  none_at_all f (x ∷ xs) z = let e = z 0 x refl in omega (arith, sum_by-cons f x xs, none_at_all f xs (λ i. z (suc i)), e)

  -- where all of g stands in one view, and f is 0 wherever g is, all of f stands in that view
  pub sum_alone : (f g : A → ℕ) (l : List A) (i : ℕ) (a : A) → get_elem? l i ≡ some a → sum_by g l ≡ g a
      → ((j : ℕ) (b : A) → get_elem? l j ≡ some b → g b ≡ 0 → f b ≡ 0) → sum_by f l ≡ f a
  sum_alone f g [] i a at all idle = absurd (some-ne-none a (sym at))
  sum_alone f g (x ∷ xs) zero a at all idle =
      let same = some-injective x a at in
      let rest : sum_by g xs ≡ 0 = let e = ap g same in omega (arith, sum_by-cons g x xs, all, e) in
      let none = none_at_all f xs (λ j b h. idle (suc j) b h (let m = at_most g xs j b h in omega arith)) in
      let e = ap f same in omega (arith, sum_by-cons f x xs, none, e)
  sum_alone f g (x ∷ xs) (suc i) a at all idle =
      let m = at_most g xs i a at in
      let first : g x ≡ 0 = omega (arith, sum_by-cons g x xs, all) in
      let rest : sum_by g xs ≡ g a = omega (arith, sum_by-cons g x xs, all) in
      let gone = idle 0 x refl first in
      omega (arith, sum_by-cons f x xs, sum_alone f g xs i a at rest (λ j b h. idle (suc j) b h), gone)
