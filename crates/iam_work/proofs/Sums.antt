-- Sums over all views where one of them changes, and how often a number stands in a list.
use Rattle.std.proofs.Common.{◌≡◌, ◌≢◌, ℕ, zero, suc, ◌+◌, ◌<◌, ◌≤◌, cond, eqb, List, [], ◌∷◌, ◌++◌, length, get_or, set, refl, sym, ap, ◌∙◌, arith}
use Rattle.std.specs.List.{sum_by}
use Rattle.std.proofs.lemmas.Bool.{eq-eqb, ne_eqb}
use Rattle.std.proofs.lemmas.List.Sums.{sum_by-cons, sum_by_push, sum_by-append, sum_by-set, get_or-le-sum_by}
use mathlib.Core.Option.{some, some-injective, some-ne-none}
use lib.ListN.{get_elem?}
use Rattle.iam_work.specs.Work.{times}

module _ {A : Type 0} where
  -- an element that was found, by its index
  pub found_at : (l : List A) (i : ℕ) (a d : A) → get_elem? l i ≡ some a → (i < length l) × (get_or l i d ≡ a)
  found_at [] i a d at = absurd (some-ne-none a (sym at))
  found_at (x ∷ xs) zero a d at = (omega arith, some-injective x a at)
  found_at (x ∷ xs) (suc i) a d at = let t = found_at xs i a d at in (omega (arith, t.0), t.1)

  -- a sum after one view of the list is another
  pub sum_set : (f : A → ℕ) (l : List A) (i : ℕ) (a b : A) → get_elem? l i ≡ some a → sum_by f (set l i b) + f a ≡ sum_by f l + f b
  sum_set f l i a b at = let t = found_at l i a b at in ap (λ x. sum_by f (set l i b) + f x) (sym t.1) ∙ sum_by-set f l i b b t.0

  -- one view is within the sum
  pub at_most : (f : A → ℕ) (l : List A) (i : ℕ) (a : A) → get_elem? l i ≡ some a → f a ≤ sum_by f l
  at_most f l i a at = let t = found_at l i a a at in let e = ap f t.1 in omega (arith, get_or-le-sum_by f l i a t.0)

  -- where f is 0 in all views, so is its sum
  none_at_all : (f : A → ℕ) (l : List A) → ((i : ℕ) (a : A) → get_elem? l i ≡ some a → f a ≡ 0) → sum_by f l ≡ 0
  none_at_all f [] z = refl
  none_at_all f (x ∷ xs) z = let e = z 0 x refl in omega (arith, sum_by-cons f x xs, none_at_all f xs (λ i. z (suc i)), e)

  -- where all of g stands in one view, and f is 0 wherever g is, all of f stands in that view
  pub sum_alone : (f g : A → ℕ) (l : List A) (i : ℕ) (a : A) → get_elem? l i ≡ some a → sum_by g l ≡ g a
      → ((j : ℕ) (b : A) → get_elem? l j ≡ some b → g b ≡ 0 → f b ≡ 0) → sum_by f l ≡ f a
  sum_alone f g [] i a at all idle = absurd (some-ne-none a (sym at))
  sum_alone f g (x ∷ xs) zero a at all idle =
      let same = some-injective x a at in
      let rest : sum_by g xs ≡ 0 = let e = ap g same in omega (arith, sum_by-cons g x xs, all, e) in
      let none = none_at_all f xs (λ j b h. idle (suc j) b h (let m = at_most g xs j b h in omega arith)) in
      let e = ap f same in omega (arith, sum_by-cons f x xs, none, e)
  sum_alone f g (x ∷ xs) (suc i) a at all idle =
      let m = at_most g xs i a at in
      let first : g x ≡ 0 = omega (arith, sum_by-cons g x xs, all) in
      let rest : sum_by g xs ≡ g a = omega (arith, sum_by-cons g x xs, all) in
      let gone = idle 0 x refl first in
      omega (arith, sum_by-cons f x xs, sum_alone f g xs i a at rest (λ j b h. idle (suc j) b h), gone)

-- a number more at the end
times_push : (x y : ℕ) (xs : List ℕ) → times x (xs ++ y ∷ []) ≡ times x xs + cond (eqb x y) 1 0
times_push x y xs = sum_by_push (λ z. cond (eqb x z) 1 0) xs y

pub times_push_same : (x : ℕ) (xs : List ℕ) → times x (xs ++ x ∷ []) ≡ times x xs + 1
times_push_same x xs = times_push x x xs ∙ ap (λ b. times x xs + cond b 1 0) (eq-eqb x x refl)

pub times_push_other : (x y : ℕ) (xs : List ℕ) → x ≢ y → times x (xs ++ y ∷ []) ≡ times x xs
times_push_other x y xs ne = let e = times_push x y xs ∙ ap (λ b. times x xs + cond b 1 0) (ne_eqb x y ne) in omega (arith, e)

-- in two lists one after the other
pub times_append : (x : ℕ) (xs ys : List ℕ) → times x (xs ++ ys) ≡ times x xs + times x ys
times_append x xs ys = sum_by-append (λ z. cond (eqb x z) 1 0) xs ys
