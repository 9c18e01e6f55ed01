-- Lists with one more behind them.
use Rattle.std.proofs.Common.{◌≡◌, ◌⊎◌, inl, inr, ℕ, zero, suc, ◌+◌, ◌<◌, List, [], ◌∷◌, ◌++◌, length, Option, None, Some, IfSome, refl, sym, ap, subst, arith}
use Rattle.std.proofs.lemmas.Option.{slice_get_within}
use Rattle.std.specs.List.{slice_get}

-- what is in a list is in a longer one, and what is behind it is the next
pub get_more : {X : Type 0} (xs ys : List X) (i : ℕ) (x : X) → slice_get xs i ≡ Some x → slice_get (xs ++ ys) i ≡ Some x
get_more [] ys i x at = let within = slice_get_within [] i x at in absurd (omega (arith, within))
get_more (y ∷ xs) ys zero x at = at
get_more (y ∷ xs) ys (suc i) x at = get_more xs ys i x at

pub get_next : {X : Type 0} (xs : List X) (x : X) → slice_get (xs ++ x ∷ []) (length xs) ≡ Some x
get_next [] x = refl
get_next (y ∷ xs) x = get_next xs x

-- what stands in a list with one more is in the list, or is the one more
pub get_back : {X : Type 0} (xs : List X) (x : X) (i : ℕ) (y : X) → slice_get (xs ++ x ∷ []) i ≡ Some y
    → (slice_get xs i ≡ Some y) ⊎ ((i ≡ length xs) × (y ≡ x))
get_back [] x zero y at = let same : y ≡ x = cc in inr (refl, same)
get_back [] x (suc i) y at = let wrong : ⊥ = cc in absurd wrong
get_back (z ∷ xs) x zero y at = inl at
get_back (z ∷ xs) x (suc i) y at = elim (get_back xs x i y at) [ inl there ↦ inl there | inr (last, same) ↦ inr (ap suc last, same) ]

pub at_more : {X : Type 0} (P : ℕ → X → Type 0) (xs : List X) (x : X) → P (length xs) x
    → ((i : ℕ) (y : X) → slice_get xs i ≡ Some y → P i y) → (i : ℕ) (y : X) → slice_get (xs ++ x ∷ []) i ≡ Some y → P i y
at_more {X} P xs x is all i other at =
    elim (get_back xs x i other at) [
      | inl before ↦ all i other before
      | inr (last, same) ↦
          let Q : ℕ → Type 0 = λ n. P n x in
          let R : X → Type 0 = λ y. P i y in
          subst R (sym same) (subst Q (sym last) is)
    ]

pub some_same : {X : Type 0} (x y : X) → Some x ≡ Some y → x ≡ y
some_same x y same = cc

-- a place within a list has something
pub get_within : {X : Type 0} (xs : List X) (i : ℕ) → i < length xs → (x : X) × (slice_get xs i ≡ Some x)
get_within [] i below = absurd (omega (arith, below))
get_within (x ∷ xs) zero below = (x, refl)
get_within (x ∷ xs) (suc i) below = get_within xs i (omega (arith, below))

-- what has a property, where that follows from where it was found
pub if_some : {X : Type 0} (P Q : X → Type 0) (found : Option X) → ((x : X) → P x → Q x) → IfSome found P → IfSome found Q
if_some P Q None weaker is = is
if_some P Q (Some x) weaker is = weaker x is

-- what is below the next number is below this one, or is it
pub less_or_last : (n i : ℕ) → n < i + 1 → (n < i) ⊎ (n ≡ i)
less_or_last zero zero less = inr refl
less_or_last zero (suc i) less = inl (omega arith)
less_or_last (suc n) zero less = absurd (omega (arith, less))
less_or_last (suc n) (suc i) less =
    elim (less_or_last n i (omega (arith, less))) [ inl before ↦ inl (omega (arith, before)) | inr same ↦ inr (ap suc same) ]
