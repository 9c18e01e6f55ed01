-- Lists in order with the same elements are the same.
use Rattle.std.proofs.Common.{◌≡◌, inl, inr, ℕ, List, [], ◌∷◌, refl, sym, ap, ◌∙◌}
use Rattle.std.specs.Cmp.{IsTotalOrder}
use Rattle.std.specs.List.{Contains}
use Rattle.std.specs.List.Sorted.{IsStrictlyIncreasing, IsStrictlySortedBy}
use Rattle.std.specs.Ordering.{ordering_reverse}
use Rattle.std.specs.declared.cmp.Ordering.{Ordering}
use Rattle.std.specs.declared.cmp.Ordering.TheVariants.{Less, Greater}
use Rattle.std.proofs.lemmas.Cmp.{nat_cmp_total}
use Rattle.std.proofs.lemmas.List.Elements.{All-from_recursion}
use Rattle.std.proofs.lemmas.Map.Keys.{sorted_from_strictly_increasing, sorted_head, sorted_tail}
use Rattle.iam_kinds.proofs.Members.{In, in_of, of_all, of_in}

-- of two elements not each is before the other
pub not_both : {A : Type 0} {R : A → A → Ordering} → IsTotalOrder R → (x y : A) → R x y ≡ Less → R y x ≡ Less → ⊥
not_both {A} {R} o x y p q = let wrong : Less ≡ Greater = sym p ∙ o.antisymm x y ∙ ap ordering_reverse q in cc

pub before_all : {A : Type 0} (R : A → A → Ordering) (x : A) (xs : List A) → IsStrictlySortedBy R (x ∷ xs) → (y : A) → In y xs → R x y ≡ Less
before_all R x xs sorted y h = of_all (λ z. R x z ≡ Less) xs (All-from_recursion (λ z. R x z ≡ Less) xs (sorted_head R x xs sorted)) y h

pub same_elements : {A : Type 0} {R : A → A → Ordering} → IsTotalOrder R → (xs ys : List A) → IsStrictlySortedBy R xs → IsStrictlySortedBy R ys
    → ((x : A) → In x xs → In x ys) → ((x : A) → In x ys → In x xs) → xs ≡ ys
same_elements o [] [] s t to back = refl
same_elements o [] (y ∷ ys) s t to back = absurd (back y (inl refl))
same_elements o (x ∷ xs) [] s t to back = absurd (to x (inl refl))
same_elements {A} {R} o (x ∷ xs) (y ∷ ys) s t to back =
    let first : x ≡ y = elim (to x (inl refl)) [
      | inl e ↦ sym e
      | inr h ↦ elim (back y (inl refl)) [
        | inl e ↦ e
        | inr k ↦ absurd (not_both o x y (before_all R x xs s y k) (before_all R y ys t x h))
      ]
    ] in
    let rest : xs ≡ ys =
    same_elements o xs ys (sorted_tail R x xs s) (sorted_tail R y ys t) (λ z h. elim (to z (inr h)) [
      | inl e ↦ let here : x ≡ z = first ∙ e in let less : R x x ≡ Less = ap (R x) here ∙ before_all R x xs s z h in absurd (not_both o x x less less)
      | inr k ↦ k
    ]) (λ z h. elim (back z (inr h)) [
      | inl e ↦ let here : y ≡ z = sym first ∙ e in let less : R y y ≡ Less = ap (R y) here ∙ before_all R y ys t z h in absurd (not_both o y y less less)
      | inr k ↦ k
    ]) in
    ap (λ z. z ∷ xs) first ∙ ap (λ l. y ∷ l) rest

pub same_numbers : (xs ys : List ℕ) → IsStrictlyIncreasing xs → IsStrictlyIncreasing ys → ((x : ℕ) → Contains xs x → Contains ys x)
    → ((x : ℕ) → Contains ys x → Contains xs x) → xs ≡ ys
same_numbers xs ys s t to back =
    same_elements nat_cmp_total xs ys (sorted_from_strictly_increasing xs s) (sorted_from_strictly_increasing ys t)
    (λ x h. in_of ys x (to x (of_in xs x h))) (λ x h. in_of xs x (back x (of_in ys x h)))
