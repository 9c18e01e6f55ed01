-- Lists that are the same place by place.
use Rattle.std.proofs.Common.{◌≡◌, ℕ, suc, List, [], ◌∷◌, length, Some, refl, ap, ◌∙◌, arith}
use Rattle.std.specs.List.{slice_get}

-- what stands at the place in one list stands there in the other
abbrev pub SameAt : {X : Type 0} → List X → List X → ℕ → Type 0
SameAt {X} xs ys i = (x y : X) → slice_get xs i ≡ Some x → slice_get ys i ≡ Some y → x ≡ y

pub same_lists : {X : Type 0} (xs ys : List X) → length xs ≡ length ys → ((i : ℕ) → SameAt xs ys i) → xs ≡ ys
same_lists [] [] long same = refl
same_lists [] (y ∷ ys) long same = absurd (let wrong : ⊥ = cc in wrong)
same_lists (x ∷ xs) [] long same = absurd (let wrong : ⊥ = cc in wrong)
same_lists (x ∷ xs) (y ∷ ys) long same =
    ap (λ z. z ∷ xs) (same 0 x y refl refl) ∙ ap (λ zs. y ∷ zs) (same_lists xs ys (omega (arith, long)) (λ i. same (suc i)))
