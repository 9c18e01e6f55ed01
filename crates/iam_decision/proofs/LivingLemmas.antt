-- Lists of living statements that are the same place by place.
use Rattle.std.proofs.Common.{◌≡◌, ℕ, suc, List, [], ◌∷◌, length, Some, map, refl, ap, ◌∙◌, arith}
use Rattle.std.specs.List.{slice_get}
use Rattle.iam_decision.specs.Living.{living_value}
use Rattle.iam_decision.specs.declared.living.Living.{Living}

-- the statement at the place of one list is the one there in the other
abbrev pub SameAt : List Living → List Living → ℕ → Type 0
SameAt ones others i =
    (x y : Living) → slice_get ones i ≡ Some x → slice_get others i ≡ Some y → living_value x ≡ living_value y

pub same_lists : (ones others : List Living) → length ones ≡ length others → ((i : ℕ) → SameAt ones others i)
    → map living_value ones ≡ map living_value others
same_lists [] [] long same = refl
same_lists [] (y ∷ others) long same = absurd (let wrong : ⊥ = cc in wrong)
same_lists (x ∷ ones) [] long same = absurd (let wrong : ⊥ = cc in wrong)
same_lists (x ∷ ones) (y ∷ others) long same =
    ap (λ z. z ∷ map living_value ones) (same 0 x y refl refl)
    ∙ ap (λ zs. living_value y ∷ zs) (same_lists ones others (omega (arith, long)) (λ i. same (suc i)))
