-- The letters that are tried stand for all.
use Rattle.std.proofs.Common.{◌≡◌, ◌↔◌, ◌⊎◌, inl, inr, ℕ, Bool, true, false, ◌==◌, List, refl, sym, subst, is_some}
use Rattle.std.specs.Char.{IsScalar}
use Rattle.std.specs.List.{Contains}
use Rattle.std.proofs.lemmas.Bool.{eqb-true}
use Rattle.iam_kinds.specs.Code.{SameElements, next_stage}
use Rattle.iam_kinds.specs.Letters.{HasFree, Stands, is_other, is_waited}
use Rattle.iam_kinds.specs.declared.grammar.Stage.{Stage}
use Rattle.iam_kinds.proofs.Members.{In, of_in, from_any}

pub stands : (stage : Stage) (waited : List ℕ) (tails : List (List ℕ)) (first new letters : List ℕ) → first ≡ waited
    → ((c : ℕ) → Contains first c → Contains new c)
    → ((c : ℕ) → IsScalar c → is_other stage waited c ≡ true → Contains new c ⊎ HasFree stage waited tails new)
    → SameElements letters new → (c : ℕ) → IsScalar c → is_some (next_stage stage c) ≡ true → Stands stage waited tails letters c
stands stage waited tails first new letters same kept others sorted c scalar goes = by_test stage waited tails first new letters same kept others sorted c scalar goes (is_waited waited c) refl
  where
    by_test : (stage : Stage) (waited : List ℕ) (tails : List (List ℕ)) (first new letters : List ℕ) → first ≡ waited
        → ((c : ℕ) → Contains first c → Contains new c)
        → ((c : ℕ) → IsScalar c → is_other stage waited c ≡ true → Contains new c ⊎ HasFree stage waited tails new)
        → SameElements letters new → (c : ℕ) → IsScalar c → is_some (next_stage stage c) ≡ true
        → (b : Bool) → is_waited waited c ≡ b → Stands stage waited tails letters c
    by_test stage waited tails first new letters same kept others sorted c scalar goes true e =
        let r = from_any (λ d. d == c) waited e in
        let here : Contains waited c = of_in waited c (subst (λ d. In d waited) (eqb-true r.0 c r.2) r.1) in
        inl ((sorted c).1 (kept c (subst (λ (l : List ℕ). Contains l c) (sym same) here)))
    by_test stage waited tails first new letters same kept others sorted c scalar goes false e =
        let other : is_other stage waited c ≡ true = rw (goes, e) refl in
        elim (others c scalar other) [
          | inl h ↦ inl ((sorted c).1 h)
          | inr free ↦ inr (e, (free.0, (sorted free.0).1 free.1, free.2))
        ]

pub sorted_exact : (added : ℕ → Type 0) (waited first new letters : List ℕ) → first ≡ waited
    → ((c : ℕ) → Contains new c ↔ (Contains first c ⊎ added c))
    → SameElements letters new → (c : ℕ) → Contains letters c ↔ (Contains waited c ⊎ added c)
sorted_exact added waited first new letters same exact sorted c = (
  λ h. elim ((exact c).0 ((sorted c).0 h)) [
    | inl w ↦ inl (subst (λ (l : List ℕ). Contains l c) same w)
    | inr a ↦ inr a
  ],
  λ h. (sorted c).1 ((exact c).1 (elim h [
    | inl w ↦ inl (subst (λ (l : List ℕ). Contains l c) (sym same) w)
    | inr a ↦ inr a
  ])),
)
