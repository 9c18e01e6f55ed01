use Rattle.std.proofs.Common.{◌≡◌, ◌⊎◌, inl, inr, ◌↔◌, ◌∷◌, [], ◌||◌, Bool, true, false, Bor, List, ℕ, Contains, map, refl, sym, ap, subst, ◌∙◌}
use Rattle.std.proofs.lemmas.Slice.Eq.{bytes_eq-Decides}
use Rattle.std.specs.List.{list_any}
use Rattle.std.specs.Str.{bytes_eq}
use Rattle.iam_every.proofs.ListLemmas.{behind, first_or, here, none}
use Rattle.iam_every.proofs.given.is_among.Goals as goal

either : (one other : Bool) → (one || other) ≡ true → (one ≡ true) ⊎ (other ≡ true)
either true other h = inl refl
either false other h = inr h

left : (one other : Bool) → one ≡ true → (one || other) ≡ true
left one other h = ap (λ b. b || other) h

right : (one other : Bool) → other ≡ true → (one || other) ≡ true
right true other h = refl
right false other h = h

abbrev texts : List (Bor (List ℕ)) → List (List ℕ)
texts names = map (λ name. name.now) names

found : (names : List (Bor (List ℕ))) (text : List ℕ) → list_any (λ name. bytes_eq name.now text) names ≡ true ↔ Contains (texts names) text
found [] text = (λ h. absurd (let wrong : ⊥ = cc in wrong), λ in'. absurd (none text in'))
found (name ∷ names) text =
    let here_or = bytes_eq name.now text in
    let later = list_any (λ (x : Bor (List ℕ)). bytes_eq x.now text) names in
    let same = bytes_eq-Decides name.now text in
    let rest = found names text in (
      λ h. elim (either here_or later h) [
        | inl first ↦ subst (λ (x : List ℕ). Contains (name.now ∷ texts names) x) (same.0 first) (here name.now (texts names))
        | inr further ↦ behind name.now text (texts names) (rest.0 further)
      ],
      λ in'. elim (first_or name.now text (texts names) in') [
        | inl first ↦ left here_or later (same.1 first)
        | inr further ↦ right here_or later (rest.1 further)
      ],
    )

pub returns : goal.returns
returns c =
    let both = found c.args.names.now c.args.text.now in
    (λ yes. both.0 (sym c.contains.ensures.value ∙ yes), λ in'. c.contains.ensures.value ∙ both.1 in')
