-- Matches, character by character; and whether a pattern matches a text is known.
use Rattle.std.proofs.Common.{◌≡◌, ◌⊎◌, inl, inr, ℕ, Bool, true, false, eqb, List, [], ◌∷◌, ◌++◌, ap, arith, map, refl, subst}
use Rattle.std.proofs.lemmas.Bool.{eq-eqb, eqb-true}
use Rattle.std.specs.List.{concat}
use Rattle.iam_glob.specs.Glob.{Matches, MatchesFold, folded, sign_by}
use Rattle.iam_glob.specs.declared.sign.Sign.{Sign}
use Rattle.iam_glob.specs.declared.sign.Sign.TheVariants.{Any, Given, One}

abbrev IsKnown : List Sign → List ℕ → Type 0
IsKnown signs text = Matches signs text ⊎ ¬ Matches signs text

no_signs : (c : ℕ) (text : List ℕ) → ¬ Matches [] (c ∷ text)
no_signs c text ([], fits, e) = cc
no_signs c text (part ∷ parts, fits, e) = absurd fits

pub given_on : (c : ℕ) (signs : List Sign) (text : List ℕ) → Matches signs text → Matches (Given c ∷ signs) (c ∷ text)
given_on c signs text (parts, fit, e) = ((c ∷ []) ∷ parts, (refl, fit), ap (λ t. c ∷ t) e)

pub given_off : (d : ℕ) (signs : List Sign) (c : ℕ) (text : List ℕ) → Matches (Given d ∷ signs) (c ∷ text) → (d ≡ c) × Matches signs text
given_off d signs c text ([], fits, e) = absurd fits
given_off d signs c text (part ∷ parts, fits, e) =
    let own : part ≡ d ∷ [] = fits.0 in
    let whole : d ∷ concat parts ≡ c ∷ text = rw own at e in
    ((let same : d ≡ c = cc in same), (parts, fits.1, (let rest : concat parts ≡ text = cc in rest)))

pub given_none : (d : ℕ) (signs : List Sign) → ¬ Matches (Given d ∷ signs) []
given_none d signs ([], fits, e) = absurd fits
given_none d signs (part ∷ parts, fits, e) =
    let own : part ≡ d ∷ [] = fits.0 in
    let whole : d ∷ concat parts ≡ [] = rw own at e in cc

pub one_on : (signs : List Sign) (c : ℕ) (text : List ℕ) → Matches signs text → Matches (One ∷ signs) (c ∷ text)
one_on signs c text (parts, fit, e) = ((c ∷ []) ∷ parts, (refl, fit), ap (λ t. c ∷ t) e)

pub one_off : (signs : List Sign) (c : ℕ) (text : List ℕ) → Matches (One ∷ signs) (c ∷ text) → Matches signs text
one_off signs c text ([], fits, e) = absurd fits
one_off signs c text ([] ∷ parts, fits, e) = absurd (omega (arith, fits.0))
one_off signs c text ((x ∷ y ∷ part) ∷ parts, fits, e) = absurd (omega (arith, fits.0))
one_off signs c text ((x ∷ []) ∷ parts, fits, e) = (parts, fits.1, (let rest : concat parts ≡ text = cc in rest))

pub one_none : (signs : List Sign) → ¬ Matches (One ∷ signs) []
one_none signs ([], fits, e) = absurd fits
one_none signs ([] ∷ parts, fits, e) = omega (arith, fits.0)
one_none signs ((x ∷ part) ∷ parts, fits, e) = cc

pub any_skip : (signs : List Sign) (text : List ℕ) → Matches signs text → Matches (Any ∷ signs) text
any_skip signs text (parts, fit, e) = ([] ∷ parts, (tt, fit), e)

pub any_on : (signs : List Sign) (c : ℕ) (text : List ℕ) → Matches (Any ∷ signs) text → Matches (Any ∷ signs) (c ∷ text)
any_on signs c text ([], fits, e) = absurd fits
any_on signs c text (part ∷ parts, fits, e) = ((c ∷ part) ∷ parts, fits, ap (λ t. c ∷ t) e)

any_off : (signs : List Sign) (c : ℕ) (text : List ℕ) → Matches (Any ∷ signs) (c ∷ text) → Matches signs (c ∷ text) ⊎ Matches (Any ∷ signs) text
any_off signs c text ([], fits, e) = absurd fits
any_off signs c text ([] ∷ parts, fits, e) = inl (parts, fits.1, e)
any_off signs c text ((x ∷ part) ∷ parts, fits, e) = inr (part ∷ parts, fits, (let rest : part ++ concat parts ≡ text = cc in rest))

any_end : (signs : List Sign) → Matches (Any ∷ signs) [] → Matches signs []
any_end signs ([], fits, e) = absurd fits
any_end signs ([] ∷ parts, fits, e) = (parts, fits.1, e)
any_end signs ((x ∷ part) ∷ parts, fits, e) = absurd (cc)

any_known : (signs : List Sign) → ((text : List ℕ) → IsKnown signs text) → (text : List ℕ) → IsKnown (Any ∷ signs) text
any_known signs known [] = elim (known []) [
  | inl m ↦ inl (any_skip signs [] m)
  | inr never ↦ inr (λ m. never (any_end signs m))
]
any_known signs known (c ∷ text) = elim (known (c ∷ text)) [
  | inl m ↦ inl (any_skip signs (c ∷ text) m)
  | inr never ↦ elim (any_known signs known text) [
    | inl m ↦ inl (any_on signs c text m)
    | inr unlike ↦ inr (λ m. elim (any_off signs c text m) [ inl at ↦ never at | inr behind ↦ unlike behind ])
  ]
]

one_known : (signs : List Sign) → ((text : List ℕ) → IsKnown signs text) → (text : List ℕ) → IsKnown (One ∷ signs) text
one_known signs known [] = inr (one_none signs)
one_known signs known (c ∷ text) = elim (known text) [
  | inl m ↦ inl (one_on signs c text m)
  | inr never ↦ inr (λ m. never (one_off signs c text m))
]

given_known : (d : ℕ) (signs : List Sign) → ((text : List ℕ) → IsKnown signs text) → (text : List ℕ) → IsKnown (Given d ∷ signs) text
given_known d signs known [] = inr (given_none d signs)
given_known d signs known (c ∷ text) = elim (known text) [
  | inl m ↦ by_test (eqb d c) refl m
  | inr never ↦ inr (λ m. never (given_off d signs c text m).1)
]
  where
    by_test : (b : Bool) → eqb d c ≡ b → Matches signs text → IsKnown (Given d ∷ signs) (c ∷ text)
    by_test true is m =
        let same : d ≡ c = eqb-true d c is in
        inl (subst (λ (x : ℕ). Matches (Given d ∷ signs) (x ∷ text)) same (given_on d signs text m))
    by_test false is m =
        inr (λ m. let same : eqb d c ≡ true = eq-eqb d c (given_off d signs c text m).0 in cc)

known : (signs : List Sign) (text : List ℕ) → IsKnown signs text
known [] [] = inl ([], tt, refl)
known [] (c ∷ text) = inr (no_signs c text)
known (Given d ∷ signs) text = given_known d signs (known signs) text
known (One ∷ signs) text = one_known signs (known signs) text
known (Any ∷ signs) text = any_known signs (known signs) text

pub known_fold : (signs : List Sign) (text : List ℕ) → MatchesFold signs text ⊎ ¬ MatchesFold signs text
known_fold signs text = known (map (sign_by folded) signs) (map folded text)
