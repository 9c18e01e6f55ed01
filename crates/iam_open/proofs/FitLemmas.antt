-- Texts of a resource element, in contexts that agree on what is known.
use Rattle.std.proofs.Common.{◌≡◌, ◌↔◌, ◌∙◌, inl, inr, ℕ, List, [], ◌∷◌, Bool, true, false, not, Option, None, Some, IsSome, IsTrue, All, Any, MatchBool, ap, arith, refl, subst, sym}
use Rattle.std.specs.Str.{chars}
use Rattle.iam_context.specs.Context.{ContextValue}
use Rattle.iam_context.specs.Resolve.{resolved}
use Rattle.iam_context.specs.Wide.{wide_of}
use Rattle.iam_element.specs.Reading.{ResourceElement}
use Rattle.iam_glob.specs.Glob.{Matches}
use Rattle.iam_glob.specs.declared.sign.Sign.{Sign}
use Rattle.iam_match.specs.Code.Compared.{TextDiffers}
use Rattle.iam_match.specs.Statement.{ResourceMatches, TextMatches}
use Rattle.iam_match.proofs.StatementLemmas.{all_but}
use Rattle.iam_match.proofs.WideLemmas.{covers}
use Rattle.iam_open.specs.Code.Known.{AgreeOn, text_beyond}
use Rattle.iam_open.proofs.AgreeLemmas.{resolved_same}
use Rattle.iam_open.proofs.ListLemmas.{none_of_none, some_cases}
use Rattle.iam_text.specs.declared.draft.Piece.{Piece}

same_signs : (signs others : List Sign) → Some signs ≡ Some others → signs ≡ others
same_signs signs others e = cc

-- a text that becomes this pattern
pub fits : (context : ContextValue) (text : List Piece) (resource : List ℕ) (signs : List Sign) (matched : Bool) → resolved context text ≡ Some signs
    → IsTrue matched ↔ Matches signs (chars resource)
    → IsSome (resolved context text) × (IsTrue matched ↔ TextMatches context resource text)
fits context text resource signs matched is agrees = (
  subst IsSome (sym is) refl,
  (
    λ yes. (signs, is, agrees.0 yes),
    λ m. agrees.1 (subst (λ s. Matches s (chars resource)) (sym (same_signs signs m.0 (sym is ∙ m.1))) m.2),
  ),
)

-- what its pattern with `*` for its variables does not match, the text matches in no context
pub never_matches : (text : List Piece) (resource : List ℕ) (signs : List Sign) (matched : Bool) → signs ≡ wide_of text
    → IsTrue matched ↔ Matches signs (chars resource) → matched ≡ false → (other : ContextValue) → ¬ TextMatches other resource text
never_matches text resource signs matched is agrees differs other matches =
    let element : ResourceElement = record { negated = false; texts = text ∷ [] } in
    let P : List Sign → Type 0 = λ pattern. Matches pattern (chars resource) in
    let all = covers element (signs ∷ []) refl (ap (λ (s : List Sign). s ∷ []) is) in
    let some : Any P (signs ∷ []) = all resource other (0, text, omega arith, refl, matches) in
    let held : P signs = elim (some_cases P signs [] some) [ inl p ↦ p | inr none ↦ absurd (none_of_none P none) ] in
    let wrong = agrees.1 held in let bad : ⊥ = cc in bad

-- what asks for known keys alone matches in each of the contexts or in none, and so it differs
pub matches_same : (known : List (List ℕ)) (one other : ContextValue) (resource : List ℕ) (text : List Piece) → AgreeOn known one other
    → text_beyond known text ≡ false → TextMatches one resource text ↔ TextMatches other resource text
matches_same known one other resource text agree free =
    let same = resolved_same known one other agree text free in (
      λ (signs, is, matches). (signs, sym same ∙ is, matches),
      λ (signs, is, matches). (signs, same ∙ is, matches),
    )

pub differs_same : (known : List (List ℕ)) (one other : ContextValue) (resource : List ℕ) (text : List Piece) → AgreeOn known one other
    → text_beyond known text ≡ false → TextDiffers one resource text ↔ TextDiffers other resource text
differs_same known one other resource text agree free =
    let same = resolved_same known one other agree text free in
    let matches = matches_same known one other resource text agree free in (
      λ (some, unlike). (subst (λ (o : Option (List Sign)). IsSome o) same some, λ m. unlike (matches.1 m)),
      λ (some, unlike). (subst (λ (o : Option (List Sign)). IsSome o) (sym same) some, λ m. unlike (matches.0 m)),
    )

-- a text that becomes no pattern neither matches nor differs
pub none_matches : (context : ContextValue) (resource : List ℕ) (text : List Piece) → resolved context text ≡ None → ¬ TextMatches context resource text
none_matches context resource text none (signs, is, matches) = let wrong : None ≡ Some signs = sym none ∙ is in cc

pub none_differs : (context : ContextValue) (resource : List ℕ) (text : List Piece) → resolved context text ≡ None → ¬ TextDiffers context resource text
none_differs context resource text none (some, unlike) =
    let wrong : IsSome {T = List Sign} None = subst IsSome none some in cc

-- an element, by its texts
pub plain_same : (element : ResourceElement) (resource : List ℕ) (context : ContextValue) → element.negated ≡ false
    → Any (TextMatches context resource) element.texts ↔ ResourceMatches (Some element) resource context
plain_same element resource context plain =
    let some = Any (TextMatches context resource) element.texts in
    let all = All (λ text. IsSome (resolved context text)) element.texts in (
      λ m. subst (λ (n : Bool). MatchBool n (all × ¬ some) some) (sym plain) m,
      λ m. subst (λ (n : Bool). MatchBool n (all × ¬ some) some) plain m,
    )

pub negated_same : (element : ResourceElement) (resource : List ℕ) (context : ContextValue) → element.negated ≡ true
    → All (TextDiffers context resource) element.texts ↔ ResourceMatches (Some element) resource context
negated_same element resource context negated =
    let some = Any (TextMatches context resource) element.texts in
    let all = All (λ text. IsSome (resolved context text)) element.texts in
    let both = all_but (λ text. IsSome (resolved context text)) (TextMatches context resource) element.texts in (
      λ m. subst (λ (n : Bool). MatchBool n (all × ¬ some) some) (sym negated) (both.0 m),
      λ m. both.1 (subst (λ (n : Bool). MatchBool n (all × ¬ some) some) negated m),
    )

-- a text that becomes a pattern, which matches or does not
pub fit_differs : (context : ContextValue) (resource : List ℕ) (text : List Piece) (matched : Bool)
    → IsSome (resolved context text) × (IsTrue matched ↔ TextMatches context resource text) → IsTrue (not matched) ↔ TextDiffers context resource text
fit_differs context resource text true told = (
  λ t. absurd (let wrong : ⊥ = cc in wrong),
  λ differs. absurd (differs.1 (told.1.0 refl)),
)
fit_differs context resource text false told = (
  λ t. (told.0, λ m. let held = told.1.1 m in let wrong : ⊥ = cc in wrong),
  λ differs. refl,
)
