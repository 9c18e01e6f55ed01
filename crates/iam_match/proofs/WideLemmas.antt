-- What an element matches in some context matches its patterns with `*` in place of the variables.
use Rattle.std.proofs.Common.{◌≡◌, ℕ, List, [], ◌∷◌, ◌++◌, append_assoc, append-nil, All, Bool, false, MatchBool, Option, Some, None, IsSome, option_map, map, refl, sym, ap, ◌∙◌, subst}
use Rattle.std.specs.List.{AllZip, Any, concat}
use Rattle.std.specs.Option.{option_and_then}
use Rattle.std.specs.Str.{chars}
use Rattle.iam_glob.specs.Glob.{Fits, Matches}
use Rattle.iam_glob.specs.declared.sign.Sign.{Sign}
use Rattle.iam_text.specs.declared.draft.Piece.{Piece}
use Rattle.iam_text.specs.declared.draft.Piece.TheVariants.{Plain, Escaped, Variable}
use Rattle.iam_element.specs.Reading.{ResourceElement}
use Rattle.iam_context.specs.Context.{ContextValue}
use Rattle.iam_context.specs.Resolve.{piece_signs, resolved}
use Rattle.iam_context.specs.Wide.{wide_of, wide_sign}
use Rattle.iam_match.specs.Statement.{TextMatches}
use Rattle.iam_match.specs.Wide.{Covers}
use Rattle.iam_match.proofs.FixedLemmas.{same_some, some_mapped}

-- a match of some signs before others
split_match : (first more : List Sign) (text : List ℕ) (parts : List (List ℕ)) → AllZip Fits (first ++ more) parts → concat parts ≡ text
    → (front : List ℕ) × (rest : List ℕ) × Matches first front × Matches more rest × (front ++ rest ≡ text)
split_match [] more text parts fits joined = ([], text, ([], tt, refl), (parts, fits, joined), refl)
split_match (sign ∷ first) more text [] fits joined = absurd fits
split_match (sign ∷ first) more text (part ∷ parts) fits joined =
    let (front, rest, (fronts, zip, is), behind, both) = split_match first more (concat parts) parts fits.1 refl in (
      part ++ front,
      rest,
      (part ∷ fronts, (fits.0, zip), ap (λ t. part ++ t) is),
      behind,
      append_assoc part front rest ∙ ap (λ t. part ++ t) both ∙ joined,
    )

-- the signs of a piece before those of others
parted : (found rest : Option (List Sign)) (signs : List Sign)
    → option_and_then (λ (first : List Sign). option_map (λ (more : List Sign). first ++ more) rest) found ≡ Some signs
    → (first : List Sign) × (more : List Sign) × (found ≡ Some first) × (rest ≡ Some more) × (first ++ more ≡ signs)
parted None rest signs is = cc
parted (Some first) None signs is = cc
parted (Some first) (Some more) signs is = (first, more, refl, refl, same_some (first ++ more) signs is)

one_fits : (sign : Sign) (text : List ℕ) (parts : List (List ℕ)) → AllZip Fits (sign ∷ []) parts → concat parts ≡ text → Fits sign text
one_fits sign text [] fits joined = absurd fits
one_fits sign text (part ∷ []) fits joined = subst (Fits sign) (sym (append-nil part) ∙ joined) fits.0
one_fits sign text (part ∷ next ∷ parts) fits joined = absurd fits.1

-- what the signs of a piece match, its one sign fits
piece_fits : (context : ContextValue) (piece : Piece) (signs : List Sign) (text : List ℕ) → piece_signs context piece ≡ Some signs
    → Matches signs text → Fits (wide_sign piece) text
piece_fits context (Plain sign) signs text is matched =
    let (parts, fits, joined) = subst (λ (ss : List Sign). Matches ss text) (sym (same_some (sign ∷ []) signs is)) matched in
    one_fits sign text parts fits joined
piece_fits context (Escaped c) signs text is matched = tt
piece_fits context (Variable key default) signs text is matched = tt

wide_matches : (context : ContextValue) (pieces : List Piece) (signs : List Sign) (text : List ℕ) → resolved context pieces ≡ Some signs
    → Matches signs text → Matches (wide_of pieces) text
wide_matches context [] signs text is matched = subst (λ (ss : List Sign). Matches ss text) (sym (same_some [] signs is)) matched
wide_matches context (piece ∷ pieces) signs text is matched =
    let (first, more, here, there, all) = parted (piece_signs context piece) (resolved context pieces) signs is in
    let (parts, fits, joined) = subst (λ (ss : List Sign). Matches ss text) (sym all) matched in
    let (front, rest, fronted, behind, both) = split_match first more text parts fits joined in
    let (others, zip, last) = wide_matches context pieces more rest there behind in
    (front ∷ others, (piece_fits context piece first front here fronted, zip), ap (λ t. front ++ t) last ∙ both)

-- an element that is not negated
pub covers : (element : ResourceElement) (patterns : List (List Sign)) → element.negated ≡ false → patterns ≡ map wide_of element.texts
    → Covers patterns element
covers element patterns plain is = λ resource context matched.
    let some = Any (TextMatches context resource) element.texts in
    let all = All (λ text. IsSome (resolved context text)) element.texts in
    let matches : some = subst (λ (negated : Bool). MatchBool negated (all × ¬ some) some) plain matched in
    let P : List Sign → Type 0 = λ pattern. Matches pattern (chars resource) in
    subst (λ (ps : List (List Sign)). Any P ps) (sym is)
    (some_mapped wide_of (TextMatches context resource) P (λ text one. wide_matches context text one.0 (chars resource) one.1 one.2) element.texts matches)
