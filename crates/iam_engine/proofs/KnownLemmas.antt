-- Resource elements without variables, whoever asks.
use mathlib.Core.Bool.{beq}
use Rattle.std.proofs.Common.{◌≡◌, ◌↔◌, ℕ, ◌+◌, ◌<◌, ◌≤◌, List, [], ◌∷◌, ◌++◌, All, Any, Bool, true, false, not, MatchBool, Some, IsSome, IsTrue, get_or, length, take, refl, sym, ap, subst, ◌∙◌, option_map}
use Rattle.std.proofs.lemmas.List.{take_all}
use Rattle.std.proofs.lemmas.List.Elements.{All-more}
use Rattle.std.specs.Str.{chars}
use Rattle.iam_text.specs.Draft.{plain_draft}
use Rattle.iam_glob.specs.Glob.{Matches}
use Rattle.iam_text.specs.declared.draft.Piece.{Piece}
use Rattle.iam_glob.specs.declared.sign.Sign.{Sign}
use Rattle.iam_context.specs.Context.{ContextValue}
use Rattle.iam_context.specs.Resolve.{resolved}
use Rattle.iam_element.specs.Reading.{ResourceElement}
use Rattle.iam_match.specs.Statement.{ResourceMatches, TextMatches}
use Rattle.iam_engine.specs.Known.{TellsOfText, TellsOfTexts}

-- a text without variables becomes its pattern
plain_resolved : (context : ContextValue) (signs : List Sign) → resolved context (plain_draft signs) ≡ Some signs
plain_resolved context [] = refl
plain_resolved context (sign ∷ signs) = ap (λ rest. option_map (λ more. (sign ∷ []) ++ more) rest) (plain_resolved context signs)

same_some : {X : Type 0} (x y : X) → Some x ≡ Some y → x ≡ y
same_some x y e = cc

-- what its pattern matches, the text does
pub pattern_tells : (context : ContextValue) (resource : List ℕ) (signs : List Sign) (text : List Piece) (matched : Bool) → text ≡ plain_draft signs
    → IsTrue matched ↔ Matches signs (chars resource) → TellsOfText context resource text matched
pattern_tells context resource signs text matched is agrees =
    let plain = plain_resolved context signs in
    let T : List Piece → Type 0 = λ t. TellsOfText context resource t matched in
    let M : List Sign → Type 0 = λ s. Matches s (chars resource) in
    subst T (sym is) (
      subst IsSome (sym plain) refl,
      ((λ t. (signs, plain, agrees.0 t)), (λ (found, same, matches). agrees.1 (subst M (sym (same_some signs found (sym plain ∙ same))) matches))),
    )

-- the text becomes a pattern, which does not match the resource
abbrev pub Differs : ContextValue → List ℕ → List Piece → Type 0
Differs context resource text = IsSome (resolved context text) × ¬ TextMatches context resource text

-- one text more, and all of them
pub one_more : {X : Type 0} (P : X → Type 0) (xs : List X) (i : ℕ) (x : X) → i < length xs → x ≡ get_or xs i x → All P (take i xs) → P x
    → All P (take (i + 1) xs)
one_more P xs i x below is all p = All-more P xs i x below all (subst P is p)

none_any : {X : Type 0} (P : X → Type 0) (xs : List X) → All (λ x. ¬ P x) xs → ¬ Any P xs
none_any P xs none (k, x, below, at, p) = none k x below (subst P (sym at) p)

pub all_differ : (context : ContextValue) (resource : List ℕ) (texts : List (List Piece)) (i : ℕ) → length texts ≤ i
    → All (Differs context resource) (take i texts) → TellsOfTexts context resource texts false
all_differ context resource texts i past differ =
    let all = subst (λ (ts : List (List Piece)). All (Differs context resource) ts) (take_all i texts past) differ in
    ((λ k d below. (all k d below).0), none_any (TextMatches context resource) texts (λ k d below. (all k d below).1))

-- what is told of the texts tells of the element
told : (negated some : Bool) (S R : Type 0) → MatchBool some S (R × ¬ S) → IsTrue (not (beq negated some)) ↔ MatchBool negated (R × ¬ S) S
told true true S R holds = ((λ t. absurd (let wrong : ⊥ = cc in wrong)), (λ both. absurd (both.1 holds)))
told true false S R both = ((λ t. both), (λ b. refl))
told false true S R holds = ((λ t. holds), (λ s. refl))
told false false S R both = ((λ t. absurd (let wrong : ⊥ = cc in wrong)), (λ s. absurd (both.1 s)))

pub element_told : (context : ContextValue) (resource : List ℕ) (element : ResourceElement) (negated some : Bool) (texts : List (List Piece))
    → negated ≡ element.negated → texts ≡ element.texts → TellsOfTexts context resource texts some
    → IsTrue (not (beq negated some)) ↔ ResourceMatches (Some element) resource context
element_told context resource element negated some texts is same tells =
    let N : Bool → Type 0 = λ b. IsTrue (not (beq b some)) ↔ ResourceMatches (Some element) resource context in
    let T : List (List Piece) → Type 0 = λ ts. TellsOfTexts context resource ts some in
    subst N (sym is)
    (
    told element.negated some (Any (TextMatches context resource) element.texts) (All (λ text. IsSome (resolved context text)) element.texts)
    (subst T same tells)
    )
