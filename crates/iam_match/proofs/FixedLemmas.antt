-- A resource element without variables, in whatever context.
use mathlib.Core.Bool.{beq}
use Rattle.std.proofs.Common.{◌≡◌, ◌↔◌, ◌∙◌, ℕ, zero, suc, ◌<◌, List, [], ◌∷◌, All, Bool, true, false, not, MatchBool, Some, IsSome, IsTrue, arith, length, map, get_or, refl, sym, subst}
use Rattle.std.proofs.lemmas.List.Elements.{All-map}
use Rattle.std.specs.List.{Any}
use Rattle.std.specs.Str.{chars}
use Rattle.iam_glob.specs.declared.sign.Sign.{Sign}
use Rattle.iam_text.specs.Draft.{plain_draft}
use Rattle.iam_glob.specs.Glob.{Matches}
use Rattle.iam_context.specs.Context.{ContextValue}
use Rattle.iam_context.specs.Resolve.{resolved}
use Rattle.iam_match.specs.Statement.{ResourceMatches, TextMatches}
use Rattle.iam_match.proofs.StatementLemmas.{plain_resolved}

-- some of the elements that f makes of others, and some of those others
pub some_mapped : {X Y : Type 0} (f : X → Y) (P : X → Type 0) (Q : Y → Type 0) → ((x : X) → P x → Q (f x)) → (xs : List X)
    → Any P xs → Any Q (map f xs)
some_mapped f P Q on [] (k, x, below, at, p) = absurd (omega arith)
some_mapped f P Q on (y ∷ xs) (zero, x, below, at, p) = (0, f y, omega arith, refl, on y (subst P (sym at) p))
some_mapped f P Q on (y ∷ xs) (suc k, x, below, at, p) =
    let rest = some_mapped f P Q on xs (k, x, (let b : k < length xs = omega arith in b), at, p) in
    (suc rest.0, rest.1, (let b : rest.0 < length (map f xs) = rest.2 in omega arith), rest.3, rest.4)

pub some_before : {X Y : Type 0} (f : X → Y) (P : X → Type 0) (Q : Y → Type 0) → ((x : X) → Q (f x) → P x) → (xs : List X)
    → Any Q (map f xs) → Any P xs
some_before f P Q on [] (k, y, below, at, q) = absurd (omega arith)
some_before f P Q on (x ∷ xs) (zero, y, below, at, q) = (0, x, omega arith, refl, on x (subst Q (sym at) q))
some_before f P Q on (x ∷ xs) (suc k, y, below, at, q) =
    let rest = some_before f P Q on xs (k, y, (let b : k < length (map f xs) = omega arith in b), at, q) in
    (suc rest.0, rest.1, (let b : rest.0 < length xs = rest.2 in omega arith), rest.3, rest.4)

pub same_some : {X : Type 0} (x y : X) → Some x ≡ Some y → x ≡ y
same_some x y e = cc

-- some pattern matches
abbrev pub SomeMatches : List (List Sign) → List ℕ → Type 0
SomeMatches patterns resource = Any (λ pattern. Matches pattern (chars resource)) patterns

-- a text without variables matches where its pattern does
pub text_matched : (context : ContextValue) (resource : List ℕ) (signs : List Sign)
    → Matches signs (chars resource) → TextMatches context resource (plain_draft signs)
text_matched context resource signs matches = (signs, plain_resolved context signs, matches)

pub pattern_matched : (context : ContextValue) (resource : List ℕ) (signs : List Sign)
    → TextMatches context resource (plain_draft signs) → Matches signs (chars resource)
pattern_matched context resource signs (found, is, matches) =
    subst (λ (s : List Sign). Matches s (chars resource)) (sym (same_some signs found (sym (plain_resolved context signs) ∙ is))) matches

pub some_texts_match : (context : ContextValue) (resource : List ℕ) (patterns : List (List Sign))
    → SomeMatches patterns resource ↔ Any (TextMatches context resource) (map plain_draft patterns)
some_texts_match context resource patterns = (
  some_mapped plain_draft (λ pattern. Matches pattern (chars resource)) (TextMatches context resource) (text_matched context resource) patterns,
  some_before plain_draft (λ pattern. Matches pattern (chars resource)) (TextMatches context resource) (pattern_matched context resource) patterns,
)

pub all_resolved : (context : ContextValue) (patterns : List (List Sign))
    → All (λ text. IsSome (resolved context text)) (map plain_draft patterns)
all_resolved context patterns =
    All-map (λ text. IsSome (resolved context text)) plain_draft patterns
    (λ k d below. subst IsSome (sym (plain_resolved context (get_or patterns k d))) refl)

-- an element without variables matches where some of its patterns does, or where none does if it is negated
pub fixed_matches : (context : ContextValue) (resource : List ℕ) (negated : Bool) (patterns : List (List Sign))
    → MatchBool negated (¬ SomeMatches patterns resource) (SomeMatches patterns resource)
    ↔ ResourceMatches (Some (record { negated = negated; texts = map plain_draft patterns })) resource context
fixed_matches context resource true patterns =
    let some = some_texts_match context resource patterns in
    (λ none. (all_resolved context patterns, λ texts. none (some.1 texts)), λ both matched. both.1 (some.0 matched))
fixed_matches context resource false patterns = some_texts_match context resource patterns

-- P or its contrary, by whether it is negated
pub told : (negated holds : Bool) (P : Type 0) → IsTrue holds ↔ P → IsTrue (not (beq negated holds)) ↔ MatchBool negated (¬ P) P
told true true P agrees = (λ t. absurd (let wrong : ⊥ = cc in wrong), λ none. absurd (none (agrees.0 refl)))
told true false P agrees = (λ t p. let holds = agrees.1 p in let wrong : ⊥ = cc in wrong, λ none. refl)
told false true P agrees = (λ t. agrees.0 refl, λ p. refl)
told false false P agrees = (λ t. absurd (let wrong : ⊥ = cc in wrong), λ p. agrees.1 p)

pub fixed_answer : (context : ContextValue) (resource : List ℕ) (negated matched : Bool) (patterns : List (List Sign))
    → IsTrue matched ↔ SomeMatches patterns resource
    → IsTrue (not (beq negated matched)) ↔ ResourceMatches (Some (record { negated = negated; texts = map plain_draft patterns })) resource context
fixed_answer context resource negated matched patterns agrees =
    let says = told negated matched (SomeMatches patterns resource) agrees in
    let means = fixed_matches context resource negated patterns in
    (λ t. means.0 (says.0 t), λ matches. says.1 (means.1 matches))
