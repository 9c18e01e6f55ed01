-- When a statement matches a request: AWS IAM User Guide, "Policy evaluation logic" and "IAM JSON policy elements
-- reference". LOGIC 2.3, 2.4, 4.4 and 6.10.
use Rattle.std.specs.Prelude.{◌≡◌, ℕ, List, Option, Some, None, IsSome, ⊤, All, Any, MatchBool}
use Rattle.std.specs.Str.{chars}
use Rattle.iam_glob.specs.declared.sign.Sign.{Sign}
use Rattle.iam_glob.specs.Glob.{Matches, MatchesFold}
use Rattle.iam_text.specs.declared.draft.Piece.{Piece}
use Rattle.iam_element.specs.Reading.{ActionElement, ResourceElement}
use Rattle.iam_policy.specs.Reading.{StatementValue}
use Rattle.iam_context.specs.Context.{ContextValue}
use Rattle.iam_context.specs.Resolve.{resolved}
use Rattle.iam_match.specs.Entry.{EntryHolds}
use Rattle.iam_match.specs.Principal.{PrincipalMatches}
use Rattle.iam_context.specs.Requester.{RequesterValue}

-- who asks for which action on which resource, in which context
pub record RequestValue : Type 0 where
  pub requester : RequesterValue
  pub action : List ℕ
  pub resource : List ℕ
  pub context : ContextValue

-- `Action`: some pattern matches the action without regard to case; `NotAction`: none does
abbrev pub ActionMatches : ActionElement → List ℕ → Type 0
ActionMatches element action =
    let some_matches = Any (λ pattern. MatchesFold pattern (chars action)) element.patterns in
    MatchBool element.negated (¬ some_matches) some_matches

-- the text becomes a pattern that matches the resource
abbrev pub TextMatches : ContextValue → List ℕ → List Piece → Type 0
TextMatches context resource text = (signs : List Sign) × (resolved context text ≡ Some signs) × Matches signs (chars resource)

-- `Resource`: some text becomes a pattern and matches; `NotResource`: all do become patterns, and none matches. A
-- statement with neither is about the resource that its policy is attached to
abbrev pub ResourceMatches : Option ResourceElement → List ℕ → ContextValue → Type 0
ResourceMatches None resource context = ⊤
ResourceMatches (Some element) resource context =
    let some_matches = Any (TextMatches context resource) element.texts in
    MatchBool element.negated (All (λ text. IsSome (resolved context text)) element.texts × ¬ some_matches) some_matches

-- who asks for which resource, in which context: a request without its action
pub record AccessValue : Type 0 where
  pub requester : RequesterValue
  pub resource : List ℕ
  pub context : ContextValue

abbrev pub access_in : RequestValue → AccessValue
access_in request = record { requester = request.requester; resource = request.resource; context = request.context }

-- the request for this action
abbrev pub request_for : AccessValue → List ℕ → RequestValue
request_for access action = record {
  requester = access.requester;
  action = action;
  resource = access.resource;
  context = access.context;
}

-- all elements of a statement but its action element match: none of them sees the action
pub record RestMatches (s : StatementValue) (access : AccessValue) : Type 0 where
  pub principal : PrincipalMatches s.principal access.requester
  pub resource : ResourceMatches s.resource access.resource access.context
  pub conditions : All (EntryHolds access.context) s.conditions

-- a statement matches a request where each of its elements does
pub record StatementMatches (s : StatementValue) (request : RequestValue) : Type 0 where
  pub action : ActionMatches s.action request.action
  pub rest : RestMatches s (access_in request)
