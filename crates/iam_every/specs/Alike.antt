-- Texts of resources that a decision does not tell apart: AWS IAM User Guide, "IAM JSON policy elements: Resource" and "NotResource".
-- LOGIC 11.2.
use Rattle.std.specs.Prelude.{◌≡◌, ◌↔◌, ℕ, List, Bool, true, false, Some, All}
use Rattle.std.specs.List.{Any}
use Rattle.iam_context.specs.Context.{ContextValue}
use Rattle.iam_element.specs.Reading.{ResourceElement}
use Rattle.iam_policy.specs.declared.effect.Effect.TheVariants.{Allow, Deny}
use Rattle.iam_match.specs.Entry.{EntryHolds}
use Rattle.iam_match.specs.Principal.{PrincipalMatches, grant_of}
use Rattle.iam_match.specs.Requester.{RequesterValue}
use Rattle.iam_match.specs.Statement.{AccessValue, ActionMatches, RequestValue, TextMatches, request_for}
use Rattle.iam_match.specs.declared.principal.Grant.{Grant}
use Rattle.iam_decision.specs.Applicable.{ApplicableValue}
use Rattle.iam_decision.specs.Decision.{IsDecision}
use Rattle.iam_decision.specs.Matched.{Placed, placed}
use Rattle.iam_decision.specs.declared.place.Layer.{Layer}
use Rattle.iam_decision.specs.declared.place.Layer.TheVariants.{Resource}
use Rattle.iam_decision.specs.declared.verdict.Decision.{Decision}

-- the request of the same requester in the same context, for this action on the resource of this text
abbrev pub request_on : AccessValue → List ℕ → List ℕ → RequestValue
request_on access action text = request_for (record access { resource = text }) action

-- the statement concerns requests for the action, whatever the resource: all its elements match but `Resource` and `NotResource`
pub record Concerns (access : AccessValue) (asked : List ℕ) (s : Placed) : Type 0 where
  pub principal : PrincipalMatches s.statement.principal access.requester
  pub action : ActionMatches s.statement.action asked
  pub conditions : All (EntryHolds access.context) s.statement.conditions

-- some text of its element `Resource`, or where `negated` says so of `NotResource`, becomes a pattern that matches the text
abbrev pub Meets : ContextValue → Bool → List ℕ → Placed → Type 0
Meets context negated text s =
    (element : ResourceElement) × (s.statement.resource ≡ Some element) × (element.negated ≡ negated)
    × Any (TextMatches context text) element.texts

-- a group of statements matches the text: `Resource` of one that concerns the request does
abbrev pub GroupMeets : ApplicableValue → AccessValue → List ℕ → (Placed → Type 0) → List ℕ → Type 0
GroupMeets a access action P text =
    Any (λ s. Concerns access action s × P s × Meets access.context false text s) (placed a)

-- the groups: all denies; the allows of one level of a layer; the allows of the resource's policy of one grant kind
abbrev pub IsDeny : Placed → Type 0
IsDeny s = s.statement.effect ≡ Deny

abbrev pub IsAllowAt : Layer → ℕ → Placed → Type 0
IsAllowAt layer level s = (s.statement.effect ≡ Allow) × (s.place.layer ≡ layer) × (s.place.level ≡ level)

abbrev pub IsGrant : RequesterValue → Grant → Placed → Type 0
IsGrant requester grant s =
    (s.statement.effect ≡ Allow) × (s.place.layer ≡ Resource) × (grant_of s.statement.principal requester ≡ grant)

-- every group matches both texts or neither, and so does each `NotResource` by itself
pub record AreAlike (a : ApplicableValue) (access : AccessValue) (action one other : List ℕ) : Type 0 where
  pub denies : GroupMeets a access action IsDeny one ↔ GroupMeets a access action IsDeny other
  pub allows : (layer : Layer) (level : ℕ)
      → GroupMeets a access action (IsAllowAt layer level) one ↔ GroupMeets a access action (IsAllowAt layer level) other
  pub grants : (grant : Grant)
      → GroupMeets a access action (IsGrant access.requester grant) one ↔ GroupMeets a access action (IsGrant access.requester grant) other
  pub negated : All (λ s. Concerns access action s → Meets access.context true one s ↔ Meets access.context true other s) (placed a)

-- on resources of texts that are alike the decisions are the same
abbrev pub AlikeTextsDecideAlike : Type 0
AlikeTextsDecideAlike =
    (a : ApplicableValue) (access : AccessValue) (action one other : List ℕ) (decision : Decision) → AreAlike a access action one other
    → IsDecision a (request_on access action one) decision → IsDecision a (request_on access action other) decision

-- the action elements of all statements match both actions or neither
abbrev pub AreAlikeActions : ApplicableValue → List ℕ → List ℕ → Type 0
AreAlikeActions a one other = All (λ s. ActionMatches s.statement.action one ↔ ActionMatches s.statement.action other) (placed a)

-- on such actions the decisions are the same
abbrev pub AlikeActionsDecideAlike : Type 0
AlikeActionsDecideAlike =
    (a : ApplicableValue) (access : AccessValue) (one other text : List ℕ) (decision : Decision) → AreAlikeActions a one other
    → IsDecision a (request_on access one text) decision → IsDecision a (request_on access other text) decision
