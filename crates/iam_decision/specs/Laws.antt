-- What follows from the definition of a decision, for every requester, action, resource and context: AWS IAM User Guide,
-- "Policy evaluation logic", "Permissions boundaries for IAM entities", "Session policies" and "Service control policies".
-- LOGIC 11.2.
use Rattle.std.specs.Prelude.{◌≡◌, ◌⊎◌, ◌↔◌, ◌<◌, ◌≤◌, ℕ, List, [], ◌∷◌, None, Some, codes, false, true, get_or, length}
use Rattle.std.specs.List.{Any, Contains, flat_map}
use Rattle.std.specs.Option.{option_to_list}
use Rattle.iam_element.specs.Reading.{PrincipalElement}
use Rattle.iam_element.specs.declared.principals.PrincipalKind.TheVariants.{Aws}
use Rattle.iam_policy.specs.Reading.{PolicyValue, StatementValue}
use Rattle.iam_policy.specs.declared.effect.Effect.{Effect}
use Rattle.iam_policy.specs.declared.effect.Effect.TheVariants.{Allow, Deny}
use Rattle.iam_match.specs.Principal.{grant_of, rank}
use Rattle.iam_match.specs.Requester.{RequesterValue, requester_name}
use Rattle.iam_match.specs.Statement.{RequestValue, StatementMatches}
use Rattle.iam_match.specs.declared.principal.Grant.{Grant}
use Rattle.iam_match.specs.declared.principal.Grant.TheVariants.{Account, Role, Direct}
use Rattle.iam_decision.specs.Applicable.{ApplicableValue, frame_of}
use Rattle.iam_decision.specs.Decision.{IsDecision, IsVerdict}
use Rattle.iam_decision.specs.declared.place.Layer.{Layer}
use Rattle.iam_decision.specs.declared.place.Layer.TheVariants.{Org, Control, Resource, Identity, Boundary, Session}
use Rattle.iam_decision.specs.declared.verdict.Decision.{Decision}
use Rattle.iam_decision.specs.declared.verdict.Decision.TheVariants.{Allowed, ExplicitDeny}
use Rattle.iam_decision.specs.declared.verdict.Verdict.{Verdict}

-- the policies of a layer, level by level; a layer without levels is level 0 alone
abbrev pub levels_of : ApplicableValue → Layer → List (List PolicyValue)
levels_of a Org = a.org
levels_of a Control = a.control
levels_of a Resource = option_to_list a.resource ∷ []
levels_of a Identity = a.identity ∷ []
levels_of a Boundary = option_to_list a.boundary ∷ []
levels_of a Session = a.session ∷ []

-- all statements of some policies
abbrev pub statements_of : List PolicyValue → List StatementValue
statements_of policies = flat_map (λ policy. policy.statements) policies

-- all statements of a layer at a level: none past its levels
abbrev pub statements_at : ApplicableValue → Layer → ℕ → List StatementValue
statements_at a layer level = statements_of (get_or (levels_of a layer) level [])

-- one of the statements matches the request and has the effect
abbrev pub SomeSays : Effect → RequestValue → List StatementValue → Type 0
SomeSays effect q statements = Any (λ s. StatementMatches s q × (s.effect ≡ effect)) statements

-- one of the statements matches the request, allows it, and grants the requester at least this
abbrev pub SomeGrants : Grant → RequestValue → List StatementValue → Type 0
SomeGrants least q statements =
    Any (λ s. StatementMatches s q × (s.effect ≡ Allow) × (rank least ≤ rank (grant_of s.principal q.requester))) statements

-- requester and resource are of one account, and the resource's policy grants the requester at least this
abbrev pub IsGrantedInAccount : Grant → ApplicableValue → RequestValue → Type 0
IsGrantedInAccount least a q = (a.same_account ≡ true) × SomeGrants least q (statements_of (option_to_list a.resource))

-- the statement's `Principal` names the user or the session itself: by its ARN, or by `*`
abbrev pub NamesItself : RequesterValue → StatementValue → Type 0
NamesItself r s =
    (element : PrincipalElement) × (s.principal ≡ Some element) × (element.negated ≡ false)
    × Any (λ p. (p.kind ≡ Aws) × ((p.text ≡ codes "*") ⊎ (p.text ≡ requester_name r))) element.names

-- b has the statements of a, each in its layer and at its level, and beside them only statements of this effect; accounts,
-- numbers of levels, and whether there are a boundary and session policies, are the same
pub record Gains (effect : Effect) (a b : ApplicableValue) : Type 0 where
  pub frame : frame_of b ≡ frame_of a
  pub keeps : (layer : Layer) (level : ℕ) (s : StatementValue)
      → Contains (statements_at a layer level) s → Contains (statements_at b layer level) s
  pub gains : (layer : Layer) (level : ℕ) (s : StatementValue)
      → Contains (statements_at b layer level) s → Contains (statements_at a layer level) s ⊎ (s.effect ≡ effect)

-- both have the same statements in each layer at each level, in whatever order and whichever policies; accounts, numbers of
-- levels, and whether there are a boundary and session policies, are the same
pub record HaveSameStatements (a b : ApplicableValue) : Type 0 where
  pub frame : frame_of b ≡ frame_of a
  pub same : (layer : Layer) (level : ℕ) (s : StatementValue)
      → Contains (statements_at a layer level) s ↔ Contains (statements_at b layer level) s

-- b is a but for limits that a does not have: levels of the organisation and of control policies, at whatever height, a
-- boundary where a has none, and session policies where a has none
pub record HasFurtherLimits (a b : ApplicableValue) : Type 0 where
  pub org : (level : List PolicyValue) → Contains a.org level → Contains b.org level
  pub control : (level : List PolicyValue) → Contains a.control level → Contains b.control level
  pub boundary : (a.boundary ≡ None) ⊎ (b.boundary ≡ a.boundary)
  pub session : (a.session ≡ []) ⊎ (b.session ≡ a.session)
  pub resource : b.resource ≡ a.resource
  pub identity : b.identity ≡ a.identity
  pub same_account : b.same_account ≡ a.same_account
  pub sealed : b.sealed ≡ a.sealed

-- a request has at most one decision
abbrev pub OneDecision : Type 0
OneDecision =
    (a : ApplicableValue) (q : RequestValue) (decision other : Decision)
    → IsDecision a q decision → IsDecision a q other → decision ≡ other

-- a request has at most one verdict: decision, deciding statements and lacks, in their order
abbrev pub OneVerdict : Type 0
OneVerdict =
    (a : ApplicableValue) (q : RequestValue) (verdict other : Verdict)
    → IsVerdict a q verdict → IsVerdict a q other → verdict ≡ other

-- where a matched statement of any layer and level denies, the decision is no other
abbrev pub DenyWins : Type 0
DenyWins =
    (a : ApplicableValue) (q : RequestValue) (layer : Layer) (level : ℕ) (decision : Decision)
    → SomeSays Deny q (statements_at a layer level) → IsDecision a q decision → decision ≡ ExplicitDeny

-- nothing else denies explicitly
abbrev pub OnlyDenyDenies : Type 0
OnlyDenyDenies =
    (a : ApplicableValue) (q : RequestValue) → IsDecision a q ExplicitDeny
    → (layer : Layer) × (level : ℕ) × SomeSays Deny q (statements_at a layer level)

-- whatever is allowed is allowed by an identity policy or, in the same account, granted by the resource's policy to the user,
-- the role or the session, by an ARN or by `*`
abbrev pub AllowedIsGranted : Type 0
AllowedIsGranted =
    (a : ApplicableValue) (q : RequestValue) → IsDecision a q Allowed
    → SomeSays Allow q (statements_of a.identity) ⊎ IsGrantedInAccount Role a q

-- whatever is allowed is allowed at each of these levels
abbrev pub EachLevelAllows : (ApplicableValue → List (List PolicyValue)) → Type 0
EachLevelAllows levels =
    (a : ApplicableValue) (q : RequestValue) (level : ℕ) → IsDecision a q Allowed → level < length (levels a)
    → SomeSays Allow q (statements_of (get_or (levels a) level []))

-- further denies, wherever they stand, allow nothing more
abbrev pub FurtherDenyAllowsNoMore : Type 0
FurtherDenyAllowsNoMore =
    (a b : ApplicableValue) (q : RequestValue) → Gains Deny a b → IsDecision b q Allowed → IsDecision a q Allowed

-- further allows, wherever they stand, take nothing away
abbrev pub FurtherAllowTakesNothing : Type 0
FurtherAllowTakesNothing =
    (a b : ApplicableValue) (q : RequestValue) → Gains Allow a b → IsDecision a q Allowed → IsDecision b q Allowed

-- further limits allow nothing more
abbrev pub FurtherLimitsAllowNoMore : Type 0
FurtherLimitsAllowNoMore =
    (a b : ApplicableValue) (q : RequestValue) → HasFurtherLimits a b → IsDecision b q Allowed → IsDecision a q Allowed

-- whatever is allowed is allowed by the boundary, where there is one; or granted in the same account to the user or the
-- session itself, by its ARN or by `*`
abbrev pub BoundaryBinds : Type 0
BoundaryBinds =
    (a : ApplicableValue) (q : RequestValue) (boundary : PolicyValue) → a.boundary ≡ Some boundary → IsDecision a q Allowed
    → SomeSays Allow q boundary.statements ⊎ IsGrantedInAccount Direct a q

-- whatever is allowed is allowed by a session policy, where there are any; or granted in the same account to the user or the
-- session itself, by its ARN or by `*`
abbrev pub SessionBinds : Type 0
SessionBinds =
    (a : ApplicableValue) (q : RequestValue) → ¬ (a.session ≡ []) → IsDecision a q Allowed
    → SomeSays Allow q (statements_of a.session) ⊎ IsGrantedInAccount Direct a q

-- a grant to the user or the session is that of a statement which names it itself
abbrev pub DirectGrantNamesItself : Type 0
DirectGrantNamesItself =
    (s : StatementValue) (r : RequesterValue) → (rank Direct ≤ rank (grant_of s.principal r)) ↔ NamesItself r s

-- whatever is allowed across accounts is allowed by an identity policy and granted by the resource's policy
abbrev pub BothAccountsAllow : Type 0
BothAccountsAllow =
    (a : ApplicableValue) (q : RequestValue) → a.same_account ≡ false → IsDecision a q Allowed
    → SomeSays Allow q (statements_of a.identity) × SomeGrants Account q (statements_of (option_to_list a.resource))

-- whatever is allowed on a sealed resource is granted by its policy
abbrev pub SealedResourceGrants : Type 0
SealedResourceGrants =
    (a : ApplicableValue) (q : RequestValue) → a.sealed ≡ true → IsDecision a q Allowed
    → SomeGrants Account q (statements_of (option_to_list a.resource))

-- the order of statements and of policies changes no decision
abbrev pub OrderIsFree : Type 0
OrderIsFree =
    (a b : ApplicableValue) (q : RequestValue) (decision : Decision) → HaveSameStatements a b
    → IsDecision a q decision → IsDecision b q decision
