-- The requests of a world by the numbers of principal, action and resource, and their verdicts. LOGIC 11.6.
use Rattle.std.specs.Prelude.{◌≡◌, ℕ, ◌+◌, ◌*◌, ◌<◌, List, Some, length}
use Rattle.std.specs.List.{slice_get}
use Rattle.iam_match.specs.Requester.{requester_name}
use Rattle.iam_match.specs.Statement.{AccessValue, RequestValue, request_for}
use Rattle.iam_decision.specs.Applicable.{ApplicableValue}
use Rattle.iam_decision.specs.Decision.{IsDecision, IsVerdict}
use Rattle.iam_decision.specs.Living.{IsShared, SharedValue}
use Rattle.iam_decision.specs.declared.verdict.Decision.{Decision}
use Rattle.iam_decision.specs.declared.verdict.Verdict.{Verdict}
use Rattle.iam_world.specs.World.{WorldValue, PrincipalValue, ResourceValue}
use Rattle.iam_context.specs.Context.{ContextValue}
use Rattle.iam_layers.specs.Applicable.{applicable_of}
use Rattle.iam_layers.specs.Derived.{IsDerived, context_of}

-- the cells of the matrix are numbered from 0 by principal, then action, then resource
pub record IsCell (world : WorldValue) (cell p a r : ℕ) : Type 0 where
  pub principal : p < length world.principals
  pub action : a < length world.actions
  pub resource : r < length world.resources
  pub number : cell ≡ (p * length world.actions + a) * length world.resources + r

-- the text of a principal in a report: the ARN of the user, or of the session
abbrev pub principal_text : PrincipalValue → List ℕ
principal_text principal = requester_name principal.requester

-- principal p is there, and P holds of it
abbrev pub IsPrincipal : WorldValue → ℕ → (PrincipalValue → Type 0) → Type 0
IsPrincipal world p P = (principal : PrincipalValue) × (slice_get world.principals p ≡ Some principal) × P principal

-- action a has this text
abbrev pub IsAction : WorldValue → ℕ → List ℕ → Type 0
IsAction world a text = slice_get world.actions a ≡ Some text

-- resource r is there, and P holds of it
abbrev pub IsResource : WorldValue → ℕ → (ResourceValue → Type 0) → Type 0
IsResource world r P = (resource : ResourceValue) × (slice_get world.resources r ≡ Some resource) × P resource

-- these are the derived keys where principal p asks for resource r
abbrev pub IsDerivedAt : WorldValue → ℕ → ℕ → ContextValue → Type 0
IsDerivedAt world p r derived =
    IsPrincipal world p (λ principal. IsResource world r (λ resource. IsDerived world principal resource derived))

-- this is the context where principal p asks for resource r, with these derived keys
abbrev pub IsContextAt : WorldValue → ℕ → ℕ → ContextValue → ContextValue → Type 0
IsContextAt world p r derived context =
    IsPrincipal world p (λ principal. IsResource world r (λ resource. context ≡ context_of world principal resource derived))

-- this is the context where principal p asks for resource r
abbrev pub IsRequestContext : WorldValue → ℕ → ℕ → ContextValue → Type 0
IsRequestContext world p r context = (derived : ContextValue) × IsDerivedAt world p r derived × IsContextAt world p r derived context

-- these policies apply where principal p asks for resource r
abbrev pub IsApplicableAt : WorldValue → ℕ → ℕ → ApplicableValue → Type 0
IsApplicableAt world p r applicable =
    IsPrincipal world p (λ principal. IsResource world r (λ resource. applicable ≡ applicable_of world principal resource))

-- the policies that apply where principal p asks for resource r, and who asks for what in which context
pub record IsAccessAt (world : WorldValue) (p r : ℕ) (applicable : ApplicableValue) (access : AccessValue) : Type 0 where
  pub principal : PrincipalValue
  pub resource : ResourceValue
  pub derived : ContextValue
  pub principal_is : slice_get world.principals p ≡ Some principal
  pub resource_is : slice_get world.resources r ≡ Some resource
  pub derived_is : IsDerived world principal resource derived
  pub applicable_is : applicable ≡ applicable_of world principal resource
  pub access_is :
      access
      ≡ record {
        requester = principal.requester;
        resource = resource.arn;
        context = context_of world principal resource derived;
      }

-- what the requests of principal p for resource r, for the actions of the world, share
abbrev pub IsSharedAt : WorldValue → ℕ → ℕ → SharedValue → Type 0
IsSharedAt world p r shared =
    (applicable : ApplicableValue) × (access : AccessValue) × IsAccessAt world p r applicable access
    × IsShared world.actions applicable access shared

-- the request of principal p for action a on resource r, in its context, and the policies that apply to it
abbrev pub IsRequestAt : WorldValue → ℕ → ℕ → ℕ → ApplicableValue → RequestValue → Type 0
IsRequestAt world p a r applicable request =
    (access : AccessValue) × (action : List ℕ) × IsAccessAt world p r applicable access × IsAction world a action
    × (request ≡ request_for access action)

-- the verdict on that request
abbrev pub IsVerdictAt : WorldValue → ℕ → ℕ → ℕ → Verdict → Type 0
IsVerdictAt world p a r verdict =
    (applicable : ApplicableValue) × (request : RequestValue) × IsRequestAt world p a r applicable request
    × IsVerdict applicable request verdict

-- the decision on that request
abbrev pub IsDecisionAt : WorldValue → ℕ → ℕ → ℕ → Decision → Type 0
IsDecisionAt world p a r decision =
    (applicable : ApplicableValue) × (request : RequestValue) × IsRequestAt world p a r applicable request
    × IsDecision applicable request decision

-- the verdict of the written logic on the request of this cell, and the decision
abbrev pub IsVerdictOf : WorldValue → ℕ → Verdict → Type 0
IsVerdictOf world cell verdict = (p : ℕ) × (a : ℕ) × (r : ℕ) × IsCell world cell p a r × IsVerdictAt world p a r verdict

abbrev pub IsDecisionOf : WorldValue → ℕ → Decision → Type 0
IsDecisionOf world cell decision = (p : ℕ) × (a : ℕ) × (r : ℕ) × IsCell world cell p a r × IsDecisionAt world p a r decision
