-- Resources that a world does not name. Each is decided as in a world that names it too, with what is said of it: AWS IAM User Guide,
-- "Policy evaluation logic". LOGIC 11.6.
use Rattle.std.specs.Prelude.{◌≡◌, ◌≢◌, ◌<◌, ◌++◌, ◌∷◌, ℕ, List, [], ⊤, None, false, length}
use Rattle.iam_context.specs.Context.{ContextValue}
use Rattle.iam_decision.specs.Applicable.{ApplicableValue}
use Rattle.iam_decision.specs.declared.verdict.Decision.{Decision}
use Rattle.iam_decision.specs.declared.verdict.Verdict.{Verdict}
use Rattle.iam_match.specs.Statement.{AccessValue}
use Rattle.iam_world.specs.World.{PrincipalValue, ResourceValue, WorldValue, account_with}
use Rattle.iam_layers.specs.Applicable.{applicable_of}
use Rattle.iam_layers.specs.Cell.{IsAccessAt, IsDecisionAt, IsPrincipal, IsResource, IsVerdictAt}
use Rattle.iam_layers.specs.Derived.{IsDerived, context_of}
use Rattle.iam_layers.specs.declared.unnamed.Unnamed.{Unnamed}
use Rattle.iam_layers.specs.declared.unnamed.Unnamed.TheVariants.{Like, Of}

-- a resource of an account, of which nothing else is said
abbrev pub bare_resource : List ℕ → List ℕ → ResourceValue
bare_resource account text = record {
  arn = text;
  account = account;
  policy = None;
  sealed = false;
  context = [];
  control = [];
}

-- the resource of this text, of which this is said
abbrev pub IsSaid : WorldValue → Unnamed → List ℕ → ResourceValue → Type 0
IsSaid world (Like r) text resource = IsResource world r (λ like. resource ≡ record like { arn = text })
IsSaid world (Of account) text resource = resource ≡ bare_resource account.now text

-- a resource that others are like is there
abbrev pub IsThere : WorldValue → Unnamed → Type 0
IsThere world (Like r) = r < length world.resources
IsThere world (Of account) = ⊤

-- the world has an account of this id
abbrev pub HasAccount : WorldValue → List ℕ → Type 0
HasAccount world id = account_with id world ≢ None

-- P holds of principal p and of a resource of each text of which this is said
abbrev pub OfUnnamed : WorldValue → ℕ → Unnamed → (PrincipalValue → ResourceValue → Type 0) → Type 0
OfUnnamed world p unnamed P =
    IsPrincipal world p (λ principal. (text : List ℕ) (resource : ResourceValue) → IsSaid world unnamed text resource → P principal resource)

-- these are the policies that apply where principal p asks for such a resource, its derived keys, and its context with these
abbrev pub AreUnnamedPolicies : WorldValue → ℕ → Unnamed → ApplicableValue → Type 0
AreUnnamedPolicies world p unnamed applicable =
    OfUnnamed world p unnamed (λ principal resource. applicable ≡ applicable_of world principal resource)

abbrev pub AreUnnamedKeys : WorldValue → ℕ → Unnamed → ContextValue → Type 0
AreUnnamedKeys world p unnamed derived = OfUnnamed world p unnamed (λ principal resource. IsDerived world principal resource derived)

abbrev pub IsUnnamedContext : WorldValue → ℕ → Unnamed → ContextValue → ContextValue → Type 0
IsUnnamedContext world p unnamed derived context =
    OfUnnamed world p unnamed (λ principal resource. context ≡ context_of world principal resource derived)

-- the world that has this action and this resource too, behind its own
abbrev pub world_and : WorldValue → List ℕ → ResourceValue → WorldValue
world_and world action resource =
    record world { actions = world.actions ++ (action ∷ []); resources = world.resources ++ (resource ∷ []) }

-- in the world that has this action and the resource of this text too, X holds of their numbers
abbrev pub InWorldAnd : WorldValue → Unnamed → List ℕ → List ℕ → (WorldValue → ℕ → ℕ → Type 0) → Type 0
InWorldAnd world unnamed action text X =
    (resource : ResourceValue) × IsSaid world unnamed text resource
    × X (world_and world action resource) (length world.actions) (length world.resources)

-- who asks for what in which context, where principal p asks for the resource of this text
abbrev pub IsUnnamedAccess : WorldValue → ℕ → Unnamed → List ℕ → List ℕ → ApplicableValue → AccessValue → Type 0
IsUnnamedAccess world p unnamed action text applicable access =
    InWorldAnd world unnamed action text (λ other a r. IsAccessAt other p r applicable access)

-- the verdict on the request of principal p for this action on the resource of this text, and the decision
abbrev pub IsUnnamedVerdict : WorldValue → ℕ → Unnamed → List ℕ → List ℕ → Verdict → Type 0
IsUnnamedVerdict world p unnamed action text verdict =
    InWorldAnd world unnamed action text (λ other a r. IsVerdictAt other p a r verdict)

abbrev pub IsUnnamedDecision : WorldValue → ℕ → Unnamed → List ℕ → List ℕ → Decision → Type 0
IsUnnamedDecision world p unnamed action text decision =
    InWorldAnd world unnamed action text (λ other a r. IsDecisionAt other p a r decision)
