-- What a world document of the right shape says, member by member: texts, numbers and lists. Policies and contexts
-- stand as the JSON values that they are; a text is the list of its bytes. LOGIC 12.1.
use Rattle.std.specs.Prelude.{◌≡◌, ◌⊎◌, ℕ, List, [], Bool, false, Option, Some, None, IsSome, option_and_then, unwrap_or}
use Rattle.std.specs.List.{AllZip}
use Rattle.serde_json.specs.Data.{Data}
use Rattle.serde_json.specs.Find.{as_bool, as_str}
use Rattle.iam_json.specs.Look.{values}
use Rattle.iam_shape.specs.declared.path.Name.{Name}
use Rattle.iam_shape.specs.declared.path.Name.TheVariants.{Moment, Accounts, Principals, Actions, Resources, Context, Id, Management, Org, User, Role, Session, Identity, Boundary, SessionPolicies, Arn, Account, Policy, Sealed, Control}
use Rattle.iam_shape.specs.Shape.{member, list_at, number_at, text_at}

-- ---- what it says

-- an account: its id, whether it manages its organisation, and the organisation policies by level from the root
pub record AccountViewValue : Type 0 where
  pub id : List ℕ
  pub management : Bool
  pub org : List (List Data)

-- a principal: the ARN of its user, or that of its role and the name of its session; its policies and its context
pub record PrincipalViewValue : Type 0 where
  pub arn : List ℕ
  pub session_name : Option (List ℕ)
  pub identity : List Data
  pub boundary : Option Data
  pub session_policies : List Data
  pub context : Option Data

-- a resource: its ARN, its account, its policy, whether that one must grant, its context, and the resource control
-- policies by level from the root
pub record ResourceViewValue : Type 0 where
  pub arn : List ℕ
  pub account : List ℕ
  pub policy : Option Data
  pub sealed : Bool
  pub context : Option Data
  pub control : List (List Data)

pub record WorldViewValue : Type 0 where
  pub moment : ℕ
  pub accounts : List AccountViewValue
  pub principals : List PrincipalViewValue
  pub actions : List (List ℕ)
  pub resources : List ResourceViewValue
  pub context : Option Data

-- ---- where it says so

-- `true` stands under this name, or else `false` or nothing does
abbrev pub is_true_at : Name → Data → Bool
is_true_at name d = unwrap_or (option_and_then as_bool (member name d)) false

-- a list of values that say these things, one by one, stands under this name
abbrev pub HasListOf : {A : Type 0} → (Data → A → Type 0) → Name → Data → List A → Type 0
HasListOf Says name d xs = (ds : List Data) × (list_at name d ≡ Some ds) × AllZip Says ds xs

-- a list of levels stands under this name, each a list of these values, or nothing does and there are none
abbrev pub HasLevels : Name → Data → List (List Data) → Type 0
HasLevels name d levels =
    HasListOf (λ level ds. values level ≡ Some ds) name d levels ⊎ ((member name d ≡ None) × (levels ≡ []))

-- a list of these values stands under this name, or nothing does and there are none
abbrev pub HasListOrNone : Name → Data → List Data → Type 0
HasListOrNone name d ds = (list_at name d ≡ Some ds) ⊎ ((member name d ≡ None) × (ds ≡ []))

-- the principal is a user with this ARN and no session, or the session of this name of the role with this ARN
abbrev pub IsGivenBy : Data → List ℕ → Option (List ℕ) → Type 0
IsGivenBy principal arn session =
    ((member Role principal ≡ None) × (text_at User principal ≡ Some arn) × (session ≡ None))
    ⊎ ((member User principal ≡ None) × (text_at Role principal ≡ Some arn) × (session ≡ text_at Session principal)
    × IsSome session)

pub record IsAccountView (d : Data) (account : AccountViewValue) : Type 0 where
  pub id : text_at Id d ≡ Some account.id
  pub management : account.management ≡ is_true_at Management d
  pub org : HasLevels Org d account.org

pub record IsPrincipalView (d : Data) (principal : PrincipalViewValue) : Type 0 where
  pub requester : IsGivenBy d principal.arn principal.session_name
  pub identity : HasListOrNone Identity d principal.identity
  pub boundary : principal.boundary ≡ member Boundary d
  pub session_policies : HasListOrNone SessionPolicies d principal.session_policies
  pub context : principal.context ≡ member Context d

pub record IsResourceView (d : Data) (resource : ResourceViewValue) : Type 0 where
  pub arn : text_at Arn d ≡ Some resource.arn
  pub account : text_at Account d ≡ Some resource.account
  pub policy : resource.policy ≡ member Policy d
  pub sealed : resource.sealed ≡ is_true_at Sealed d
  pub context : resource.context ≡ member Context d
  pub control : HasLevels Control d resource.control

-- the document says this
pub record IsView (d : Data) (world : WorldViewValue) : Type 0 where
  pub moment : number_at Moment d ≡ Some world.moment
  pub accounts : HasListOf IsAccountView Accounts d world.accounts
  pub principals : HasListOf IsPrincipalView Principals d world.principals
  pub actions : HasListOf (λ action text. as_str action ≡ Some text) Actions d world.actions
  pub resources : HasListOf IsResourceView Resources d world.resources
  pub context : world.context ≡ member Context d
