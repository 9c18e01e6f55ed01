-- Why bytes are no world: the set of their faults, one case a number, and the first of them.
-- LOGIC 1.3, 12.2, 12.4, 12.5 and 15.
use Rattle.std.specs.Prelude.{◌≡◌, ◌⊎◌, ℕ, ◌+◌, ◌*◌, ◌<◌, ◌≤◌, List, [], ◌∷◌, ◌++◌, Bool, ◌&&◌, ◌||◌, ◌==◌, nat_eq, nat_le, length, codes, decimal, Some, IsTrue, map}
use Rattle.std.specs.List.{before_first, after_first, starts_with, sum_by}
use Rattle.std.specs.Option.{option_to_list}
use Rattle.std.specs.Str.{bytes_eq, IsUtf8}
use Rattle.std.specs.Char.{is_ascii_alphanumeric}
use Rattle.serde_json.specs.Data.{Data}
use Rattle.serde_json.specs.Read.{read}
use Rattle.iam_json.specs.Look.{is_one_of}
use Rattle.iam_context.specs.ContextFault.{context_text}
use Rattle.iam_text.specs.Arn.{colons}
use Rattle.iam_text.specs.Characters.{is_label, is_run}
use Rattle.iam_policy.specs.Fault.{IsAccepted, IsLeastFault, statements_in}
use Rattle.iam_policy.specs.declared.fault.Kind.{Kind}
use Rattle.iam_policy.specs.declared.fault.Kind.TheVariants as kind
use Rattle.iam_policy.specs.Table.{refused_text}
use Rattle.iam_policy.specs.declared.fault.Refused.{Refused}
use Rattle.iam_context.specs.Requester.{RequesterValue, IsRequesterOf}
use Rattle.iam_shape.specs.declared.path.Name.{Name}
use Rattle.iam_shape.specs.declared.path.Name.TheVariants.{Accounts, Principals, Actions, Resources, Org, Identity, Boundary, SessionPolicies, Control}
use Rattle.iam_shape.specs.declared.path.Name.TheVariants as name
use Rattle.iam_shape.specs.declared.path.Path.{Path}
use Rattle.iam_shape.specs.declared.path.Path.TheVariants.{Item, Field, Entry, Leaf}
use Rattle.iam_shape.specs.Path.{path_text}
use Rattle.iam_world.specs.declared.fault.WorldFault.{WorldFault}
use Rattle.iam_world.specs.declared.fault.WorldFault.TheVariants.{NotJson, BadShape, BadRequester, BadAction, BadResourceArn, UnknownAccount, Context, Policy, TooLarge, OutOfMemory}
use Rattle.iam_shape.specs.First.{IsFirst, IsFirstAt, with_paths}
use Rattle.iam_shape.specs.Shape.{each, first_bad, shape_checks}
use Rattle.iam_shape.specs.View.{AccountViewValue, PrincipalViewValue, ResourceViewValue, WorldViewValue, IsView}
use Rattle.iam_world_context.specs.Contexts.{IsFirstFaulty, parts}

-- the number of a fault
abbrev pub world_number_of : WorldFault → ℕ
world_number_of NotJson = 1
world_number_of (BadShape path) = 2
world_number_of (BadRequester path) = 3
world_number_of (BadAction path) = 4
world_number_of (BadResourceArn path) = 5
world_number_of (UnknownAccount path) = 6
world_number_of (Context path fault) = 7
world_number_of (Policy path refused) = 8
world_number_of TooLarge = 9
world_number_of OutOfMemory = 10

-- the name of a fault
abbrev pub world_name_of : WorldFault → List ℕ
world_name_of NotJson = codes "NotJson"
world_name_of (BadShape path) = codes "BadShape"
world_name_of (BadRequester path) = codes "BadRequester"
world_name_of (BadAction path) = codes "BadAction"
world_name_of (BadResourceArn path) = codes "BadResourceArn"
world_name_of (UnknownAccount path) = codes "UnknownAccount"
world_name_of (Context path fault) = codes "Context"
world_name_of (Policy path refused) = codes "Policy"
world_name_of TooLarge = codes "TooLarge"
world_name_of OutOfMemory = codes "OutOfMemory"

-- the path of a fault and what is wrong there, which follow its number and name
abbrev pub fault_path_text : WorldFault → List ℕ
fault_path_text NotJson = []
fault_path_text (BadShape path) = codes " at " ++ path_text path
fault_path_text (BadRequester path) = codes " at " ++ path_text path
fault_path_text (BadAction path) = codes " at " ++ path_text path
fault_path_text (BadResourceArn path) = codes " at " ++ path_text path
fault_path_text (UnknownAccount path) = codes " at " ++ path_text path
fault_path_text (Context path fault) = codes " at " ++ (path_text path ++ (codes ": " ++ context_text fault))
fault_path_text (Policy path refused) = codes " at " ++ (path_text path ++ (codes ": " ++ refused_text refused))
fault_path_text TooLarge = []
fault_path_text OutOfMemory = []

-- `1 NotJson`, `2 BadShape at moment`
abbrev pub world_text : WorldFault → List ℕ
world_text fault = decimal (world_number_of fault) ++ (codes " " ++ (world_name_of fault ++ fault_path_text fault))

-- ---- requesters

-- this is the requester of the principal
abbrev pub IsRequesterAt : PrincipalViewValue → RequesterValue → Type 0
IsRequesterAt principal r = IsRequesterOf principal.arn principal.session_name r

abbrev pub IsNoRequester : PrincipalViewValue → Type 0
IsNoRequester principal = (r : RequesterValue) → ¬ IsRequesterAt principal r

-- ---- actions and resources

-- one or more ASCII letters, digits, `-`, `_` or `.`
abbrev pub is_action_name : List ℕ → Bool
is_action_name text = is_run (λ c. is_ascii_alphanumeric c || c == 45 || c == 95 || c == 46) text

-- `prefix:name`, parted by the first colon; where there is no colon, nothing stands behind it
abbrev pub is_action : List ℕ → Bool
is_action text = is_label (before_first (λ c. c == 58) text) && is_action_name (after_first (λ c. c == 58) text)

-- `*`, or a text of six parts, which has five colons or more, that begins with `arn:`
abbrev pub is_resource : List ℕ → Bool
is_resource text = bytes_eq text (codes "*") || (starts_with nat_eq text (codes "arn:") && nat_le 5 (colons text))

-- ---- accounts

-- whoever must belong to an account of the world
pub data Owner : Type 0 where
  of_principal : PrincipalViewValue → Owner
  of_resource : ResourceViewValue → Owner

-- the principals, then the resources
abbrev pub owners : WorldViewValue → List (Path × Owner)
owners world =
    with_paths (Item Principals) 0 (map of_principal world.principals)
    ++ with_paths (Item Resources) 0 (map of_resource world.resources)

-- the account is that of the requester, where the principal is one, or that which the resource names
abbrev pub BelongsTo : Owner → List ℕ → Type 0
BelongsTo (of_principal principal) account = (r : RequesterValue) × IsRequesterAt principal r × (account ≡ r.account)
BelongsTo (of_resource resource) account = account ≡ resource.account

-- it belongs to an account that the world does not have
abbrev pub IsOfUnknownAccount : WorldViewValue → Owner → Type 0
IsOfUnknownAccount world owner =
    (id : List ℕ) × BelongsTo owner id × ¬ IsTrue (is_one_of (map (λ account. account.id) world.accounts) id)

-- ---- policy documents

-- a policy document: where it stands, how it is read, and its value
pub record Document : Type 0 where
  pub path : Path
  pub kind : Kind
  pub value : Data

-- the values of a list as documents of this kind, each at the path of its number, from i on
abbrev pub numbered : Kind → (ℕ → Path) → ℕ → List Data → List Document
numbered kind at i [] = []
numbered kind at i (d ∷ ds) = record { path = at i; kind = kind; value = d } ∷ numbered kind at (i + 1) ds

-- the documents of levels that stand under a name of member i of a list, level by level
abbrev pub level_documents : Kind → Name → ℕ → Name → List (List Data) → List Document
level_documents kind list i name levels = each (λ j level. numbered kind (Leaf list i name j) 0 level) 0 levels

-- the organisation policies of account i
abbrev pub org_documents : ℕ → AccountViewValue → List Document
org_documents i account = level_documents kind.Org Accounts i Org account.org

-- the resource control policies of resource i, and its policy
abbrev pub control_documents : ℕ → ResourceViewValue → List Document
control_documents i resource = level_documents kind.Control Resources i Control resource.control

abbrev pub resource_documents : ℕ → ResourceViewValue → List Document
resource_documents i resource =
    numbered kind.Resource (λ j. Field Resources i name.Policy) 0 (option_to_list resource.policy)

-- the identity policies of principal i, its boundary, and its session policies
abbrev pub identity_documents : ℕ → PrincipalViewValue → List Document
identity_documents i principal = numbered kind.Identity (Entry Principals i Identity) 0 principal.identity

abbrev pub boundary_documents : ℕ → PrincipalViewValue → List Document
boundary_documents i principal =
    numbered kind.Identity (λ j. Field Principals i Boundary) 0 (option_to_list principal.boundary)

abbrev pub session_documents : ℕ → PrincipalViewValue → List Document
session_documents i principal =
    numbered kind.Identity (Entry Principals i SessionPolicies) 0 principal.session_policies

-- the policy documents of a world, layer by layer, each of all its owners before the next: organisation policies, control
-- policies, policies of resources, identity policies, boundaries, session policies
abbrev pub documents : WorldViewValue → List Document
documents world =
    each org_documents 0 world.accounts
    ++ (each control_documents 0 world.resources
    ++ (each resource_documents 0 world.resources
    ++ (each identity_documents 0 world.principals
    ++ (each boundary_documents 0 world.principals
    ++ each session_documents 0 world.principals))))

-- the first document that is not accepted stands at this path, and this is its least fault
abbrev pub IsFirstRefused : List Document → Path → Refused → Type 0
IsFirstRefused ds path refused =
    (document : Document) × IsFirst (λ d. ¬ IsAccepted d.kind d.value) ds document × (path ≡ document.path)
    × IsLeastFault document.kind document.value refused.statement refused.fault

-- ---- limits

-- how many cells the matrix has
abbrev pub cell_count : WorldViewValue → ℕ
cell_count world = length world.principals * length world.actions * length world.resources

-- how many statements documents have
abbrev pub statement_total : List Document → ℕ
statement_total ds = sum_by (λ document. length (statements_in document.value)) ds

-- the matrix has too many cells, or the documents too many statements
abbrev pub IsOverLimits : WorldViewValue → Type 0
IsOverLimits world = (16777216 < cell_count world) ⊎ (4096 < statement_total (documents world))

-- ---- the faults

-- the bytes are a text of this JSON value
abbrev pub IsJson : List ℕ → Data → Type 0
IsJson bytes d = IsUtf8 bytes × (read bytes ≡ Some d)

-- the faults of what a document of the right shape says, each by itself
abbrev pub ViewHasFault : WorldViewValue → WorldFault → Type 0
ViewHasFault world NotJson = ⊥
ViewHasFault world (BadShape path) = ⊥
ViewHasFault world (BadRequester path) = IsFirstAt IsNoRequester (with_paths (Item Principals) 0 world.principals) path
ViewHasFault world (BadAction path) =
    IsFirstAt (λ action. ¬ IsTrue (is_action action)) (with_paths (Item Actions) 0 world.actions) path
ViewHasFault world (BadResourceArn path) =
    IsFirstAt (λ resource. ¬ IsTrue (is_resource resource.arn)) (with_paths (Item Resources) 0 world.resources) path
ViewHasFault world (UnknownAccount path) = IsFirstAt (IsOfUnknownAccount world) (owners world) path
ViewHasFault world (Context path fault) = IsFirstFaulty (parts world) path fault
ViewHasFault world (Policy path refused) = IsFirstRefused (documents world) path refused
ViewHasFault world TooLarge = IsOverLimits world
ViewHasFault world OutOfMemory = ⊥

-- the set of faults: the bytes are no JSON, the shape is wrong, or what they say has the fault
abbrev pub WorldHasFault : List ℕ → WorldFault → Type 0
WorldHasFault bytes NotJson = (d : Data) → ¬ IsJson bytes d
WorldHasFault bytes (BadShape path) = (d : Data) × IsJson bytes d × (first_bad (shape_checks d) ≡ Some path)
WorldHasFault bytes OutOfMemory = ⊥
WorldHasFault bytes fault =
    (d : Data) × IsJson bytes d × ((world : WorldViewValue) × IsView d world × ViewHasFault world fault)

-- the member with the least number
pub record IsLeastWorldFault (bytes : List ℕ) (fault : WorldFault) : Type 0 where
  pub holds : WorldHasFault bytes fault
  pub least : (other : WorldFault) → WorldHasFault bytes other → world_number_of fault ≤ world_number_of other

-- the first fault of bytes: over 8,388,608 of them are too many, whatever they hold
abbrev pub IsFirstWorldFault : List ℕ → WorldFault → Type 0
IsFirstWorldFault bytes fault =
    ((8388608 < length bytes) × (fault ≡ TooLarge)) ⊎ ((length bytes ≤ 8388608) × IsLeastWorldFault bytes fault)
