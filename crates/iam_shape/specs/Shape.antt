-- The shape of a world document: which members its objects have, and which values stand there. The shape is walked
-- in the order of the checks below, and the first that fails names its path. LOGIC 12.3.
use Rattle.std.specs.Prelude.{◌≡◌, ℕ, ◌+◌, List, [], ◌∷◌, ◌++◌, Bool, true, false, not, ◌&&◌, ◌||◌, nat_le, Option, Some, None, is_some, is_none, if◌then◌else◌, option_and_then, take, map}
use Rattle.std.specs.List.{filter_map, list_all}
use Rattle.std.specs.Option.{option_map_or}
use Rattle.serde_json.specs.Data.{Data}
use Rattle.serde_json.specs.Find.{get, as_bool, as_str, as_object, as_number, as_u64}
use Rattle.iam_json.specs.Look.{values, has_unknown, is_one_of}
use Rattle.iam_json.specs.Scalar.{is_scalar, all_members}
use Rattle.iam_text.specs.Characters.{is_account}
use Rattle.iam_shape.specs.Path.{name_text}
use Rattle.iam_shape.specs.declared.path.Name.{Name}
use Rattle.iam_shape.specs.declared.path.Name.TheVariants.{Moment, Accounts, Principals, Actions, Resources, Context, Id, Management, Org, User, Role, Session, Identity, Boundary, SessionPolicies, Arn, Account, Policy, Sealed, Control}
use Rattle.iam_shape.specs.declared.path.Path.{Path}
use Rattle.iam_shape.specs.declared.path.Path.TheVariants.{Root, Member, Item, Field, Entry}
use Rattle.iam_shape.specs.declared.fault.ShapeFault.{ShapeFault}
use Rattle.iam_shape.specs.declared.fault.ShapeFault.TheVariants.{At, OutOfMemory}

-- ---- looking into an object

-- the member of this name
abbrev pub member : Name → Data → Option Data
member name d = get (name_text name) d

-- the values of the list that stands under this name
abbrev pub list_at : Name → Data → Option (List Data)
list_at name d = option_and_then values (member name d)

-- the text that stands under this name
abbrev pub text_at : Name → Data → Option (List ℕ)
text_at name d = option_and_then as_str (member name d)

-- the number that stands under this name, whole and not negative
abbrev pub number_at : Name → Data → Option ℕ
number_at name d = option_and_then as_u64 (option_and_then as_number (member name d))

-- ---- tests

-- what stands under this name passes the test, or nothing stands there
abbrev pub is_absent_or : (Data → Bool) → Name → Data → Bool
is_absent_or test name d = option_map_or test (member name d) true

abbrev pub is_string : Data → Bool
is_string d = is_some (as_str d)

abbrev pub is_list : Data → Bool
is_list d = is_some (values d)

abbrev pub is_bool : Data → Bool
is_bool d = is_some (as_bool d)

-- an object whose values are each a text, a Boolean, a whole number, or a list of such
abbrev pub is_context : Data → Bool
is_context d =
    option_map_or (all_members (λ v. is_scalar v || option_map_or (list_all is_scalar) (values v) false)) (as_object d)
    false

-- twelve digits, and the id of none of these accounts
abbrev pub is_new_id : List Data → List ℕ → Bool
is_new_id accounts id = is_account id && not (is_one_of (filter_map (text_at Id) accounts) id)

-- no object with a member of another name
abbrev pub has_only : List Name → Data → Bool
has_only names d = not (has_unknown (map name_text names) d)

-- ---- the checks

-- where a check looks, and whether what stands there has the shape
abbrev pub Check : Type 0
Check = Path × Bool

-- the path of the first check that fails
abbrev pub first_bad : List Check → Option Path
first_bad [] = None
first_bad (check ∷ checks) = if check.1 then first_bad checks else Some check.0

-- the first check that fails has the path of this fault
abbrev pub IsShapeFault : List Check → ShapeFault → Type 0
IsShapeFault checks (At path) = first_bad checks ≡ Some path
IsShapeFault checks OutOfMemory = ⊥

-- what each element of a list gives, numbered from i
abbrev pub each : {X Y : Type 0} → (ℕ → X → List Y) → ℕ → List X → List Y
each gives i [] = []
each gives i (x ∷ xs) = gives i x ++ each gives (i + 1) xs

-- the checks of a list; where no list stands, its path fails
abbrev pub list_checks : Path → (List Data → List Check) → Option (List Data) → List Check
list_checks path checks ds = option_map_or checks ds ((path, false) ∷ [])

-- ---- levels of policies

-- the levels that stand under a name of member i of a list, if any do: a list of lists
abbrev pub levels_checks : Name → ℕ → Name → Option Data → List Check
levels_checks list i name None = []
levels_checks list i name (Some levels) =
    list_checks (Field list i name) (each (λ j level. (Entry list i name j, is_list level) ∷ []) 0) (values levels)

-- ---- accounts

-- account i of these: its id is that of no earlier one
abbrev pub account_checks : List Data → ℕ → Data → List Check
account_checks accounts i account =
    (Item Accounts i, is_some (as_object account))
    ∷ ((Field Accounts i Id, option_map_or (is_new_id (take i accounts)) (text_at Id account) false)
    ∷ ((Field Accounts i Management, is_absent_or is_bool Management account)
    ∷ (levels_checks Accounts i Org (member Org account)
    ++ ((Item Accounts i, has_only (Id ∷ (Management ∷ (Org ∷ []))) account) ∷ []))))

-- ---- principals

-- a user has the member `user` and not `role`
abbrev pub is_user : Data → Bool
is_user principal = is_some (member User principal) && is_none (member Role principal)

-- who asks: the ARN of a user, or that of a role and the name of a session
abbrev pub given_checks : ℕ → Data → List Check
given_checks i principal =
    if is_user principal then (Field Principals i User, is_absent_or is_string User principal) ∷ []
    else ((Field Principals i Role, is_absent_or is_string Role principal)
    ∷ ((Field Principals i Session, is_some (text_at Session principal)) ∷ []))

-- the members of a principal. Session policies are those of a session
abbrev pub principal_names : Data → List Name
principal_names principal =
    if is_user principal then User ∷ (Identity ∷ (Boundary ∷ (Context ∷ [])))
    else Role ∷ (Session ∷ (Identity ∷ (Boundary ∷ (SessionPolicies ∷ (Context ∷ [])))))

-- a user, or a session of a role, with `role` and not `user`; who that is, and its members
abbrev pub principal_checks : ℕ → Data → List Check
principal_checks i principal =
    (Item Principals i, is_user principal || (is_some (member Role principal) && is_none (member User principal)))
    ∷ (given_checks i principal
    ++ ((Field Principals i Identity, is_absent_or is_list Identity principal)
    ∷ ((Field Principals i SessionPolicies, is_user principal || is_absent_or is_list SessionPolicies principal)
    ∷ ((Field Principals i Context, is_absent_or is_context Context principal)
    ∷ ((Item Principals i, has_only (principal_names principal) principal) ∷ [])))))

-- ---- resources

abbrev pub resource_checks : ℕ → Data → List Check
resource_checks i resource =
    (Item Resources i, is_some (as_object resource))
    ∷ ((Field Resources i Arn, is_some (text_at Arn resource))
    ∷ ((Field Resources i Account, is_some (text_at Account resource))
    ∷ ((Field Resources i Sealed, is_absent_or is_bool Sealed resource)
    ∷ ((Field Resources i Context, is_absent_or is_context Context resource)
    ∷ (levels_checks Resources i Control (member Control resource)
    ++ ((Item Resources i, has_only (Arn ∷ (Account ∷ (Policy ∷ (Sealed ∷ (Context ∷ (Control ∷ [])))))) resource)
    ∷ []))))))

-- ---- the document

-- the checks of a world document, in order. Its moment is a number of seconds from 1970 to 9999, its actions are texts
abbrev pub shape_checks : Data → List Check
shape_checks d =
    (Root, is_some (as_object d))
    ∷ ((Member Moment, option_map_or (λ seconds. nat_le seconds 253402300799) (number_at Moment d) false)
    ∷ (list_checks (Member Accounts) (λ accounts. each (account_checks accounts) 0 accounts) (list_at Accounts d)
    ++ (list_checks (Member Principals) (each principal_checks 0) (list_at Principals d)
    ++ (list_checks (Member Actions) (each (λ i action. (Item Actions i, is_string action) ∷ []) 0) (list_at Actions d)
    ++ (list_checks (Member Resources) (each resource_checks 0) (list_at Resources d)
    ++ ((Member Context, is_absent_or is_context Context d)
    ∷ ((Root, has_only (Moment ∷ (Accounts ∷ (Principals ∷ (Actions ∷ (Resources ∷ (Context ∷ [])))))) d) ∷ [])))))))
