-- What the walk of a shape gives, and the checks that each of its steps makes.
use Rattle.std.specs.Prelude.{◌≡◌, ◌≢◌, ℕ, List, [], ◌∷◌, ◌++◌, Bool, not, ◌&&◌, ◌||◌, Result, Some, None, false, is_some, nat_le, MatchResult}
use Rattle.std.specs.List.{list_all}
use Rattle.std.specs.Option.{option_map_or}
use Rattle.serde_json.specs.Data.{Data}
use Rattle.serde_json.specs.Find.{as_object}
use Rattle.iam_json.specs.Look.{is_one_of, values}
use Rattle.iam_json.specs.Scalar.{is_scalar}
use Rattle.iam_text.specs.Characters.{is_account}
use Rattle.iam_shape.specs.declared.path.Name.{Name}
use Rattle.iam_shape.specs.declared.path.Name.TheVariants.{Moment, Accounts, Principals, Actions, Resources, Context, Id, Management, Org, User, Role, Session, Identity, Boundary, SessionPolicies, Arn, Account, Policy, Sealed, Control}
use Rattle.iam_shape.specs.declared.path.Path.{Path}
use Rattle.iam_shape.specs.declared.path.Path.TheVariants.{Root, Member, Item, Field, Entry}
use Rattle.iam_shape.specs.declared.fault.ShapeFault.{ShapeFault}
use Rattle.iam_shape.specs.declared.fault.ShapeFault.TheVariants.{OutOfMemory}
use Rattle.iam_shape.specs.Shape.{Check, IsShapeFault, first_bad, has_only, is_absent_or, is_bool, is_context, is_list, is_string, levels_checks, member, number_at, text_at}

-- no check fails, and P holds of what was found; or this is the path of the first that fails
abbrev pub Walks : {A : Type 0} → List Check → (A → Type 0) → Result A Path → Type 0
Walks checks P result = MatchResult result (λ found. (first_bad checks ≡ None) × P found) (λ path. first_bad checks ≡ Some path)

-- the same of a walk that needs memory, which may be refused
abbrev pub MayWalk : {A : Type 0} → List Check → (A → Type 0) → Result A ShapeFault → Type 0
MayWalk checks P result =
    MatchResult result (λ found. (first_bad checks ≡ None) × P found) (λ fault. fault ≢ OutOfMemory → IsShapeFault checks fault)

-- a text, a Boolean or a whole number, or a list of these
abbrev pub is_context_value : Data → Bool
is_context_value d = is_scalar d || option_map_or (list_all is_scalar) (values d) false

-- twelve digits, and none of these ids
abbrev pub is_new_beside : List (List ℕ) → List ℕ → Bool
is_new_beside ids text = is_account text && not (is_one_of ids text)

-- what is checked of a document before its lists: that it is an object, and its moment
abbrev pub head_checks : Data → List Check
head_checks d =
    (Root, is_some (as_object d))
    ∷ ((Member Moment, option_map_or (λ seconds. nat_le seconds 253402300799) (number_at Moment d) false)
    ∷ [])

-- and behind them: its context, and that it has no other members
abbrev pub tail_checks : Data → List Check
tail_checks d =
    (Member Context, is_absent_or is_context Context d)
    ∷ ((Root, has_only (Moment ∷ (Accounts ∷ (Principals ∷ (Actions ∷ (Resources ∷ (Context ∷ [])))))) d)
    ∷ [])

-- what is checked of level j of those that stand under a name of member i of a list
abbrev pub level_checks : Name → ℕ → Name → ℕ → Data → List Check
level_checks list i name j level = (Entry list i name j, is_list level) ∷ []

-- a level is a list of these values
abbrev pub IsLevel : Data → List Data → Type 0
IsLevel level ds = values level ≡ Some ds

-- what is checked of action i
abbrev pub action_checks : ℕ → Data → List Check
action_checks i action = (Item Actions i, is_string action) ∷ []

-- what is left to check of a principal that has a member `user` alone
abbrev pub user_checks : ℕ → Data → List Check
user_checks i user =
    (Field Principals i User, is_absent_or is_string User user)
    ∷ ((Field Principals i Identity, is_absent_or is_list Identity user)
    ∷ ((Field Principals i Context, is_absent_or is_context Context user)
    ∷ ((Item Principals i, has_only (User ∷ (Identity ∷ (Boundary ∷ (Context ∷ [])))) user)
    ∷ [])))

-- what is left to check of a principal that has a member `role` alone
abbrev pub session_checks : ℕ → Data → List Check
session_checks i session =
    (Field Principals i Role, is_absent_or is_string Role session)
    ∷ ((Field Principals i Session, is_some (text_at Session session))
    ∷ ((Field Principals i Identity, is_absent_or is_list Identity session)
    ∷ ((Field Principals i SessionPolicies, is_absent_or is_list SessionPolicies session)
    ∷ ((Field Principals i Context, is_absent_or is_context Context session)
    ∷ ((Item Principals i, has_only (Role ∷ (Session ∷ (Identity ∷ (Boundary ∷ (SessionPolicies ∷ (Context ∷ [])))))) session)
    ∷ [])))))

-- what is checked of an account before its levels: that it is an object, its id, which no account before it has, and
-- whether it manages its organisation
abbrev pub account_front : List (List ℕ) → ℕ → Data → List Check
account_front ids i account =
    (Item Accounts i, is_some (as_object account))
    ∷ ((Field Accounts i Id, option_map_or (is_new_beside ids) (text_at Id account) false)
    ∷ ((Field Accounts i Management, is_absent_or is_bool Management account)
    ∷ []))

-- and behind them: that it has no other members
abbrev pub account_back : ℕ → Data → List Check
account_back i account = (Item Accounts i, has_only (Id ∷ (Management ∷ (Org ∷ []))) account) ∷ []

-- all that is checked of an account behind accounts of these ids
abbrev pub checks_behind : List (List ℕ) → ℕ → Data → List Check
checks_behind ids i account =
    account_front ids i account ++ (levels_checks Accounts i Org (member Org account) ++ account_back i account)

-- what is checked of a resource before its levels, and behind them
abbrev pub resource_front : ℕ → Data → List Check
resource_front i resource =
    (Item Resources i, is_some (as_object resource))
    ∷ ((Field Resources i Arn, is_some (text_at Arn resource))
    ∷ ((Field Resources i Account, is_some (text_at Account resource))
    ∷ ((Field Resources i Sealed, is_absent_or is_bool Sealed resource)
    ∷ ((Field Resources i Context, is_absent_or is_context Context resource)
    ∷ []))))

abbrev pub resource_back : ℕ → Data → List Check
resource_back i resource =
    (Item Resources i, has_only (Arn ∷ (Account ∷ (Policy ∷ (Sealed ∷ (Context ∷ (Control ∷ [])))))) resource) ∷ []
