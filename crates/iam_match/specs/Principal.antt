-- The principals of a statement, and what they name and grant: AWS IAM User Guide, "AWS JSON policy elements:
-- Principal", "NotPrincipal" and "Cross account policy evaluation logic". LOGIC 5.2, 5.3, 5.4 and 5.5.
use Rattle.std.specs.Prelude.{◌≢◌, ℕ, List, [], ◌∷◌, Bool, true, false, ◌&&◌, ◌||◌, nat_lt, Option, IfSome, MatchBool, IsTrue, filter, map, codes, if◌then◌else◌}
use Rattle.std.specs.List.{list_all, list_any}
use Rattle.std.specs.Option.{option_map_or}
use Rattle.std.specs.Str.{bytes_eq}
use Rattle.iam_element.specs.declared.principals.PrincipalKind.{PrincipalKind}
use Rattle.iam_element.specs.declared.principals.PrincipalKind.TheVariants.{Aws}
use Rattle.iam_element.specs.Reading.{PrincipalElement, PrincipalText}
use Rattle.iam_match.specs.declared.principal.Grant.{Grant}
use Rattle.iam_match.specs.declared.principal.Grant.TheVariants.{None, Account, Role, Direct}
use Rattle.iam_context.specs.Requester.{RequesterValue, role_arn, root_arn, session_arn, user_arn}

-- a name of a requester: its account, by the account's digits and the ARN of its root; or the user, the role or the
-- session, by their ARNs
pub data Name : Type 0 where
  the_account : List ℕ → List ℕ → Name
  the_user : List ℕ → Name
  the_role : List ℕ → Name
  the_session : List ℕ → Name

-- the names of a requester: its account and the user, or its account, the role and the session
abbrev pub names : RequesterValue → List Name
names r =
    the_account r.account (root_arn r)
    ∷ option_map_or (λ session. the_role (role_arn r) ∷ (the_session (session_arn r session) ∷ [])) r.session
    (the_user (user_arn r) ∷ [])

-- the text stands for this name
abbrev pub is_text_of : Name → List ℕ → Bool
is_text_of (the_account digits root) text = bytes_eq text digits || bytes_eq text root
is_text_of (the_user arn) text = bytes_eq text arn
is_text_of (the_role arn) text = bytes_eq text arn
is_text_of (the_session arn) text = bytes_eq text arn

abbrev pub is_aws : PrincipalKind → Bool
is_aws Aws = true
is_aws _ = false

-- a text under `AWS` names what it stands for, and `*` names everything; a text under another type names nobody
abbrev pub is_named : PrincipalText → Name → Bool
is_named principal name =
    is_aws principal.kind && (bytes_eq principal.text (codes "*") || is_text_of name principal.text)

-- the order of the grant kinds
abbrev pub rank : Grant → ℕ
rank None = 0
rank Account = 1
rank Role = 2
rank Direct = 3

-- the higher of two grant kinds
abbrev pub higher : Grant → Grant → Grant
higher a b = if nat_lt (rank b) (rank a) then a else b

-- the greatest of some grant kinds
abbrev pub greatest : List Grant → Grant
greatest [] = None
greatest (grant ∷ grants) = higher grant (greatest grants)

-- what a grant to a name is
abbrev pub grant_to : Name → Grant
grant_to (the_account digits root) = Account
grant_to (the_user arn) = Direct
grant_to (the_role arn) = Role
grant_to (the_session arn) = Direct

-- what a text grants a requester: the greatest over the names that it names
abbrev pub grant_of_text : RequesterValue → PrincipalText → Grant
grant_of_text r principal = greatest (map grant_to (filter (is_named principal) (names r)))

-- what a principal element grants a requester: `Principal` the greatest of its texts, `NotPrincipal` nothing
abbrev pub grant_of_element : RequesterValue → PrincipalElement → Grant
grant_of_element r element = if element.negated then None else greatest (map (grant_of_text r) element.names)

-- a statement without either element grants nothing
abbrev pub grant_of : Option PrincipalElement → RequesterValue → Grant
grant_of element r = option_map_or (grant_of_element r) element None

-- some text names the name
abbrev pub is_listed : List PrincipalText → Name → Bool
is_listed principals name = list_any (λ principal. is_named principal name) principals

-- `Principal` holds where it grants something; `NotPrincipal` holds unless each name of the requester is named by
-- some text
abbrev pub ElementHolds : RequesterValue → PrincipalElement → Type 0
ElementHolds r element =
    MatchBool element.negated (¬ IsTrue (list_all (is_listed element.names) (names r)))
    (grant_of_element r element ≢ None)

-- a statement without either element is about every requester
abbrev pub PrincipalMatches : Option PrincipalElement → RequesterValue → Type 0
PrincipalMatches element r = IfSome element (ElementHolds r)
