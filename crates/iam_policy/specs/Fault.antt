-- The faults of a document, as a set: AWS IAM User Guide, "Grammar of the IAM JSON policy language".
-- Each line of the fault table is one case, by itself. BadValue is no test of a `Bool`: it is the last case of
-- `HasFault`. LOGIC 6.1, 6.2, 6.3, 6.4, 6.8 and 15.
use Rattle.std.specs.Prelude.{◌≡◌, ℕ, suc, ◌<◌, ◌≤◌, ◌⊎◌, List, [], ◌∷◌, Bool, true, false, not, ◌&&◌, ◌||◌, ◌==◌, Option, Some, None, is_some, is_none, IsTrue, codes, if◌then◌else◌, length, nat_lt, take, unwrap_or, MatchOption}
use Rattle.std.specs.List.{slice_get, filter_map}
use Rattle.std.specs.Option.{option_map_or}
use Rattle.serde_json.specs.Data.{Data}
use Rattle.serde_json.specs.Find.{get, as_object}
use Rattle.iam_json.specs.Look.{values, has_unknown, is_one_of}
use Rattle.iam_condition.specs.Condition.{HasBadValue, has_bad_text, has_many_values, has_unknown_operator, is_bad_form}
use Rattle.iam_policy.specs.declared.fault.Fault.{Fault}
use Rattle.iam_policy.specs.declared.fault.Fault.TheVariants.{NotObject, UnknownElement, BadVersion, NoStatement, BadStatement, BadSid, DuplicateSid, BadEffect, ActionCount, BadAction, PrincipalMisplaced, PrincipalMissing, BadPrincipal, NotPrincipalAllow, ResourceCount, BadResource, BadVariable, UnknownOperator, BadCondition, BadValue, TooMany}
use Rattle.iam_policy.specs.declared.fault.Kind.{Kind}
use Rattle.iam_policy.specs.declared.fault.Kind.TheVariants.{Identity, Resource, Org, Control}
use Rattle.iam_policy.specs.declared.fault.PrincipalRule.{PrincipalRule}
use Rattle.iam_policy.specs.declared.fault.PrincipalRule.TheVariants.{Nobody, Somebody, Everyone}
use Rattle.iam_element.specs.Element.{both, neither, stands_as, is_no_text, is_this, is_bad_list, is_too_long}
use Rattle.iam_policy.specs.Statement.{sid_of, effect_of}
use Rattle.iam_element.specs.ActionPattern.{is_action_pattern}
use Rattle.iam_element.specs.Grammar.{has_bad_variable, is_resource_pattern}
use Rattle.iam_element.specs.Principal.{is_everyone, is_principal, has_long_kind}
use Rattle.iam_policy.specs.Table.{number_of, fault_is}
use Rattle.iam_policy.specs.Version.{version_named, version_of}

-- the members of a document
abbrev pub document_names : List (List ℕ)
document_names = codes "Version" ∷ (codes "Id" ∷ (codes "Statement" ∷ []))

-- the members of a statement
abbrev pub statement_names : List (List ℕ)
statement_names =
    codes "Sid" ∷ (codes "Effect" ∷ (codes "Action" ∷ (codes "NotAction" ∷ (codes "Resource" ∷ (codes "NotResource"
    ∷ (codes "Principal" ∷ (codes "NotPrincipal" ∷ (codes "Condition" ∷ []))))))))

-- whether each statement of this kind must have `Resource` or `NotResource`
abbrev pub wants_resource : Kind → Bool
wants_resource Identity = true
wants_resource Resource = false
wants_resource Org = true
wants_resource Control = true

-- whom each statement of this kind names
abbrev pub principal_rule : Kind → PrincipalRule
principal_rule Identity = Nobody
principal_rule Resource = Somebody
principal_rule Org = Nobody
principal_rule Control = Everyone

-- whether no two statements of this kind may have the same `Sid`
abbrev pub wants_distinct_sids : Kind → Bool
wants_distinct_sids Identity = true
wants_distinct_sids Resource = false
wants_distinct_sids Org = true
wants_distinct_sids Control = false

-- one object stands for a list of one statement
abbrev pub statements_under : Option Data → List Data
statements_under None = []
statements_under (Some d) = unwrap_or (values d) (if is_some (as_object d) then d ∷ [] else [])

-- the statements of a document
abbrev pub statements_in : Data → List Data
statements_in d = statements_under (get (codes "Statement") d)

-- neither a list nor an object
abbrev pub is_bad_statement : Data → Bool
is_bad_statement d = is_none (values d) && is_none (as_object d)

-- the Sids of the statements before statement i
abbrev pub sids_before : Data → ℕ → List (List ℕ)
sids_before d i = filter_map sid_of (take i (statements_in d))

-- the `Sid` is a text, is not empty, and is one of the earlier ones
abbrev pub repeats_sid : List (List ℕ) → Data → Bool
repeats_sid earlier s = option_map_or (λ sid. not (length sid == 0) && is_one_of earlier sid) (sid_of s) false

-- a list of actions, of resources or of texts of one principal type has over 4,096 members
abbrev pub has_long_list : Data → Bool
has_long_list s =
    is_too_long (get (codes "Action") s) || is_too_long (get (codes "NotAction") s)
    || is_too_long (get (codes "Resource") s) || is_too_long (get (codes "NotResource") s)
    || stands_as has_long_kind (get (codes "Principal") s) || stands_as has_long_kind (get (codes "NotPrincipal") s)

-- `Principal` or `NotPrincipal` stands there
abbrev pub has_principal : Data → Bool
has_principal s = is_some (get (codes "Principal") s) || is_some (get (codes "NotPrincipal") s)

-- both stand there, or one that is off the principal grammar
abbrev pub has_bad_principal : Data → Bool
has_bad_principal s =
    both (get (codes "Principal") s) (get (codes "NotPrincipal") s)
    || stands_as (λ p. not (is_principal p)) (get (codes "Principal") s)
    || stands_as (λ p. not (is_principal p)) (get (codes "NotPrincipal") s)

-- `NotPrincipal` stands there in a statement that allows
abbrev pub allows_by_not_principal : Data → Bool
allows_by_not_principal s = is_some (get (codes "NotPrincipal") s) && is_this (codes "Allow") (get (codes "Effect") s)

-- `Principal` stands there and is everyone, `*` alone or under `AWS`, and `NotPrincipal` does not
abbrev pub names_everyone : Data → Bool
names_everyone s = stands_as is_everyone (get (codes "Principal") s) && is_none (get (codes "NotPrincipal") s)

-- the lines of the table for the principal elements, by whom a statement is to name
abbrev pub principal_line : PrincipalRule → Data → Fault → Bool
principal_line Nobody s PrincipalMisplaced = has_principal s
principal_line Somebody s PrincipalMissing = not (has_principal s)
principal_line Somebody s BadPrincipal = has_bad_principal s
principal_line Somebody s NotPrincipalAllow = allows_by_not_principal s
principal_line Everyone s BadPrincipal = not (names_everyone s)
principal_line _ s _ = false

-- the lines of the table for a document that is an object
abbrev pub document_line : Kind → Data → Fault → Bool
document_line kind d UnknownElement = has_unknown document_names d || is_no_text (get (codes "Id") d)
document_line kind d BadVersion = is_none (version_named (get (codes "Version") d))
document_line kind d NoStatement = is_none (get (codes "Statement") d)
document_line kind d BadStatement = stands_as is_bad_statement (get (codes "Statement") d)
document_line kind d TooMany = nat_lt 4096 (length (statements_in d))
document_line kind d _ = false

-- the lines of the table for statement i of the document, where it is an object
abbrev pub statement_line : Kind → Data → ℕ → Data → Fault → Bool
statement_line kind d i s UnknownElement = has_unknown statement_names s
statement_line kind d i s BadSid = is_no_text (get (codes "Sid") s)
statement_line kind d i s DuplicateSid = wants_distinct_sids kind && repeats_sid (sids_before d i) s
statement_line kind d i s BadEffect = is_none (effect_of s)
statement_line kind d i s ActionCount =
    both (get (codes "Action") s) (get (codes "NotAction") s)
    || neither (get (codes "Action") s) (get (codes "NotAction") s)
statement_line kind d i s BadAction =
    is_bad_list is_action_pattern (get (codes "Action") s) || is_bad_list is_action_pattern (get (codes "NotAction") s)
statement_line kind d i s PrincipalMisplaced = principal_line (principal_rule kind) s PrincipalMisplaced
statement_line kind d i s PrincipalMissing = principal_line (principal_rule kind) s PrincipalMissing
statement_line kind d i s BadPrincipal = principal_line (principal_rule kind) s BadPrincipal
statement_line kind d i s NotPrincipalAllow = principal_line (principal_rule kind) s NotPrincipalAllow
statement_line kind d i s ResourceCount =
    both (get (codes "Resource") s) (get (codes "NotResource") s)
    || (wants_resource kind && neither (get (codes "Resource") s) (get (codes "NotResource") s))
statement_line kind d i s BadResource =
    is_bad_list is_resource_pattern (get (codes "Resource") s) || is_bad_list is_resource_pattern (get (codes "NotResource") s)
statement_line kind d i s BadVariable =
    has_bad_variable (version_of d) s || stands_as (has_bad_text (version_of d)) (get (codes "Condition") s)
statement_line kind d i s UnknownOperator = stands_as has_unknown_operator (get (codes "Condition") s)
statement_line kind d i s BadCondition = stands_as is_bad_form (get (codes "Condition") s)
statement_line kind d i s TooMany = has_long_list s || stands_as has_many_values (get (codes "Condition") s)
statement_line kind d i s _ = false

-- a document that is no object has that fault alone
abbrev pub document_has : Kind → Data → Fault → Bool
document_has kind d fault =
    if is_some (as_object d) then document_line kind d fault else fault_is NotObject fault

-- a statement that is no object has that fault alone
abbrev pub statement_has : Kind → Data → ℕ → Data → Fault → Bool
statement_has kind d i s fault =
    if is_some (as_object s) then statement_line kind d i s fault else fault_is BadStatement fault

-- a value of a condition is off the grammar of its operator
abbrev pub HasBadValueIn : Data → Type 0
HasBadValueIn s = MatchOption (get (codes "Condition") s) ⊥ HasBadValue

-- the set of faults: a place is the document, or the number of a statement. The last case is the line BadValue
abbrev pub HasFault : Kind → Data → Option ℕ → Fault → Type 0
HasFault kind d None fault = IsTrue (document_has kind d fault)
HasFault kind d (Some i) fault =
    IsTrue (option_map_or (λ s. statement_has kind d i s fault) (slice_get (statements_in d) i) false)
    ⊎ ((fault ≡ BadValue) × (s : Data) × (slice_get (statements_in d) i ≡ Some s) × HasBadValueIn s)

-- the set is empty
abbrev pub IsAccepted : Kind → Data → Type 0
IsAccepted kind d = (place : Option ℕ) (fault : Fault) → ¬ HasFault kind d place fault

-- the document stands before statement 0
abbrev pub place_rank : Option ℕ → ℕ
place_rank None = 0
place_rank (Some i) = suc i

-- no later than: by place, then by number
abbrev pub IsNotAfter : Option ℕ → Fault → Option ℕ → Fault → Type 0
IsNotAfter place fault place' fault' =
    (place_rank place < place_rank place') ⊎ ((place_rank place ≡ place_rank place') × (number_of fault ≤ number_of fault'))

-- the least member of the set
pub record IsLeastFault (kind : Kind) (d : Data) (place : Option ℕ) (fault : Fault) : Type 0 where
  pub holds : HasFault kind d place fault
  pub least :
      (place' : Option ℕ) (fault' : Fault) → HasFault kind d place' fault' → IsNotAfter place fault place' fault'
