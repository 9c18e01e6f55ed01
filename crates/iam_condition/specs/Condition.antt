-- The element `Condition` of a statement, its faults and its reading: AWS IAM User Guide, "IAM JSON policy elements:
-- Condition". Its members are operators, each an object whose members are keys, each with a value or a list of them.
-- LOGIC 7.1.
use Rattle.std.specs.Prelude.{◌≡◌, ℕ, List, [], ◌∷◌, Bool, true, false, not, ◌&&◌, ◌||◌, ◌==◌, Some, is_some, is_none, length, nat_lt, map, unwrap_or, ⊤, Any, MatchOption}
use Rattle.std.specs.List.{AllZip, flat_map, list_any}
use Rattle.std.specs.Option.{option_map_or}
use Rattle.serde_json.specs.Data.{Data, null, object, Members, no_members, member}
use Rattle.serde_json.specs.Find.{as_object, as_str}
use Rattle.iam_json.specs.Look.{values}
use Rattle.iam_json.specs.Scalar.{scalar_text}
use Rattle.iam_text.specs.declared.version.Version.{Version}
use Rattle.iam_text.specs.Variables.{is_draft_in}
use Rattle.iam_condition.specs.declared.operator.Base.{Base}
use Rattle.iam_condition.specs.declared.operator.Operator.{Operator}
use Rattle.iam_condition.specs.declared.operand.Operand.{Operand}
use Rattle.iam_condition.specs.Entry.{EntryValue}
use Rattle.iam_condition.specs.Operand.{has_texts, IsOffGrammar, IsOperand}
use Rattle.iam_condition.specs.Operator.{operator_of}

-- the members of an object, in the order of their names' bytes; another value has none
abbrev pub member_list : Members → List (List ℕ × Data)
member_list no_members = []
member_list (member name d rest) = (name, d) ∷ member_list rest

abbrev pub members_of : Data → List (List ℕ × Data)
members_of d = option_map_or member_list (as_object d) []

-- a key under an operator, and what stands there
pub record Given : Type 0 where
  pub operator : Operator
  pub key : List ℕ
  pub value : Data

-- the keys under a name, where it is that of an operator
abbrev pub given_under : List ℕ × Data → List Given
given_under m =
    option_map_or
    (λ operator. map (λ k. record { operator = operator; key = k.0; value = k.1 }) (members_of m.1))
    (operator_of m.0) []

-- the keys under all operators
abbrev pub given_in : Data → List Given
given_in condition = flat_map given_under (members_of condition)

-- the values of a key: those of a list, or the one value
abbrev pub values_under : Data → List Data
values_under d = unwrap_or (values d) (d ∷ [])

-- a text off the variable grammar of the version
abbrev pub is_bad_text : Version → Data → Bool
is_bad_text version d = option_map_or (λ text. not (is_draft_in version text)) (as_str d) false

-- a text under a string or an ARN operator is off the variable grammar of the version
abbrev pub has_bad_text : Version → Data → Bool
has_bad_text version condition =
    list_any (λ g. has_texts g.operator.base && list_any (is_bad_text version) (values_under g.value)) (given_in condition)

-- a member is no operator
abbrev pub has_unknown_operator : Data → Bool
has_unknown_operator condition = list_any (λ m. is_none (operator_of m.0)) (members_of condition)

-- null, or an object
abbrev pub is_no_value : Data → Bool
is_no_value null = true
is_no_value (object ms) = true
is_no_value _ = false

-- no object, or an empty key, or a key with no value
abbrev pub is_bad_keys : Data → Bool
is_bad_keys d = is_none (as_object d) || list_any (λ k. length k.0 == 0 || is_no_value k.1) (members_of d)

-- no object, or an operator with such keys
abbrev pub is_bad_form : Data → Bool
is_bad_form condition =
    is_none (as_object condition)
    || list_any (λ m. is_some (operator_of m.0) && is_bad_keys m.1) (members_of condition)

-- a value that is not a text, a Boolean or a whole number, or whose text is off the operator's grammar
abbrev pub IsBadValue : Base → Data → Type 0
IsBadValue base d = MatchOption (scalar_text d) ⊤ (IsOffGrammar base)

-- some operator has such a value
abbrev pub HasBadValue : Data → Type 0
HasBadValue condition = Any (λ g. Any (IsBadValue g.operator.base) (values_under g.value)) (given_in condition)

-- some key has over 4,096 values
abbrev pub has_many_values : Data → Bool
has_many_values condition = list_any (λ g. nat_lt 4096 (length (values_under g.value))) (given_in condition)

-- a value is read by its text
abbrev pub ReadsValue : Version → Base → Data → Operand → Type 0
ReadsValue version base d value = (text : List ℕ) × (scalar_text d ≡ Some text) × IsOperand version base text value

-- a key is read with its operator and its values
pub record ReadsEntry (version : Version) (given : Given) (entry : EntryValue) : Type 0 where
  pub operator : entry.operator ≡ given.operator
  pub key : entry.key ≡ given.key
  pub values : AllZip (ReadsValue version given.operator.base) (values_under given.value) entry.values

-- a condition of a document of the version is read key by key
abbrev pub ReadsCondition : Version → Data → List EntryValue → Type 0
ReadsCondition version condition entries = AllZip (ReadsEntry version) (given_in condition) entries
