-- What the code tests of one operator and of one key, and how it looks for bad values, beside `Condition`.
use Rattle.std.specs.Prelude.{◌≡◌, ◌⊎◌, ℕ, List, [], ◌∷◌, Bool, Some, is_some, ◌&&◌, ◌||◌, ◌==◌, length, nat_lt}
use Rattle.std.specs.List.{list_any}
use Rattle.serde_json.specs.Data.{Data}
use Rattle.iam_condition.specs.declared.form.KeyFault.{KeyFault}
use Rattle.iam_condition.specs.declared.form.KeyFault.TheVariants.{BadText, ManyValues}
use Rattle.iam_condition.specs.declared.operator.Base.{Base}
use Rattle.iam_condition.specs.declared.operator.Operator.{Operator}
use Rattle.iam_condition.specs.Condition.{Given, IsBadValue, given_under, is_bad_keys, is_bad_text, is_no_value, members_of, values_under}
use Rattle.iam_condition.specs.Operand.{has_texts}
use Rattle.iam_condition.specs.Operator.{operator_of}

-- a key under an operator
abbrev pub given : Operator → List ℕ × Data → Given
given operator k = record { operator = operator; key = k.0; value = k.1 }

-- the key is empty, or has no value
abbrev pub is_bad_key : List ℕ × Data → Bool
is_bad_key k = length k.0 == 0 || is_no_value k.1

-- the member is an operator with such keys
abbrev pub is_bad_member : List ℕ × Data → Bool
is_bad_member m = is_some (operator_of m.0) && is_bad_keys m.1

-- a key has the fault
abbrev pub key_has : KeyFault → Base → Data → Bool
key_has (BadText version) base value = has_texts base && list_any (is_bad_text version) (values_under value)
key_has ManyValues base value = nat_lt 4096 (length (values_under value))

abbrev pub given_has : KeyFault → Given → Bool
given_has fault g = key_has fault g.operator.base g.value

-- a key under a name has the fault, where it is that of an operator
abbrev pub member_has : KeyFault → List ℕ × Data → Bool
member_has fault m = list_any (given_has fault) (given_under m)

-- it is so of an element of the list
abbrev pub AnyOf : {X : Type 0} → (X → Type 0) → List X → Type 0
AnyOf P [] = ⊥
AnyOf P (x ∷ xs) = P x ⊎ AnyOf P xs

-- a key has a bad value
abbrev pub IsBadUnder : Base → List ℕ × Data → Type 0
IsBadUnder base k = AnyOf (IsBadValue base) (values_under k.1)

-- a name is that of an operator, and a key under it has a bad value
abbrev pub IsBadMember : List ℕ × Data → Type 0
IsBadMember m = (operator : Operator) × (operator_of m.0 ≡ Some operator) × AnyOf (IsBadUnder operator.base) (members_of m.1)
