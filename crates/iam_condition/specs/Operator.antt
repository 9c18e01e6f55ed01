-- The names of operators: AWS IAM User Guide, "IAM JSON policy elements: Condition operators". LOGIC 7.2.
use Rattle.std.specs.Prelude.{ℕ, ◌-◌, List, [], ◌∷◌, Bool, true, false, Option, Some, None, codes, length, take, drop, nat_eq, option_map, if◌then◌else◌}
use Rattle.std.specs.List.{find, starts_with, ends_with}
use Rattle.std.specs.Str.{bytes_eq}
use Rattle.iam_condition.specs.declared.operator.Operator.{Operator}
use Rattle.iam_condition.specs.declared.operator.Quantifier.{Quantifier}
use Rattle.iam_condition.specs.declared.operator.Quantifier.TheVariants.{ForAllValues, ForAnyValue}
use Rattle.iam_condition.specs.declared.operator.Base.{Base}
use Rattle.iam_condition.specs.declared.operator.Base.TheVariants.{Text, Arn, Number, Date, Truth, Binary, Address, Null}
use Rattle.iam_condition.specs.declared.operator.TextTest.TheVariants.{Equals, EqualsIgnoreCase, Like}
use Rattle.iam_condition.specs.declared.operator.Order.TheVariants.{Equal, Less, AtMost, Greater, AtLeast}

-- the name of an operator without what stands before and behind it
pub record Row : Type 0 where
  pub name : List ℕ
  pub base : Base
  pub negated : Bool

abbrev pub positive : List ℕ → Base → Row
positive name base = record { name = name; base = base; negated = false }

abbrev pub negative : List ℕ → Base → Row
negative name base = record { name = name; base = base; negated = true }

-- all of them but `Null`
abbrev pub rows : List Row
rows =
    positive (codes "StringEquals") (Text Equals)
    ∷ negative (codes "StringNotEquals") (Text Equals)
    ∷ positive (codes "StringEqualsIgnoreCase") (Text EqualsIgnoreCase)
    ∷ negative (codes "StringNotEqualsIgnoreCase") (Text EqualsIgnoreCase)
    ∷ positive (codes "StringLike") (Text Like)
    ∷ negative (codes "StringNotLike") (Text Like)
    ∷ positive (codes "NumericEquals") (Number Equal)
    ∷ negative (codes "NumericNotEquals") (Number Equal)
    ∷ positive (codes "NumericLessThan") (Number Less)
    ∷ positive (codes "NumericLessThanEquals") (Number AtMost)
    ∷ positive (codes "NumericGreaterThan") (Number Greater)
    ∷ positive (codes "NumericGreaterThanEquals") (Number AtLeast)
    ∷ positive (codes "DateEquals") (Date Equal)
    ∷ negative (codes "DateNotEquals") (Date Equal)
    ∷ positive (codes "DateLessThan") (Date Less)
    ∷ positive (codes "DateLessThanEquals") (Date AtMost)
    ∷ positive (codes "DateGreaterThan") (Date Greater)
    ∷ positive (codes "DateGreaterThanEquals") (Date AtLeast)
    ∷ positive (codes "Bool") Truth
    ∷ positive (codes "BinaryEquals") Binary
    ∷ positive (codes "IpAddress") Address
    ∷ negative (codes "NotIpAddress") Address
    ∷ positive (codes "ArnEquals") Arn
    ∷ negative (codes "ArnNotEquals") Arn
    ∷ positive (codes "ArnLike") Arn
    ∷ negative (codes "ArnNotLike") Arn
    ∷ []

-- what may stand before the name, and what follows it
abbrev pub behind_quantifier : List ℕ → Option Quantifier × List ℕ
behind_quantifier name =
    if starts_with nat_eq name (codes "ForAllValues:") then (Some ForAllValues, drop 13 name)
    else (if starts_with nat_eq name (codes "ForAnyValue:") then (Some ForAnyValue, drop 12 name) else (None, name))

-- what stands before `IfExists`, and whether that stands there
abbrev pub before_if_exists : List ℕ → List ℕ × Bool
before_if_exists name = if ends_with nat_eq name (codes "IfExists") then (take (length name - 8) name, true) else (name, false)

abbrev pub operator_with : Option Quantifier → Bool → Row → Operator
operator_with quantifier if_exists row =
    record { quantifier = quantifier; base = row.base; is_negated = row.negated; if_exists = if_exists }

-- the operator of a row's name, with or without `IfExists`
abbrev pub single_operator : Option Quantifier → List ℕ × Bool → Option Operator
single_operator quantifier parts = option_map (operator_with quantifier parts.1) (find (λ row. bytes_eq parts.0 row.name) rows)

-- the operator of a name: `Null` alone, or `ForAllValues:`, `ForAnyValue:` or neither, a row's name, and `IfExists` or not
unfoldable pub operator_of : List ℕ → Option Operator
operator_of name =
    if bytes_eq name (codes "Null") then Some (record { quantifier = None; base = Null; is_negated = false; if_exists = false })
    else single_operator (behind_quantifier name).0 (before_if_exists (behind_quantifier name).1)
