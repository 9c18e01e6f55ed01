-- When an entry of a condition holds: AWS IAM User Guide, "IAM JSON policy elements: Condition operators" and
-- "Single-valued vs. multivalued context keys". That a text of a request which is off the operator's grammar matches
-- nothing, and how a value that does not resolve counts, are our choices. LOGIC 4.4, 6.8, 7.1, 7.3, 7.4 and 7.5.
use Rattle.std.specs.Prelude.{◌≡◌, ◌⊎◌, ℕ, ℤ, ◌<ℤ◌, ◌≤ℤ◌, List, [], ◌∷◌, ◌++◌, Bool, true, false, Option, Some, None, IsSome, IsTrue, ⊤, All, Any, MatchBool}
use Rattle.std.specs.Str.{chars}
use Rattle.iam_text.specs.Arn.{IsArn, colon}
use Rattle.iam_glob.specs.Glob.{Equals, EqualsFold, Matches}
use Rattle.iam_text.specs.declared.draft.Piece.{Piece}
use Rattle.iam_glob.specs.declared.sign.Sign.{Sign}
use Rattle.iam_glob.specs.declared.sign.Sign.TheVariants as sign
use Rattle.iam_value.specs.Address.{AddressBits, Block, Holds, IsAddress}
use Rattle.iam_value.specs.Moment.{IsMoment}
use Rattle.iam_value.specs.Values.{IsBase64, IsTruth, IsWhole}
use Rattle.iam_context.specs.Context.{ContextValue, values_of}
use Rattle.iam_context.specs.Resolve.{resolved}
use Rattle.iam_condition.specs.declared.operand.Operand.{Operand}
use Rattle.iam_condition.specs.declared.operand.Operand.TheVariants as operand
use Rattle.iam_condition.specs.declared.operator.Base.{Base}
use Rattle.iam_condition.specs.declared.operator.Base.TheVariants.{Text, Arn, Number, Date, Truth, Binary, Address, Null}
use Rattle.iam_condition.specs.declared.operator.Operator.{Operator}
use Rattle.iam_condition.specs.declared.operator.Order.{Order}
use Rattle.iam_condition.specs.declared.operator.Order.TheVariants.{Equal, Less, AtMost, Greater, AtLeast}
use Rattle.iam_condition.specs.declared.operator.Quantifier.{Quantifier}
use Rattle.iam_condition.specs.declared.operator.Quantifier.TheVariants.{ForAllValues, ForAnyValue}
use Rattle.iam_condition.specs.declared.operator.TextTest.{TextTest}
use Rattle.iam_condition.specs.declared.operator.TextTest.TheVariants as test
use Rattle.iam_condition.specs.Entry.{EntryValue}
use Rattle.iam_condition.specs.Operand.{has_texts}

-- how the value of the request stands to that of the policy
abbrev pub Ordered : Order → ℤ → ℤ → Type 0
Ordered Equal n m = n ≡ m
Ordered Less n m = n <ℤ m
Ordered AtMost n m = n ≤ℤ m
Ordered Greater n m = m <ℤ n
Ordered AtLeast n m = m ≤ℤ n

-- a text of the request and a resolved text of the policy
abbrev pub PatternMatches : TextTest → List Sign → List ℕ → Type 0
PatternMatches test.Equals signs text = Equals signs (chars text)
PatternMatches test.EqualsIgnoreCase signs text = EqualsFold signs (chars text)
PatternMatches test.Like signs text = Matches signs (chars text)

-- a given character that is not the colon, or a wildcard
abbrev pub IsNoColon : Sign → Type 0
IsNoColon s = ¬ (s ≡ sign.Given colon)

-- the signs, cut at their first given colons, have a pattern for each part and match it
abbrev pub PartsMatch : List Sign → List (List ℕ) → Type 0
PartsMatch signs [] = ⊥
PartsMatch signs (part ∷ []) = Matches signs (chars part)
PartsMatch signs (part ∷ next ∷ parts) =
    (first : List Sign) × (rest : List Sign) × (signs ≡ first ++ (sign.Given colon ∷ rest)) × All IsNoColon first
    × Matches first (chars part) × PartsMatch rest (next ∷ parts)

-- the text is an ARN; the signs are the one wildcard `*`, or have six parts, each of which matches its part
abbrev pub ArnMatches : List Sign → List ℕ → Type 0
ArnMatches signs text =
    (parts : List (List ℕ)) × IsArn parts text × ((signs ≡ sign.Any ∷ []) ⊎ PartsMatch signs parts)

-- the text of the policy becomes a pattern, of which this holds
abbrev pub ResolvesTo : ContextValue → Operand → (List Sign → Type 0) → Type 0
ResolvesTo context value P =
    (pieces : List Piece) × (signs : List Sign) × (value ≡ operand.Text pieces) × (resolved context pieces ≡ Some signs) × P signs

-- a text of the request matches a value of the policy
abbrev pub ValueMatches : ContextValue → Base → List ℕ → Operand → Type 0
ValueMatches context (Text test) text value = ResolvesTo context value (λ signs. PatternMatches test signs text)
ValueMatches context Arn text value = ResolvesTo context value (λ signs. ArnMatches signs text)
ValueMatches context (Number order) text value =
    (n : ℤ) × (m : ℤ) × (value ≡ operand.Number m) × IsWhole text n × Ordered order n m
ValueMatches context (Date order) text value =
    (n : ℤ) × (m : ℤ) × (value ≡ operand.Instant m) × IsMoment text n × Ordered order n m
ValueMatches context Truth text value = (truth : Bool) × (value ≡ operand.Truth truth) × IsTruth text truth
ValueMatches context Binary text value = (bytes : List ℕ) × (value ≡ operand.Bytes bytes) × IsBase64 text bytes
ValueMatches context Address text value =
    (address : AddressBits) × (range : Block) × (value ≡ operand.Range range) × IsAddress text address × Holds range address
ValueMatches context Null text value = ⊥

-- where the values are texts, this one becomes a pattern
abbrev pub Resolves : ContextValue → Base → Operand → Type 0
Resolves context base value =
    IsTrue (has_texts base) → (pieces : List Piece) → value ≡ operand.Text pieces → IsSome (resolved context pieces)

-- a text of the request satisfies an operator where it matches some value; and its negation where all values resolve and
-- it matches none
abbrev pub Satisfies : ContextValue → Operator → List Operand → List ℕ → Type 0
Satisfies context operator values text =
    let some_matches = Any (ValueMatches context operator.base text) values in
    MatchBool operator.is_negated (All (Resolves context operator.base) values × ¬ some_matches) some_matches

-- whether each value of the request has to satisfy the operator, and not some value: a quantifier decides before the
-- negation
abbrev pub asks_every : Option Quantifier → Bool → Bool
asks_every (Some ForAllValues) negated = true
asks_every (Some ForAnyValue) negated = false
asks_every None negated = negated

-- whether it asks for the presence of a key alone
abbrev pub is_null : Base → Bool
is_null Null = true
is_null _ = false

-- this truth value is one of the values
abbrev pub HasTruth : Bool → List Operand → Type 0
HasTruth truth values = Any (λ value. value ≡ operand.Truth truth) values

-- an operator without `IfExists`, where the key has no value
abbrev pub HoldsBare : Option Quantifier → Operator → List Operand → Type 0
HoldsBare (Some ForAllValues) operator values = ⊤
HoldsBare (Some ForAnyValue) operator values = ⊥
HoldsBare None operator values = IsTrue operator.is_negated ⊎ (IsTrue (is_null operator.base) × HasTruth true values)

-- the key has no value
abbrev pub HoldsWithout : Operator → List Operand → Type 0
HoldsWithout operator values = IsTrue operator.if_exists ⊎ HoldsBare operator.quantifier operator values

-- the key has these values; `Null` asks that it has none
abbrev pub HoldsWith : ContextValue → Operator → List Operand → List (List ℕ) → Type 0
HoldsWith context operator values texts =
    MatchBool (is_null operator.base) (HasTruth false values)
    (MatchBool (asks_every operator.quantifier operator.is_negated)
    (All (Satisfies context operator values) texts) (Any (Satisfies context operator values) texts))

-- the entry holds where its key has these values
abbrev pub HoldsOn : ContextValue → EntryValue → List (List ℕ) → Type 0
HoldsOn context entry [] = HoldsWithout entry.operator entry.values
HoldsOn context entry (text ∷ texts) = HoldsWith context entry.operator entry.values (text ∷ texts)

-- an entry holds in a context
abbrev pub EntryHolds : ContextValue → EntryValue → Type 0
EntryHolds context entry = HoldsOn context entry (values_of context entry.key)
