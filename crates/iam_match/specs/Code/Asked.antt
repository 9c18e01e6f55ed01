-- A text of a request as the code reads it under an operator, beside the definition (`Entry`).
use Rattle.std.specs.Prelude.{◌≡◌, ◌↔◌, ℕ, List, Bool, false, Option, Some, None, IsTrue, MatchOption}
use Rattle.iam_text.specs.Arn.{IsArn, parts_of}
use Rattle.iam_text.specs.declared.arn.Arn.{Arn}
use Rattle.iam_value.specs.Address.{IsAddress}
use Rattle.iam_value.specs.Moment.{IsMoment}
use Rattle.iam_value.specs.Values.{IsBase64, IsTruth, IsWhole}
use Rattle.iam_context.specs.Context.{ContextValue}
use Rattle.iam_condition.specs.declared.operand.Operand.{Operand}
use Rattle.iam_condition.specs.declared.operator.Base.{Base}
use Rattle.iam_condition.specs.declared.operator.Base.TheVariants as base
use Rattle.iam_condition.specs.Operand.{has_texts}
use Rattle.iam_match.specs.declared.asked.Asked.{Asked}
use Rattle.iam_match.specs.declared.asked.Asked.TheVariants as asked
use Rattle.iam_match.specs.Entry.{Resolves, ValueMatches}

-- v is such a value, and no other is
abbrev pub IsThe : {A : Type 0} → (A → Type 0) → A → Type 0
IsThe {A} P v = P v × ((other : A) → P other → other ≡ v)

-- the six parts of the text, or nothing where it has none
abbrev pub IsArnOf : List ℕ → Option Arn → Type 0
IsArnOf text found = MatchOption found ((parts : List (List ℕ)) → ¬ IsArn parts text) (λ a. IsThe (λ parts. IsArn parts text) (parts_of a))

-- the text, as the operator reads it; nothing where no value can match it
abbrev pub IsAsked : Base → List ℕ → Asked → Type 0
IsAsked b text (asked.Text t test) = (b ≡ base.Text test) × (t.now ≡ text)
IsAsked b text (asked.Arn found) = (b ≡ base.Arn) × IsArnOf text found
IsAsked b text (asked.Number n order) = (b ≡ base.Number order) × IsThe (IsWhole text) n
IsAsked b text (asked.Instant n order) = (b ≡ base.Date order) × IsThe (IsMoment text) n
IsAsked b text (asked.Truth truth) = (b ≡ base.Truth) × IsThe (IsTruth text) truth
IsAsked b text (asked.Bytes bytes) = (b ≡ base.Binary) × IsThe (IsBase64 text) bytes
IsAsked b text (asked.Address address) = (b ≡ base.Address) × IsThe (IsAddress text) address
IsAsked b text asked.Nothing =
    (has_texts b ≡ false) × ((context : ContextValue) (value : Operand) → ¬ ValueMatches context b text value)

-- nothing where the value does not resolve, else whether the text matches it
abbrev pub IsComparison : ContextValue → Base → List ℕ → Operand → Option Bool → Type 0
IsComparison context b text value None = ¬ Resolves context b value × ¬ ValueMatches context b text value
IsComparison context b text value (Some matched) =
    Resolves context b value × (IsTrue matched ↔ ValueMatches context b text value)

-- the value resolves, and the text does not match it
abbrev pub ValueDiffers : ContextValue → Base → List ℕ → Operand → Type 0
ValueDiffers context b text value = Resolves context b value × ¬ ValueMatches context b text value
