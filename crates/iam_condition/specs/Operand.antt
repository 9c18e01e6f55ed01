-- The values of operators: AWS IAM User Guide, "IAM JSON policy elements: Condition operators". LOGIC 7.3.
use Rattle.std.specs.Prelude.{◌≡◌, ℕ, ℤ, List, Bool, true, false, Option, Some, None, is_some, MatchOption}
use Rattle.iam_text.specs.declared.draft.Piece.{Piece}
use Rattle.iam_text.specs.declared.version.Version.{Version}
use Rattle.iam_text.specs.Draft.{IsDraftIn}
use Rattle.iam_value.specs.Address.{Block, IsRange}
use Rattle.iam_value.specs.Moment.{IsMoment}
use Rattle.iam_value.specs.Values.{IsBase64, IsTruth, IsWhole}
use Rattle.iam_condition.specs.declared.operator.Base.{Base}
use Rattle.iam_condition.specs.declared.operator.Base.TheVariants.{Text, Arn, Number, Date, Truth, Binary, Address, Null}
use Rattle.iam_condition.specs.declared.operator.TextTest.{TextTest}
use Rattle.iam_condition.specs.declared.operator.TextTest.TheVariants.{Like}
use Rattle.iam_condition.specs.declared.operand.Operand.{Operand}
use Rattle.iam_condition.specs.declared.operand.Operand.TheVariants as operand

-- whether `*` and `?` are wildcards in the values of a string operator
abbrev pub is_wild : TextTest → Bool
is_wild Like = true
is_wild _ = false

-- for the string and the ARN operators, whose values are texts that may hold variables: whether `*` and `?` are
-- wildcards there
abbrev pub text_form : Base → Option Bool
text_form (Text test) = Some (is_wild test)
text_form Arn = Some true
text_form _ = None

-- the values are such texts
abbrev pub has_texts : Base → Bool
has_texts base = is_some (text_form base)

-- a text of a policy of the version, as a string or an ARN operator reads it
abbrev pub IsTextOperand : Version → Bool → List ℕ → Operand → Type 0
IsTextOperand version wild text value = (pieces : List Piece) × (value ≡ operand.Text pieces) × IsDraftIn version wild text pieces

-- a text of a policy, as another operator reads it
abbrev pub IsValueOperand : Base → List ℕ → Operand → Type 0
IsValueOperand (Text test) text value = ⊥
IsValueOperand Arn text value = ⊥
IsValueOperand (Number order) text value = (n : ℤ) × (value ≡ operand.Number n) × IsWhole text n
IsValueOperand (Date order) text value = (nanos : ℤ) × (value ≡ operand.Instant nanos) × IsMoment text nanos
IsValueOperand Truth text value = (truth : Bool) × (value ≡ operand.Truth truth) × IsTruth text truth
IsValueOperand Binary text value = (bytes : List ℕ) × (value ≡ operand.Bytes bytes) × IsBase64 text bytes
IsValueOperand Address text value = (range : Block) × (value ≡ operand.Range range) × IsRange text range
IsValueOperand Null text value = (truth : Bool) × (value ≡ operand.Truth truth) × IsTruth text truth

-- a text of a policy of the version, as its operator reads it
abbrev pub IsOperand : Version → Base → List ℕ → Operand → Type 0
IsOperand version base text value =
    MatchOption (text_form base) (IsValueOperand base text value) (λ wild. IsTextOperand version wild text value)

-- the text is off the grammar of the operator's values. Each text is a value of a string and of an ARN operator; that
-- its variables are off their grammar is another fault
abbrev pub IsOffGrammar : Base → List ℕ → Type 0
IsOffGrammar base text = (has_texts base ≡ false) × ((value : Operand) → ¬ IsValueOperand base text value)
