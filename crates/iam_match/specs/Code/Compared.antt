-- What comparing a text of a request with a text of a policy gives, beside the definitions (`Entry`, `Statement`).
use Rattle.std.specs.Prelude.{◌≡◌, ◌↔◌, ◌⊎◌, ℕ, List, [], ◌∷◌, Bool, Option, Some, None, IsSome, IsTrue, false}
use Rattle.iam_text.specs.declared.draft.Piece.{Piece}
use Rattle.iam_text.specs.Arn.{parts_of}
use Rattle.iam_text.specs.declared.arn.Arn.{Arn}
use Rattle.iam_glob.specs.declared.sign.Sign.{Sign}
use Rattle.iam_glob.specs.declared.sign.Sign.TheVariants as sign
use Rattle.iam_context.specs.Context.{ContextValue}
use Rattle.iam_context.specs.Resolve.{resolved}
use Rattle.iam_condition.specs.declared.operand.Operand.{Operand}
use Rattle.iam_condition.specs.declared.operand.Operand.TheVariants as operand
use Rattle.iam_match.specs.Entry.{PartsMatch}
use Rattle.iam_match.specs.Statement.{TextMatches}

-- nothing where there is no pattern, else whether P holds of it
abbrev pub TellsOfPattern : Option (List Sign) → (List Sign → Type 0) → Option Bool → Type 0
TellsOfPattern pattern P None = pattern ≡ None
TellsOfPattern pattern P (Some holds) = (signs : List Sign) × (pattern ≡ Some signs) × (IsTrue holds ↔ P signs)

-- the text becomes a pattern that does not match the resource
abbrev pub TextDiffers : ContextValue → List ℕ → List Piece → Type 0
TextDiffers context resource text = IsSome (resolved context text) × ¬ TextMatches context resource text

-- the signs match the parts of the ARN, where there is one
abbrev pub ArnFits : Option Arn → List Sign → Type 0
ArnFits None signs = ⊥
ArnFits (Some arn) signs = (signs ≡ sign.Any ∷ []) ⊎ PartsMatch signs (parts_of arn)

-- the answer of a text of the policy; no pattern of another value is passed
abbrev pub IsTextAnswer : ContextValue → Operand → (List Sign → Type 0) → Option Bool → Type 0
IsTextAnswer context (operand.Text pieces) P answer = TellsOfPattern (resolved context pieces) P answer
IsTextAnswer context _ P answer = answer ≡ Some false
