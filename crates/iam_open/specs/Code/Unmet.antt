-- Entries that no value of their key meets, since none of their texts becomes a pattern by what is known. LOGIC 4.3 and 7.4.
use Rattle.std.specs.Prelude.{◌≡◌, ◌⊎◌, ℕ, List, Some, None, false}
use Rattle.iam_condition.specs.declared.operand.Operand.{Operand}
use Rattle.iam_condition.specs.declared.operand.Operand.TheVariants as operand
use Rattle.iam_condition.specs.declared.operator.Operator.{Operator}
use Rattle.iam_condition.specs.declared.operator.Quantifier.TheVariants.{ForAnyValue}
use Rattle.iam_context.specs.Context.{ContextValue}
use Rattle.iam_context.specs.Resolve.{resolved}
use Rattle.iam_open.specs.Code.Known.{text_beyond}
use Rattle.iam_text.specs.declared.draft.Piece.{Piece}

-- the text asks for known keys alone, and becomes no pattern by them
pub record IsUnresolved (known : List (List ℕ)) (context : ContextValue) (pieces : List Piece) : Type 0 where
  pub free : text_beyond known pieces ≡ false
  pub none : resolved context pieces ≡ None

-- a value is such a text
abbrev pub IsUnmet : List (List ℕ) → ContextValue → Operand → Type 0
IsUnmet known context value = (pieces : List Piece) × (value ≡ operand.Text pieces) × IsUnresolved known context pieces

-- the operator holds only where a value of the key matches
pub record AsksForOne (operator : Operator) : Type 0 where
  pub plain : operator.is_negated ≡ false
  pub present : operator.if_exists ≡ false
  pub some : (operator.quantifier ≡ None) ⊎ (operator.quantifier ≡ Some ForAnyValue)
