-- Which keys the conditions of a statement ask for. LOGIC 4.3 and 7.1.
use Rattle.std.specs.Prelude.{◌≡◌, ℕ, List, Bool, false, ◌||◌}
use Rattle.std.specs.List.{list_any}
use Rattle.iam_text.specs.declared.draft.Piece.{Piece}
use Rattle.iam_text.specs.declared.draft.Piece.TheVariants.{Plain, Escaped, Variable}
use Rattle.iam_context.specs.Context.{ContextValue, has_key, values_of}
use Rattle.iam_condition.specs.declared.operand.Operand.{Operand}
use Rattle.iam_condition.specs.declared.operand.Operand.TheVariants as operand
use Rattle.iam_condition.specs.Entry.{EntryValue}

-- a piece of a text asks for one of these keys
abbrev pub piece_asks : List (List ℕ) → Piece → Bool
piece_asks keys (Plain sign) = false
piece_asks keys (Escaped c) = false
piece_asks keys (Variable key default) = has_key keys key

-- a value does
abbrev pub operand_asks : List (List ℕ) → Operand → Bool
operand_asks keys (operand.Text pieces) = list_any (piece_asks keys) pieces
operand_asks keys (operand.Number n) = false
operand_asks keys (operand.Instant nanos) = false
operand_asks keys (operand.Truth truth) = false
operand_asks keys (operand.Bytes bytes) = false
operand_asks keys (operand.Range range) = false

-- an entry does, by its own key or by its values
abbrev pub entry_asks : List (List ℕ) → EntryValue → Bool
entry_asks keys entry = has_key keys entry.key || list_any (operand_asks keys) entry.values

-- two contexts give the same values to each key that is none of these
abbrev pub AgreeBut : List (List ℕ) → ContextValue → ContextValue → Type 0
AgreeBut keys one other = (key : List ℕ) → has_key keys key ≡ false → values_of one key ≡ values_of other key
