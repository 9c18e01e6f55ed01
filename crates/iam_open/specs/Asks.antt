-- The keys that a statement asks for, and those of several keys that are not known, each once. LOGIC 11.11.
use Rattle.std.specs.Prelude.{◌++◌, ℕ, List, [], ◌∷◌, Bool, not, Option, Some, None, if◌then◌else◌}
use Rattle.std.specs.List.{flat_map, list_any}
use Rattle.iam_condition.specs.Entry.{EntryValue}
use Rattle.iam_condition.specs.declared.operand.Operand.{Operand}
use Rattle.iam_condition.specs.declared.operand.Operand.TheVariants as operand
use Rattle.iam_context.specs.Context.{has_key}
use Rattle.iam_element.specs.Reading.{ResourceElement}
use Rattle.iam_policy.specs.Reading.{StatementValue}
use Rattle.iam_text.specs.declared.draft.Piece.{Piece}
use Rattle.iam_text.specs.declared.draft.Piece.TheVariants.{Plain, Escaped, Variable}

-- a piece of a text asks for the key of its variable, if it is one
abbrev pub piece_keys : Piece → List (List ℕ)
piece_keys (Plain sign) = []
piece_keys (Escaped c) = []
piece_keys (Variable key default) = key ∷ []

-- a text for those of its variables, in their order
abbrev pub text_keys : List Piece → List (List ℕ)
text_keys pieces = flat_map piece_keys pieces

-- a value of an entry for those of the text that it is, if it is one
abbrev pub operand_keys : Operand → List (List ℕ)
operand_keys (operand.Text pieces) = text_keys pieces
operand_keys (operand.Number n) = []
operand_keys (operand.Instant nanos) = []
operand_keys (operand.Truth truth) = []
operand_keys (operand.Bytes bytes) = []
operand_keys (operand.Range range) = []

-- an entry for its own key, and then for those of its values
abbrev pub entry_keys : EntryValue → List (List ℕ)
entry_keys entry = entry.key ∷ flat_map operand_keys entry.values

-- a resource element for those of its texts
abbrev pub element_keys : Option ResourceElement → List (List ℕ)
element_keys None = []
element_keys (Some element) = flat_map text_keys element.texts

-- a statement for those of its resource element, and then for those of its entries
abbrev pub keys_asked : StatementValue → List (List ℕ)
keys_asked s = element_keys s.resource ++ flat_map entry_keys s.conditions

-- one of the keys is none of the known ones
abbrev pub is_beyond : List (List ℕ) → List (List ℕ) → Bool
is_beyond known keys = list_any (λ key. not (has_key known key)) keys

-- the keys and behind them one more, unless it is known or one of them
abbrev pub added : List (List ℕ) → List (List ℕ) → List ℕ → List (List ℕ)
added known keys key = if has_key (known ++ keys) key then keys else keys ++ (key ∷ [])

-- and one after the other of those that are asked for
abbrev pub all_added : List (List ℕ) → List (List ℕ) → List (List ℕ) → List (List ℕ)
all_added known keys [] = keys
all_added known keys (key ∷ asked) = all_added known (added known keys key) asked
