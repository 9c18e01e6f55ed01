-- Keys whose values are known: what asks for no other holds in each of the contexts that agree on them, or in none. LOGIC 4.3 and 7.1.
use Rattle.std.specs.Prelude.{◌≡◌, ◌++◌, ℕ, List, [], ◌∷◌, Bool, true, false, ◌||◌, ◌&&◌, not, map}
use Rattle.std.specs.List.{list_any}
use Rattle.iam_condition.specs.Entry.{EntryValue}
use Rattle.iam_condition.specs.declared.operand.Operand.{Operand}
use Rattle.iam_condition.specs.declared.operand.Operand.TheVariants as operand
use Rattle.iam_context.specs.Code.Entries.{derived_name}
use Rattle.iam_context.specs.declared.values.DerivedKey.{DerivedKey}
use Rattle.iam_context.specs.Context.{ContextValue, has_key, keys_of, values_of}
use Rattle.iam_match.specs.Statement.{AccessValue, RequestValue}
use Rattle.iam_open.specs.Code.Time.{IsNoEarlier}
use Rattle.iam_text.specs.declared.draft.Piece.{Piece}
use Rattle.iam_text.specs.declared.draft.Piece.TheVariants.{Plain, Escaped, Variable}

-- the keys of four parts, and of these that are derived
abbrev pub keys_in : ContextValue → ContextValue → ContextValue → ContextValue → List DerivedKey → List (List ℕ)
keys_in world principal resource own derived =
    keys_of world ++ (keys_of principal ++ (keys_of resource ++ (keys_of own ++ map derived_name derived)))

-- a piece of a text asks for a key that is not known
abbrev pub piece_beyond : List (List ℕ) → Piece → Bool
piece_beyond known (Plain sign) = false
piece_beyond known (Escaped c) = false
piece_beyond known (Variable key default) = not (has_key known key)

-- a text does
abbrev pub text_beyond : List (List ℕ) → List Piece → Bool
text_beyond known pieces = list_any (piece_beyond known) pieces

-- a value does
abbrev pub operand_beyond : List (List ℕ) → Operand → Bool
operand_beyond known (operand.Text pieces) = text_beyond known pieces
operand_beyond known (operand.Number n) = false
operand_beyond known (operand.Instant nanos) = false
operand_beyond known (operand.Truth truth) = false
operand_beyond known (operand.Bytes bytes) = false
operand_beyond known (operand.Range range) = false

-- there is a value
abbrev pub has_some : List (List ℕ) → Bool
has_some [] = false
has_some (value ∷ values) = true

-- an entry does: by its own key or, where that has a value in the context, by its values
abbrev pub entry_beyond : List (List ℕ) → ContextValue → EntryValue → Bool
entry_beyond known context entry =
    not (has_key known entry.key) || (has_some (values_of context entry.key) && list_any (operand_beyond known) entry.values)

-- the contexts give the same values to each of the keys
abbrev pub AgreeOn : List (List ℕ) → ContextValue → ContextValue → Type 0
AgreeOn known one other = (key : List ℕ) → has_key known key ≡ true → values_of one key ≡ values_of other key

-- and the other is at no earlier moment
pub record Follows (known : List (List ℕ)) (one other : ContextValue) : Type 0 where
  pub agree : AgreeOn known one other
  pub later : IsNoEarlier one other

-- who asks for which resource, in another context
abbrev pub access_at : AccessValue → ContextValue → AccessValue
access_at access context = record { requester = access.requester; resource = access.resource; context = context }

-- the request for this action, in another context
abbrev pub request_in : AccessValue → List ℕ → ContextValue → RequestValue
request_in access action context = record {
  requester = access.requester;
  action = action;
  resource = access.resource;
  context = context;
}
