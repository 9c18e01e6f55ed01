-- The keys that a context of a world document gives, with their values. LOGIC 12.1.
use Rattle.std.specs.Prelude.{ℕ, List, [], ◌∷◌, Option, option_and_then}
use Rattle.std.specs.List.{filter_map}
use Rattle.std.specs.Option.{option_map_or, option_to_list}
use Rattle.serde_json.specs.Data.{Data, Members, no_members, member}
use Rattle.serde_json.specs.Find.{as_object}
use Rattle.iam_json.specs.Look.{values}
use Rattle.iam_json.specs.Scalar.{scalar_text}
use Rattle.iam_context.specs.Context.{ContextValue}

-- the texts of a key's value: of each of a list, or of the one value
abbrev pub value_texts : Data → List (List ℕ)
value_texts d = option_map_or (filter_map scalar_text) (values d) (option_to_list (scalar_text d))

-- the members of an object, in the order of their names' bytes
abbrev pub members_part : Members → ContextValue
members_part no_members = []
members_part (member name d rest) = (name, value_texts d) ∷ members_part rest

-- a context that is absent gives no keys
abbrev pub part_of : Option Data → ContextValue
part_of context = option_map_or members_part (option_and_then as_object context) []
