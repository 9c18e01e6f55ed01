-- Looking into JSON values. LOGIC 6.1.
use Rattle.std.specs.Prelude.{ℕ, List, [], ◌∷◌, Bool, false, not, ◌||◌, Option, Some, None}
use Rattle.std.specs.List.{list_any}
use Rattle.std.specs.Option.{option_map_or}
use Rattle.std.specs.Str.{bytes_eq}
use Rattle.serde_json.specs.Data.{Data, null, boolean, number, string, array, object, Items, no_items, item, Members, no_members, member}
use Rattle.serde_json.specs.Find.{as_object}

-- the values of a JSON list, in order
abbrev pub list_of : Items → List Data
list_of no_items = []
list_of (item d ds) = d ∷ list_of ds

-- the values of a list; another value is none
abbrev pub values : Data → Option (List Data)
values null = None
values (boolean b) = None
values (number n) = None
values (string text) = None
values (array ds) = Some (list_of ds)
values (object ms) = None

-- some member of the object has a name that is not known
abbrev pub has_other : (List ℕ → Bool) → Members → Bool
has_other is_known no_members = false
has_other is_known (member name d rest) = not (is_known name) || has_other is_known rest

-- one of these texts
abbrev pub is_one_of : List (List ℕ) → List ℕ → Bool
is_one_of names name = list_any (bytes_eq name) names

-- an object with a member of none of these names; no other value has one
abbrev pub has_unknown : List (List ℕ) → Data → Bool
has_unknown names d = option_map_or (has_other (is_one_of names)) (as_object d) false
