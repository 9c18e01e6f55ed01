-- What a line of a file of requests says, before it is held against a world. LOGIC 13.8.
use Rattle.std.specs.Prelude.{◌≡◌, ◌≤◌, ℕ, List, [], ◌∷◌, Option, Some, true, false, codes, length, option_and_then}
use Rattle.std.specs.Option.{option_map_or}
use Rattle.serde_json.specs.Data.{Data}
use Rattle.serde_json.specs.Find.{as_str, get}
use Rattle.iam_context.specs.Context.{ContextValue}
use Rattle.iam_json.specs.Look.{has_unknown}
use Rattle.iam_shape.specs.Shape.{is_context}
use Rattle.iam_world.specs.WorldFault.{IsJson}
use Rattle.iam_world_context.specs.Part.{part_of}

-- who asks to do what with what, as texts, and the keys that the request gives itself
pub record SaidValue : Type 0 where
  pub principal : List ℕ
  pub action : List ℕ
  pub resource : List ℕ
  pub own : ContextValue

-- the members that a request may have
abbrev pub member_names : List (List ℕ)
member_names = codes "principal" ∷ (codes "action" ∷ (codes "resource" ∷ (codes "context" ∷ [])))

-- the text that stands under this name
abbrev pub text_at : List ℕ → Data → Option (List ℕ)
text_at name d = option_and_then as_str (get name d)

-- the JSON value has the shape of a request, and says this. It may have no context, and has no member of another name
pub record IsSaid (d : Data) (said : SaidValue) : Type 0 where
  pub principal : text_at (codes "principal") d ≡ Some said.principal
  pub action : text_at (codes "action") d ≡ Some said.action
  pub resource : text_at (codes "resource") d ≡ Some said.resource
  pub context : option_map_or is_context (get (codes "context") d) true ≡ true
  pub own : said.own ≡ part_of (get (codes "context") d)
  pub only : has_unknown member_names d ≡ false

-- the bytes are not too many for a line
abbrev pub IsShort : List ℕ → Type 0
IsShort line = length line ≤ 8388608

-- the line says this
abbrev pub Says : List ℕ → SaidValue → Type 0
Says line said = IsShort line × ((d : Data) × IsJson line d × IsSaid d said)
