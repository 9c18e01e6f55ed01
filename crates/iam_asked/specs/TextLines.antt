-- Lines of which each says something of texts that a world does not name. LOGIC 13.9.
use Rattle.std.specs.Prelude.{◌≡◌, ◌<◌, ℕ, List, [], ◌∷◌, Option, Some, None, false, codes, length, option_and_then, option_map, string_bytes}
use Rattle.std.specs.List.{AllZip}
use Rattle.serde_json.specs.Data.{Data}
use Rattle.serde_json.specs.Find.{as_number, as_str, as_u64, get}
use Rattle.iam_json.specs.Look.{has_unknown}
use Rattle.iam_layers.specs.Unnamed.{HasAccount}
use Rattle.iam_world.specs.World.{WorldValue}
use Rattle.iam_world.specs.WorldFault.{IsJson}
use Rattle.iam_asked.specs.Said.{text_at}
use Rattle.iam_asked.specs.declared.texts.SaidOf.{SaidOf}
use Rattle.iam_asked.specs.declared.texts.SaidOf.TheVariants.{Like, Account}
use Rattle.iam_asked.specs.declared.texts.TextLine.{TextLine}

-- what is said of texts: all that the world says of this resource, or that they are of the account with this id
pub data SaidOfValue : Type 0 where
  like_resource : ℕ → SaidOfValue
  of_account : List ℕ → SaidOfValue

-- a pattern, and what is said of the texts that it matches
pub record TextLineValue : Type 0 where
  pub pattern : List ℕ
  pub said : SaidOfValue

-- both, as the code has them
abbrev pub said_value : SaidOf → SaidOfValue
said_value (Like n) = like_resource n
said_value (Account id) = of_account (string_bytes id)

abbrev pub text_line_of : TextLine → TextLineValue
text_line_of text = record { pattern = string_bytes text.pattern; said = said_value text.said }

-- the members that a line may have
abbrev pub text_member_names : List (List ℕ)
text_member_names = codes "pattern" ∷ (codes "like" ∷ (codes "account" ∷ []))

-- what `like` and `account` say: one of them is there, `like` with a whole number from 0 on, below 2^64, or `account` with a text
abbrev pub said_by : Option Data → Option Data → Option SaidOfValue
said_by (Some like) None = option_map like_resource (option_and_then as_u64 (as_number like))
said_by None (Some account) = option_map of_account (as_str account)
said_by None None = None
said_by (Some like) (Some account) = None

abbrev pub said_in : Data → Option SaidOfValue
said_in d = said_by (get (codes "like") d) (get (codes "account") d)

-- the JSON value has the shape of such a line, and says this. It has no member of another name
pub record IsTextShape (d : Data) (value : TextLineValue) : Type 0 where
  pub pattern : text_at (codes "pattern") d ≡ Some value.pattern
  pub said : said_in d ≡ Some value.said
  pub only : has_unknown text_member_names d ≡ false

-- the line says this
abbrev pub SaysText : List ℕ → TextLineValue → Type 0
SaysText line value = (d : Data) × IsJson line d × IsTextShape d value

-- the world has the resource, or an account with this id
abbrev pub IsKnown : WorldValue → SaidOfValue → Type 0
IsKnown world (like_resource n) = n < length world.resources
IsKnown world (of_account id) = HasAccount world id

-- the line says this of texts, and the world has what it names
abbrev pub IsTextLine : WorldValue → List ℕ → TextLineValue → Type 0
IsTextLine world line value = SaysText line value × IsKnown world value.said

-- these are the lines, in order
abbrev pub AreTextLines : WorldValue → List (List ℕ) → List TextLineValue → Type 0
AreTextLines world lines values = AllZip (IsTextLine world) lines values
