-- Elements of a statement, as JSON values: AWS IAM User Guide, "IAM JSON policy elements reference".
-- An element that is absent is `None`. LOGIC 6.2.
use Rattle.std.specs.Prelude.{ℕ, List, [], ◌∷◌, Bool, false, not, ◌&&◌, length, nat_lt, Option, Some, None, is_some, is_none, unwrap_or, if◌then◌else◌}
use Rattle.std.specs.List.{list_all, list_any, filter_map}
use Rattle.std.specs.Option.{option_map_or}
use Rattle.std.specs.Str.{bytes_eq}
use Rattle.serde_json.specs.Data.{Data}
use Rattle.serde_json.specs.Find.{as_str}
use Rattle.iam_json.specs.Look.{values}

-- the element stands there and passes the test
abbrev pub stands_as : (Data → Bool) → Option Data → Bool
stands_as test element = option_map_or test element false

-- both stand there
abbrev pub both : Option Data → Option Data → Bool
both a b = is_some a && is_some b

-- neither stands there
abbrev pub neither : Option Data → Option Data → Bool
neither a b = is_none a && is_none b

-- a value that is a text which passes the test
abbrev pub is_text : (List ℕ → Bool) → Data → Bool
is_text test d = option_map_or test (as_str d) false

-- the element stands there and is this text
abbrev pub is_this : List ℕ → Option Data → Bool
is_this text element = stands_as (is_text (λ t. bytes_eq t text)) element

-- the element stands there and is no text
abbrev pub is_no_text : Option Data → Bool
is_no_text element = stands_as (λ d. is_none (as_str d)) element

-- what stands in a list of texts; one text may stand there without brackets, and another value holds nothing
abbrev pub listed : Option Data → List Data
listed None = []
listed (Some d) = unwrap_or (values d) (if is_some (as_str d) then d ∷ [] else [])

-- the texts among them
abbrev pub texts_of : Option Data → List (List ℕ)
texts_of element = filter_map as_str (listed element)

-- one or more values, each a text that passes the test
abbrev pub are_texts : (List ℕ → Bool) → List Data → Bool
are_texts test [] = false
are_texts test (d ∷ ds) = list_all (is_text test) (d ∷ ds)

-- the element stands there, and is no text and no list of at least one text, or a text of it fails the test
abbrev pub is_bad_list : (List ℕ → Bool) → Option Data → Bool
is_bad_list test element = is_some element && not (are_texts test (listed element))

-- some text of the element passes the test
abbrev pub has_text : (List ℕ → Bool) → Option Data → Bool
has_text test element = list_any (is_text test) (listed element)

-- the list that stands there has over 4,096 members
abbrev pub is_too_long : Option Data → Bool
is_too_long element = nat_lt 4096 (length (listed element))
