-- Single values that stand for a text: a text for itself, a Boolean for `true` or `false`, a whole number for its
-- decimal text. A whole number is one that is read as a signed or unsigned number of 64 bits. LOGIC 1.3.
use Rattle.std.specs.Prelude.{ℕ, List, Bool, true, ◌&&◌, Option, Some, None, codes, is_some, if◌then◌else◌, decimal}
use Rattle.std.specs.Fmt.{signed_decimal}
use Rattle.serde_json.specs.Data.{Data, null, boolean, number, string, array, object, Num, unsigned, negative, float, Members, no_members, member}

-- the decimal text of a whole number
abbrev pub whole_text : Num → Option (List ℕ)
whole_text (unsigned n) = Some (decimal n)
whole_text (negative z) = Some (signed_decimal z)
whole_text (float x) = None

-- the text of a single value; null, a number that is not whole, a list or an object has none
abbrev pub scalar_text : Data → Option (List ℕ)
scalar_text null = None
scalar_text (boolean b) = Some (if b then codes "true" else codes "false")
scalar_text (number n) = whole_text n
scalar_text (string text) = Some text
scalar_text (array ds) = None
scalar_text (object ms) = None

abbrev pub is_scalar : Data → Bool
is_scalar d = is_some (scalar_text d)

-- each member's value passes the test
abbrev pub all_members : (Data → Bool) → Members → Bool
all_members test no_members = true
all_members test (member name d rest) = test d && all_members test rest
