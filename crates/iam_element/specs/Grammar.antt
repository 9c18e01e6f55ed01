-- Tests on the texts of a statement: AWS IAM User Guide, "Grammar of the IAM JSON policy language".
-- A text is the list of its bytes. LOGIC 4.1 and 6.7.
use Rattle.std.specs.Prelude.{ℕ, List, [], ◌∷◌, Bool, true, false, not, ◌&&◌, ◌||◌, ◌==◌, length, nat_eq, nat_le, nat_lt, codes, Option, Some, None, option_map, if◌then◌else◌}
use Rattle.std.specs.List.{starts_with, list_any}
use Rattle.std.specs.Option.{option_map_or}
use Rattle.std.specs.Str.{bytes_eq}
use Rattle.std.specs.Char.{is_ascii_alphanumeric}
use Rattle.serde_json.specs.Data.{Data}
use Rattle.serde_json.specs.Find.{get}
use Rattle.iam_text.specs.declared.version.Version.{Version}
use Rattle.iam_text.specs.declared.version.Version.TheVariants.{V2012, V2008}
use Rattle.iam_element.specs.declared.grammar.TextForm.{TextForm}
use Rattle.iam_element.specs.declared.grammar.TextForm.TheVariants.{Action, Resource, BadVariable, AwsName, AnyName}
use Rattle.iam_element.specs.ActionPattern.{is_action_pattern, is_wildcard}
use Rattle.iam_element.specs.Element.{has_text}
use Rattle.iam_text.specs.Arn.{colons}
use Rattle.iam_text.specs.Characters.{is_run, is_account}
use Rattle.iam_text.specs.Variables.{is_draft}

-- a text that begins with `arn:`
abbrev pub begins_as_arn : List ℕ → Bool
begins_as_arn text = starts_with nat_eq text (codes "arn:")

-- `*`, or a text that begins with `arn:`
abbrev pub is_resource_pattern : List ℕ → Bool
is_resource_pattern text = bytes_eq text (codes "*") || begins_as_arn text

-- what stands before the first `${`; `None` where there is none
abbrev pub before_variable : List ℕ → Option (List ℕ)
before_variable [] = None
before_variable (c ∷ []) = None
before_variable (c ∷ d ∷ text) =
    if c == 36 && d == 123 then Some [] else option_map (λ front. c ∷ front) (before_variable (d ∷ text))

-- a `${` stands there, and fewer than five colons before the first one
abbrev pub has_early_variable : List ℕ → Bool
has_early_variable text = option_map_or (λ front. nat_lt (colons front) 5) (before_variable text) false

-- a resource text off the variable grammar, or one whose first `${` stands in its first five parts; in a document of
-- version 2008-10-17 no variable begins
abbrev pub is_bad_variable : Version → List ℕ → Bool
is_bad_variable V2012 text = not (is_draft text) || has_early_variable text
is_bad_variable V2008 text = false

-- a text that begins with `arn:`, has six parts, and holds no wildcard
abbrev pub is_whole_arn : List ℕ → Bool
is_whole_arn text = begins_as_arn text && nat_le 5 (colons text) && not (list_any is_wildcard text)

-- the unique id of a principal: 1 to 128 ASCII letters or digits
abbrev pub is_unique_id : List ℕ → Bool
is_unique_id text = is_run is_ascii_alphanumeric text && nat_le (length text) 128

-- a text under `AWS`: `*`, an account, an ARN or a unique id
abbrev pub is_aws_name : List ℕ → Bool
is_aws_name text = bytes_eq text (codes "*") || is_account text || is_whole_arn text || is_unique_id text

-- any text
abbrev pub is_any_name : List ℕ → Bool
is_any_name text = true

-- the tests, by the name that the code gives them
abbrev pub form_of : TextForm → List ℕ → Bool
form_of Action = is_action_pattern
form_of Resource = is_resource_pattern
form_of (BadVariable version) = is_bad_variable version
form_of AwsName = is_aws_name
form_of AnyName = is_any_name

-- a text of `Resource` or `NotResource` is off the variable grammar of the version, or has a variable too early
abbrev pub has_bad_variable : Version → Data → Bool
has_bad_variable version s =
    has_text (is_bad_variable version) (get (codes "Resource") s)
    || has_text (is_bad_variable version) (get (codes "NotResource") s)
