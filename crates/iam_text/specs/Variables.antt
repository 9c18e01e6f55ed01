-- A test of the grammar of variables: AWS IAM User Guide, "IAM policy elements: Variables and tags". It reads a text
-- once, byte by byte; what it tells is whether the text has a draft (`Draft`). LOGIC 4.2.
use Rattle.std.specs.Prelude.{ℕ, List, [], ◌∷◌, Bool, true, false, ◌||◌, ◌==◌, Option, Some, None, if◌then◌else◌}
use Rattle.std.specs.Option.{option_map_or}
use Rattle.iam_text.specs.declared.version.Version.{Version}
use Rattle.iam_text.specs.declared.version.Version.TheVariants.{V2012, V2008}
use Rattle.iam_text.specs.Draft.{is_key_character}

-- how far a text that may hold variables is read
pub data State : Type 0 where
  outside : State  -- outside of variables
  dollar : State  -- behind a `$`
  opened : State  -- behind `${`
  escaped : State  -- behind `${*`, `${?` or `${$`
  key : State  -- in a key
  spaces : State  -- behind the comma, and maybe spaces
  default : State  -- in the default
  closing : State  -- behind the quote that ends the default

-- what the next character leads to; `None` off the grammar
abbrev pub step : State → ℕ → Option State
step outside c = if c == 36 then Some dollar else Some outside
step dollar c = if c == 123 then Some opened else (if c == 36 then Some dollar else Some outside)
step opened c = if is_key_character c then Some key else (if c == 42 || c == 63 || c == 36 then Some escaped else None)
step escaped c = if c == 125 then Some outside else None
step key c = if is_key_character c then Some key else (if c == 125 then Some outside else (if c == 44 then Some spaces else None))
step spaces c = if c == 32 then Some spaces else (if c == 39 then Some default else None)
step default c = if c == 39 then Some closing else Some default
step closing c = if c == 125 then Some outside else None

-- a text may end outside of variables, also behind a `$`
abbrev pub is_end : State → Bool
is_end outside = true
is_end dollar = true
is_end _ = false

-- the text leads from the state to an end
abbrev pub is_draft_from : State → List ℕ → Bool
is_draft_from state [] = is_end state
is_draft_from state (c ∷ text) = option_map_or (λ next. is_draft_from next text) (step state c) false

-- each `${` begins one of `${*}`, `${?}`, `${$}`, `${key}` and `${key, 'default'}`
abbrev pub is_draft : List ℕ → Bool
is_draft text = is_draft_from outside text

-- the same in a document of a version: in version 2008-10-17 each text passes
abbrev pub is_draft_in : Version → List ℕ → Bool
is_draft_in V2012 text = is_draft text
is_draft_in V2008 text = true
