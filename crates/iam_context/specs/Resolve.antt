-- What a text with variables becomes in a context: AWS IAM User Guide, "IAM policy elements: Variables and tags".
-- That replaced characters are no wildcards, and that a key with several values has no value here, are our choices.
-- LOGIC 4.3.
use Rattle.std.specs.Prelude.{ℕ, List, [], ◌∷◌, ◌++◌, Option, Some, map, option_map, option_and_then}
use Rattle.std.specs.Str.{chars}
use Rattle.iam_text.specs.declared.draft.Piece.{Piece}
use Rattle.iam_text.specs.declared.draft.Piece.TheVariants.{Plain, Escaped, Variable}
use Rattle.iam_glob.specs.declared.sign.Sign.{Sign}
use Rattle.iam_glob.specs.Glob.{plain_sign}
use Rattle.iam_context.specs.Context.{ContextValue, values_of}

-- the one value of a key; the default where it has none, or several
abbrev pub one_or : List (List ℕ) → Option (List ℕ) → Option (List ℕ)
one_or [] default = default
one_or (value ∷ []) default = Some value
one_or (value ∷ other ∷ values) default = default

-- the signs of a piece: a variable becomes the characters of its value, all of them plain
abbrev pub piece_signs : ContextValue → Piece → Option (List Sign)
piece_signs context (Plain sign) = Some (sign ∷ [])
piece_signs context (Escaped c) = Some (plain_sign c ∷ [])
piece_signs context (Variable key default) =
    option_map (λ value. map plain_sign (chars value)) (one_or (values_of context key) default)

-- the signs of a text; nothing where some variable has no value
abbrev pub resolved : ContextValue → List Piece → Option (List Sign)
resolved context [] = Some []
resolved context (piece ∷ pieces) =
    option_and_then (λ signs. option_map (λ rest. signs ++ rest) (resolved context pieces)) (piece_signs context piece)
