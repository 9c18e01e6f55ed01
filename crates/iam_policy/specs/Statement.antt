-- The elements `Sid` and `Effect` of a statement: AWS IAM User Guide, "IAM JSON policy elements reference". LOGIC 6.2.
use Rattle.std.specs.Prelude.{ℕ, List, Option, Some, None, codes, option_and_then, if◌then◌else◌}
use Rattle.std.specs.Str.{bytes_eq}
use Rattle.serde_json.specs.Data.{Data}
use Rattle.serde_json.specs.Find.{get, as_str}
use Rattle.iam_policy.specs.declared.effect.Effect.{Effect}
use Rattle.iam_policy.specs.declared.effect.Effect.TheVariants.{Allow, Deny}

-- the `Sid` of a statement, where it is a text
abbrev pub sid_of : Data → Option (List ℕ)
sid_of s = option_and_then as_str (get (codes "Sid") s)

-- the effect that a word names
abbrev pub effect_named : List ℕ → Option Effect
effect_named word =
    if bytes_eq word (codes "Allow") then Some Allow
    else (if bytes_eq word (codes "Deny") then Some Deny else None)

-- the effect of a statement, where it has one
abbrev pub effect_of : Data → Option Effect
effect_of s = option_and_then effect_named (option_and_then as_str (get (codes "Effect") s))
