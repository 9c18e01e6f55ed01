-- What is found for a key.
use Rattle.std.specs.Prelude.{ℕ, List, Option, option_map}
use Rattle.std.specs.List.{find}
use Rattle.iam_context.specs.Context.{ContextValue, is_same_key}

-- the values of the first entry with the key
abbrev pub first_values : ContextValue → List ℕ → Option (List (List ℕ))
first_values context key = option_map (λ entry. entry.1) (find (λ entry. is_same_key entry.0 key) context)
