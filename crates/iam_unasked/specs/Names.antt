-- A few keys that stand for a list of them. LOGIC 9.2.
use Rattle.std.specs.Prelude.{◌≡◌, ℕ, List}
use Rattle.std.specs.List.{list_any}
use Rattle.iam_context.specs.Context.{has_key, is_same_key}
use Rattle.iam_unasked.specs.declared.names.Names.{Names}

-- they have just the keys of the list
abbrev pub HasNames : Names → List (List ℕ) → Type 0
HasNames names list = (key : List ℕ) → list_any (λ name. is_same_key name.now key) names.names.items ≡ has_key list key
