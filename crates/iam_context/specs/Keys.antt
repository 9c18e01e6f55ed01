-- A set of keys that stands for a list of them. LOGIC 9.2 and 9.3.
use Rattle.std.specs.Prelude.{◌≡◌, ℕ, List, Bool, ◌||◌}
use Rattle.std.specs.BTreeSet.{BTreeSet, contains_by}
use Rattle.std.specs.Cmp.Lexicographic.{slice_cmp}
use Rattle.std.specs.List.{list_any}
use Rattle.std.specs.Ordering.{nat_cmp}
use Rattle.std.specs.declared.cmp.Ordering.{Ordering}
use Rattle.iam_context.specs.Context.{has_key, has_twice}
use Rattle.iam_context.specs.Order.{backwards}
use Rattle.iam_context.specs.declared.key.Key.{Key}
use Rattle.iam_context.specs.declared.keys.Keys.{Keys}

-- the order of keys: that of their bytes from the last to the first, once the letters A to Z are folded
abbrev pub key_cmp : List ℕ → List ℕ → Ordering
key_cmp key other = slice_cmp nat_cmp (backwards key) (backwards other)

-- whether the set has the key
abbrev pub contains_key : BTreeSet Key → List ℕ → Bool
contains_key set key = contains_by (λ k. key_cmp key k.0.now) set

-- the set has these keys
abbrev pub HasKeys : Keys → List (List ℕ) → Type 0
HasKeys keys list = (key : List ℕ) → contains_key keys.set key ≡ has_key list key

-- some key is one of the others, or stands twice
abbrev pub shares : List (List ℕ) → List (List ℕ) → Bool
shares others keys = list_any (has_key others) keys || has_twice keys
