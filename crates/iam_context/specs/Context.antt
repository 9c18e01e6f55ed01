-- The context of a request: AWS IAM User Guide, "AWS global condition context keys" and "IAM policy elements:
-- Variables and tags". A text is the list of its bytes. LOGIC 9.1 and 9.2.
use Rattle.std.specs.Prelude.{ℕ, List, [], ◌∷◌, ◌++◌, Bool, false, ◌||◌, codes, map}
use Rattle.std.specs.List.{find, flat_map, list_any}
use Rattle.std.specs.Option.{option_map_or}
use Rattle.std.specs.Char.{to_ascii_lowercase}
use Rattle.std.specs.Str.{bytes_eq}

-- keys, each with its values
abbrev pub ContextValue : Type 0
ContextValue = List (List ℕ × List (List ℕ))

-- the keys of a context
abbrev pub keys_of : ContextValue → List (List ℕ)
keys_of context = map (λ entry. entry.0) context

-- two keys are the same without regard to case: the letters A to Z stand for a to z
abbrev pub is_same_key : List ℕ → List ℕ → Bool
is_same_key key other = bytes_eq (map to_ascii_lowercase key) (map to_ascii_lowercase other)

-- the key is one of these
abbrev pub has_key : List (List ℕ) → List ℕ → Bool
has_key keys key = list_any (λ k. is_same_key k key) keys

-- the values of a key, none where it is not there. A key without values is as one that is not there
abbrev pub values_of : ContextValue → List ℕ → List (List ℕ)
values_of context key = option_map_or (λ entry. entry.1) (find (λ entry. is_same_key entry.0 key) context) []

-- some key stands twice
abbrev pub has_twice : List (List ℕ) → Bool
has_twice [] = false
has_twice (key ∷ keys) = has_key keys key || has_twice keys

-- the keys that no caller gives: they follow from requester, resource and moment
abbrev pub derived_names : List (List ℕ)
derived_names =
    codes "aws:PrincipalArn" ∷ (codes "aws:username" ∷ (codes "aws:PrincipalType" ∷ (codes "aws:PrincipalAccount"
    ∷ (codes "aws:ResourceAccount" ∷ (codes "aws:CurrentTime" ∷ (codes "aws:EpochTime" ∷ []))))))

-- some key is one of these
abbrev pub has_derived : List (List ℕ) → Bool
has_derived keys = list_any (has_key derived_names) keys

-- the given parts, one behind the other
abbrev pub all_of : List ContextValue → ContextValue
all_of given = flat_map (λ part. part) given

-- the given parts, one behind the other, and the derived keys behind them
abbrev pub joined : List ContextValue → ContextValue → ContextValue
joined given derived = all_of given ++ derived
