-- Where the keys of a part stand, by their prints.
use Rattle.std.specs.Prelude.{◌≡◌, ◌<◌, ◌+◌, ◌*◌, ◌%◌, ◌^◌, ℕ, List, [], ◌∷◌, Option, Some, None, true, length, map, slice_index_or}
use Rattle.std.specs.BTreeMap.{BTreeMap, get_by}
use Rattle.std.specs.Char.{to_ascii_lowercase}
use Rattle.std.specs.Ordering.{nat_cmp}
use Rattle.iam_context.specs.Context.{ContextValue, is_same_key}
use Rattle.iam_context.specs.Code.Values.{first_values}

-- a key with its values
abbrev pub Entry : Type 0
Entry = List ℕ × List (List ℕ)

-- the number that the bytes of a text make of a number
abbrev pub print_from : ℕ → List ℕ → ℕ
print_from print [] = print
print_from print (c ∷ text) = print_from (((print * 1099511628211) % 2 ^ 64 + c) % 2 ^ 64) text

-- the print of a key, once the letters A to Z are folded
abbrev pub key_print : List ℕ → ℕ
key_print key = print_from 0 (map to_ascii_lowercase key)

-- the place of a print, and of a key by its print
abbrev pub place_of : BTreeMap ℕ ℕ → ℕ → Option ℕ
place_of places print = get_by (nat_cmp print) places

-- a key that has no place does not stand in the part; where a key has a place and stands there, it stands nowhere before
pub record HasPlaces (places : BTreeMap ℕ ℕ) (context : ContextValue) : Type 0 where
  pub absent : (key : List ℕ) → place_of places (key_print key) ≡ None → first_values context key ≡ None
  pub within : (print i : ℕ) → place_of places print ≡ Some i → i < length context
  pub first : (key : List ℕ) (i : ℕ) (entry : Entry) → place_of places (key_print key) ≡ Some i
      → entry ≡ slice_index_or context i entry → is_same_key entry.0 key ≡ true → first_values context key ≡ Some entry.1
