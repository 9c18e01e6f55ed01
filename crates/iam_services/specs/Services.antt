-- Actions by their service prefixes, and on which of them a pattern is tried. LOGIC 2.3.
use Rattle.std.specs.Prelude.{◌≡◌, ◌+◌, ◌*◌, ◌%◌, ◌^◌, ◌==◌, ℕ, List, [], ◌∷◌, Option, Some, None, map, option_map, if◌then◌else◌}
use Rattle.std.specs.List.{Contains, range_with_len, slice_get}
use Rattle.std.specs.Str.{chars}
use Rattle.std.specs.Global.{Vec}
use Rattle.iam_glob.specs.Glob.{MatchesFold, folded, plain_sign}
use Rattle.iam_glob.specs.declared.sign.Sign.{Sign}
use Rattle.iam_glob.specs.declared.sign.Sign.TheVariants.{Given, One, Any}
use Rattle.iam_services.specs.declared.services.Services.{Services}
use Rattle.iam_services.specs.declared.tried.Tried.{Tried}
use Rattle.iam_services.specs.declared.tried.Tried.TheVariants.{All, These}

-- the service prefix: what stands before the first colon, folded, where the characters up to there are all given
abbrev pub service : List Sign → Option (List ℕ)
service [] = None
service (Given c ∷ signs) = if folded c == 58 then Some [] else option_map (λ rest. folded c ∷ rest) (service signs)
service (One ∷ signs) = None
service (Any ∷ signs) = None

-- that of an action, whose characters are all given
abbrev pub service_of : List ℕ → Option (List ℕ)
service_of action = service (map plain_sign (chars action))

-- the number that a character makes of a number, and that those of a text make of it
abbrev pub print_more : ℕ → ℕ → ℕ
print_more print c = ((print * 31) % 2 ^ 64 + c) % 2 ^ 64

abbrev pub print_from : ℕ → List ℕ → ℕ
print_from print [] = print
print_from print (c ∷ text) = print_from (print_more print c) text

-- the slot of a service prefix
abbrev pub slot_of : List ℕ → ℕ
slot_of prefix = print_from 0 prefix % 256

-- each action of the list stands with its number in the slot of its service prefix, where there is such a slot
abbrev pub AreServices : List (List ℕ) → Services → Type 0
AreServices actions services =
    (a : ℕ) (action prefix : List ℕ) (numbers : Vec ℕ) → slice_get actions a ≡ Some action → service_of action ≡ Some prefix
    → slice_get services.slots.items (slot_of prefix) ≡ Some numbers → Contains numbers.items a

-- what stood in slots stands there still, and now this number too in this slot, where there is such a slot
abbrev pub Puts : List (Vec ℕ) → List (Vec ℕ) → ℕ → ℕ → Type 0
Puts old new slot number =
    (i : ℕ) (numbers : Vec ℕ) → slice_get new i ≡ Some numbers
    → (before : Vec ℕ) × (slice_get old i ≡ Some before) × ((a : ℕ) → Contains before.items a → Contains numbers.items a)
    × (i ≡ slot → Contains numbers.items number)

-- the numbers of the actions on which a pattern is tried
abbrev pub numbers_of : Tried → List ℕ
numbers_of (All count) = range_with_len 0 count
numbers_of (These numbers) = numbers.now

-- the pattern is tried on each action of the list that it matches
abbrev pub TriesMatched : List (List ℕ) → List Sign → List ℕ → Type 0
TriesMatched actions pattern numbers =
    (a : ℕ) (action : List ℕ) → slice_get actions a ≡ Some action → MatchesFold pattern (chars action) → Contains numbers a
