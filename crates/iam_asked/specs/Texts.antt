-- Where a text stands among the texts of a world. LOGIC 13.8.
use Rattle.std.specs.Prelude.{◌≡◌, ◌≢◌, ◌⊎◌, ◌<◌, ℕ, List, Some, map}
use Rattle.std.specs.Char.{to_ascii_lowercase}
use Rattle.std.specs.List.{slice_get}
use Rattle.iam_layers.specs.Cell.{principal_text}
use Rattle.iam_world.specs.World.{WorldValue}

-- the texts of principals and resources in reports
abbrev pub principal_texts : WorldValue → List (List ℕ)
principal_texts world = map principal_text world.principals

abbrev pub resource_texts : WorldValue → List (List ℕ)
resource_texts world = map (λ resource. resource.arn) world.resources

-- the text stands at this place
abbrev pub IsAt : List (List ℕ) → List ℕ → ℕ → Type 0
IsAt texts text n = slice_get texts n ≡ Some text

-- at none
abbrev pub IsNowhere : List (List ℕ) → List ℕ → Type 0
IsNowhere texts text = (n : ℕ) → ¬ IsAt texts text n

-- at this one first
abbrev pub IsFirstAt : List (List ℕ) → List ℕ → ℕ → Type 0
IsFirstAt texts text n = IsAt texts text n × ((m : ℕ) → m < n → ¬ IsAt texts text m)

-- at this one alone
abbrev pub IsOnlyAt : List (List ℕ) → List ℕ → ℕ → Type 0
IsOnlyAt texts text n = IsAt texts text n × ((m : ℕ) → IsAt texts text m → m ≡ n)

-- at several
abbrev pub IsTwice : List (List ℕ) → List ℕ → Type 0
IsTwice texts text = (m : ℕ) × (n : ℕ) × (m ≢ n) × IsAt texts text m × IsAt texts text n

-- a text without regard to the case of ASCII letters
abbrev pub folded : List ℕ → List ℕ
folded text = map to_ascii_lowercase text

-- the action that a text names: the first that is it letter by letter; where none is, the first that is it without regard to case
abbrev pub IsActionAt : List (List ℕ) → List ℕ → ℕ → Type 0
IsActionAt actions text n =
    IsFirstAt actions text n ⊎ (IsNowhere actions text × IsFirstAt (map folded actions) (folded text) n)

-- it names none
abbrev pub IsNoAction : List (List ℕ) → List ℕ → Type 0
IsNoAction actions text = IsNowhere (map folded actions) (folded text)
